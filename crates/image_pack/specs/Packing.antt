-- What packing asks of lent tables, and what they say of the records.
use Rattle.std.specs.Prelude.{ℕ, ◌*◌, ◌≤◌, length}
use Rattle.rules.specs.Numbers.{most_actions, most_levels}
use Rattle.rules.specs.Image.{Profile, ProfileTables, of_tables}
use Rattle.image_pack.specs.declared.Tables.{Tables}

-- What lent tables hold.
abbrev pub tables_of : Tables → ProfileTables
tables_of t = record { masks = t.masks.now; deadlines = t.deadlines.now; averages = t.averages.now; worst = t.worst.now }

-- Tables with what n actions at L levels need.
pub record Roomy (n L : ℕ) (T : ProfileTables) : Type 0 where
  pub few_actions : n ≤ most_actions
  pub few_levels : L ≤ most_levels
  pub masks_room : n ≤ length T.masks
  pub deadlines_room : n ≤ length T.deadlines
  pub averages_room : n * L ≤ length T.averages
  pub worst_room : n * L ≤ length T.worst

-- What the tables say of the records, which have neither n nor the cycle.
abbrev pub of_records : ℕ → ProfileTables → Profile
of_records L T = of_tables 0 L 0 T
