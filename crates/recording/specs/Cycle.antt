-- What the functions that run a frame say to each other.
use Rattle.std.specs.Prelude.{ℕ, zero, suc, ◌≡◌, List, replicate}
use Rattle.rules.specs.Numbers.{most_actions, most_levels, longest_coast}
use Rattle.rules.specs.Limits.{LentTables}
use Rattle.rules.specs.Run.{Run, lent}
use Rattle.rules.specs.Dry.{before, level_of, cell, dry_end}
use Rattle.rules.specs.Recording.{durations, lowest_of, lowest_given}
use Rattle.run.specs.Dry.{DryLists}
use Rattle.run.specs.Cycle.{Waiting}

-- A frame writes no lists: these stand where the run's own dry run has its two.
abbrev pub unwritten : DryLists
unwritten = record { levels = replicate most_actions 0; decided = replicate most_actions 0 }

-- A record that waits for its next action, with all the entries that the rest of its cycle reads.
abbrev pub Waits : LentTables → List ℕ → Run → Type 0
Waits T frame r = Waiting T (durations frame) unwritten r

-- Of position i of the frame's cycle: the record before it, and the level that it gets.
abbrev pub before_at : ℕ → ℕ → LentTables → List ℕ → ℕ → Run
before_at n L T frame i = before longest_coast (lent n L T) (cell T.worst L) (cell (durations frame) L) 0 i

abbrev pub level_at : ℕ → ℕ → LentTables → List ℕ → ℕ → ℕ
level_at n L T frame i = level_of longest_coast (lent n L T) (cell T.worst L) (cell (durations frame) L) 0 i

-- The lowest of f 0 .. f (i - 1); of none what no level reaches.
unfoldable pub lowest_before : (ℕ → ℕ) → ℕ → ℕ
lowest_before f zero = most_levels
lowest_before f (suc m) = lowest_of f m

-- A cycle so far: its record, and the lowest level given.
pub record Cycling (n L : ℕ) (T : LentTables) (frame : List ℕ) (r : Run) (lowest : ℕ) : Type 0 where
  pub ready : Waits T frame r
  pub n_is : r.n ≡ n
  pub levels_are : r.levels ≡ L
  pub is : r ≡ before_at n L T frame r.position
  pub lowest_is : lowest ≡ lowest_before (level_at n L T frame) r.position

-- At its end.
pub record Ends (n L : ℕ) (T : LentTables) (frame : List ℕ) (last : Run) (lowest : ℕ) : Type 0 where
  pub last_is : last ≡ dry_end n L T (durations frame)
  pub lowest_is : lowest ≡ lowest_given n L T (durations frame)
