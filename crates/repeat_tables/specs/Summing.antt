-- The lent tables of a body: what they are worked from, position by position from the last back, and what they hold when all are written.
use Rattle.std.specs.Prelude.{ℕ, ◌+◌, ◌*◌, ◌≤◌, ◌<◌, ◌≡◌, List, length, get_or}
use Rattle.rules.specs.Numbers.{summary_numbers}
use Rattle.rules.specs.Words.{cat, tab, rows}
use Rattle.rules.specs.Image.{average_of, worst_of, profile}
use Rattle.rules.specs.Order.{Order}
use Rattle.rules.specs.Limits.{tables}
use Rattle.rules.specs.Refusals.{Count, Table, Length}
use Rattle.rules.specs.Repeat.{Sums, joined_by, LentBody, numbers_of, summaries_from, body_tables}
use Rattle.fields.specs.Fields.{splice}
use Rattle.image_fields.specs.Reading.{HasRecord}

-- what the check says of an image s of which 3, 4 and 7 are not given: n and its levels, and its actions in the order o
pub record BodyInput (s : List ℕ) (n L : ℕ) (actions : List ℕ) (o : Order (profile s).n) : Type 0 where
  pub counts : Count (profile s) → ⊥
  pub long : Length s → ⊥
  pub table : Table (profile s) → ⊥
  pub n_is : n ≡ (profile s).n
  pub levels_are : L ≡ (profile s).levels
  pub lists : (k : ℕ) → k < (profile s).n → get_or actions k 0 ≡ o.at k

-- so of some order
abbrev pub SomeBodyInput : List ℕ → ℕ → ℕ → List ℕ → Type 0
SomeBodyInput s n L actions = (o : Order (profile s).n) × BodyInput s n L actions o

-- room for so many entries by position and level
pub record EntriesFit (entries : ℕ) (lent : LentBody) : Type 0 where
  pub summaries_room : entries * summary_numbers ≤ length lent.summaries
  pub worst_room : entries ≤ length lent.worst

-- ---- a position

-- A summary is carried from position to position: A, M (in 2005 the safe sum) and V by level, W for all levels.
abbrev pub carried : List ℕ → ℕ → List ℕ → List ℕ → ℕ → Sums
carried averages lowest mixes worsts q = record { average = get_or averages q 0; lowest = lowest; mix = get_or mixes q 0; worst = get_or worsts q 0 }

-- action a alone
abbrev pub alone : List ℕ → ℕ → ℕ → Sums
alone s a q = record { average = average_of s a q; lowest = worst_of s a 0; mix = worst_of s a q; worst = worst_of s a q }

-- and what is carried after it
abbrev pub with_rest : List ℕ → ℕ → ℕ → (ℕ → Sums) → ℕ → Sums
with_rest s policy a rest q = joined_by policy (alone s a q) (rest q)

-- the four numbers have 31 bits, so that two such add up in 32
pub record Half (x : Sums) : Type 0 where
  pub average : x.average < 2147483648
  pub lowest : x.lowest < 2147483648
  pub mix : x.mix < 2147483648
  pub worst : x.worst < 2147483648

-- what the summaries of action a are worked from: its record, what is carried after it, and room for what is worked
pub record CanSum (s : List ℕ) (L a : ℕ) (averages : List ℕ) (lowest : ℕ) (mixes worsts : List ℕ) (from : ℕ) (lent : LentBody) : Type 0 where
  pub present : HasRecord s L a
  pub some_level : 0 < L
  pub own : (q : ℕ) → q < L → Half (alone s a q)
  pub rest : (q : ℕ) → q < L → Half (carried averages lowest mixes worsts q)
  pub averages_room : L ≤ length averages
  pub mixes_room : L ≤ length mixes
  pub worsts_room : L ≤ length worsts
  pub room : EntriesFit (from + L) lent

-- the summaries worked: what is carried from now on, and what is stored
pub record SumsRow (s : List ℕ) (L policy a : ℕ) (rest carried : ℕ → Sums) (from : ℕ) (before after : LentBody) : Type 0 where
  pub carried_is : (q : ℕ) → q < L → carried q ≡ with_rest s policy a rest q
  pub summaries_are : after.summaries ≡ splice before.summaries (from * summary_numbers) (cat (λ q. numbers_of (with_rest s policy a rest q)) L)
  pub worst_is : after.worst ≡ splice before.worst from (tab (worst_of s a) L)

-- ---- all of them

-- of the order o by a policy: n positions at L levels
pub record RowsSummed (s : List ℕ) (n L policy : ℕ) (before after : LentBody) (o : Order (profile s).n) : Type 0 where
  pub summaries_are : after.summaries ≡ splice before.summaries 0 (cat (summaries_from policy (tables (profile s) o) L) n)
  pub worst_is : after.worst ≡ splice before.worst 0 (rows (tables (profile s) o).worst n L)

-- all three tables written at the fronts of lent ones, of the order o by a policy; their tails are kept
pub record BodyFilled (s : List ℕ) (policy : ℕ) (before after : LentBody) (o : Order (profile s).n) : Type 0 where
  pub order_is : after.order ≡ splice before.order 0 (body_tables policy (profile s) o).order
  pub summaries_are : after.summaries ≡ splice before.summaries 0 (body_tables policy (profile s) o).summaries
  pub worst_is : after.worst ≡ splice before.worst 0 (body_tables policy (profile s) o).worst
