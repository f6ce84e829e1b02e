-- Limits by rows of eight: the limits of a position, and what its row carries on, from the row after it.
use Rattle.std.specs.Prelude.{ℕ, ◌≤◌, ◌<◌, ◌≡◌, cond, List, eqb, ℤ, pos, ◌-ℤ◌, get_or, replicate}
use Rattle.std.specs.Int.Signed.{mag}
use Rattle.rules.specs.Numbers.{most_levels, last_clock, clock_end, longest_time, policy_2005}
use Rattle.rules.specs.Words.{minZ, tab}
use Rattle.fields.specs.Fields.{splice}

-- the latest start of an action that takes so long and ends by its deadline and by `after`
abbrev pub latest_start : ℕ → ℤ → ℕ → ℤ
latest_start deadline after time = minZ (pos deadline) after -ℤ pos time

-- What the row after it carries, before a position's deadline: in 2005 the averages are tested against that too. In 2008 the safe test is enough,
-- since what ends by the deadline at the worst time does so at the average.
abbrev pub held_to : ℕ → ℕ → ℤ → ℤ
held_to policy deadline after = cond (eqb policy policy_2005) (minZ (pos deadline) after) after

-- the row after it, so held at each level
pub record Held (policy deadline : ℕ) (next held : List ℤ) : Type 0 where
  pub at : (q : ℕ) → q < most_levels → get_or held q (pos 0) ≡ held_to policy deadline (get_or next q (pos 0))

-- A limit, of either policy: the lesser of `room`, the latest start at the average, and the latest start at the worst time before `first`, the
-- limit of level 0 after it.
abbrev pub limit_of : ℕ → ℤ → ℕ → ℤ → ℤ
limit_of deadline first worst room = minZ room (latest_start deadline first worst)

-- What the row carries on to the position before it: the limit, but in 2005 above level 0 the room, which is of the averages alone.
abbrev pub carried_of : ℕ → ℕ → ℤ → ℤ → ℤ
carried_of policy level limit room = cond (eqb policy policy_2005) (cond (eqb level 0) limit room) limit

-- ---- by the row after it, held to the deadline, at each level

abbrev pub rooms_of : List ℤ → (ℕ → ℕ) → ℕ → ℤ
rooms_of held average q = get_or held q (pos 0) -ℤ pos (average q)

abbrev pub limits_of : List ℤ → (ℕ → ℕ) → (ℕ → ℕ) → ℕ → ℕ → ℤ
limits_of held average worst deadline q = limit_of deadline (get_or held 0 (pos 0)) (worst q) (rooms_of held average q)

-- a row of eight: f at each level, then 0
unfoldable pub row_of_eight : (ℕ → ℤ) → ℕ → List ℤ
row_of_eight f levels = splice (replicate most_levels (pos 0)) 0 (tab f levels)

abbrev pub row_of : ℕ → List ℤ → (ℕ → ℕ) → (ℕ → ℕ) → ℕ → ℕ → List ℤ
row_of policy held average worst deadline levels =
    row_of_eight (λ q. carried_of policy q (limits_of held average worst deadline q) (rooms_of held average q)) levels

-- the row after the last position: the latest deadline, which no limit is above
abbrev pub after_last : List ℤ
after_last = replicate most_levels (pos last_clock)

-- ---- numbers so small that every difference fits in 32 bits with a sign

pub record SmallStart (deadline : ℕ) (after : ℤ) (time : ℕ) : Type 0 where
  pub due : deadline ≤ last_clock
  pub near : mag after < clock_end
  pub short : time ≤ longest_time

pub record SmallLimit (held : List ℤ) (average worst : ℕ → ℕ) (deadline q : ℕ) : Type 0 where
  pub by_worst : SmallStart deadline (get_or held 0 (pos 0)) (worst q)
  pub by_average : SmallStart deadline (get_or held q (pos 0)) (average q)

abbrev pub SmallRow : List ℤ → (ℕ → ℕ) → (ℕ → ℕ) → ℕ → ℕ → Type 0
SmallRow held average worst deadline levels = (q : ℕ) → q < levels → SmallLimit held average worst deadline q
