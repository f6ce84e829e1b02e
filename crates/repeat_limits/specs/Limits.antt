-- The calls for a limit and a coast bound of a body repeated: what they answer, on lent summaries whoever wrote them, and on planning's.
use Rattle.std.specs.Prelude.{ℕ, zero, suc, ◌+◌, ◌-◌, ◌*◌, ◌≤◌, ◌<◌, max, ◌≡◌, Bool, true, false, cond, ◌&&◌, List, [], eqb, ℤ, pos, ◌-ℤ◌, length, Result, Ok, Err}
use Rattle.std.specs.Int.Signed.{le_z, mag}
use Rattle.rules.specs.Numbers.{most_actions, most_levels, last_clock, most_repeats, longest_coast, policy_2005, summary_numbers}
use Rattle.rules.specs.Image.{Profile}
use Rattle.rules.specs.Order.{Order, TheOrder}
use Rattle.rules.specs.Limits.{tables, limit_by, planned}
use Rattle.rules.specs.Refusals.{kept}
use Rattle.rules.specs.Reasons.{number_of}
use Rattle.rules.specs.Repeat.{unrolled, Sums, stretch_at, LentBody, positions, lent_plan, PlannedBody, body_limit_refusal, body_bound_refusal, bound_or_absent}
use Rattle.rules.specs.declared.Body.{Body}
use Rattle.rules.specs.declared.Reason.{Reason}
use Rattle.repeat_limits.specs.declared.Limited.{Limited}
use Rattle.repeat_limits.specs.declared.Later.{Later}
use Rattle.repeat_limits.specs.declared.Room.{Room}

-- ---- the calls

-- what C is answered of a limit or a coast bound
abbrev pub limited : Result ℤ Reason → Limited
limited (Ok limit) = record { refusal = record { number = 0 }; limit = limit }
limited (Err reason) = record { refusal = record { number = number_of reason }; limit = pos 0 }

-- The limit by the lent summaries; where planning wrote them, that of the unrolled system, by whatever order is its own.
pub record LimitAnswers (b : Body) (summaries : List ℕ) (i q : ℕ) (r : Limited) : Type 0 where
  pub number : r.refusal.number ≡ body_limit_refusal b summaries i q
  pub limit_is : r.limit ≡ kept r.refusal.number ((lent_plan b (record { order = []; summaries = summaries; worst = [] })).limit i q) (pos 0)
  pub unrolled_limit : r.refusal.number ≡ 0 → {F : Profile} {o : Order F.n} {T : LentBody} → T.summaries ≡ summaries → PlannedBody F o b T
      → {p : Order (b.repeats * F.n)} → TheOrder (unrolled F b.repeats) p → r.limit ≡ limit_by b.policy (tables (unrolled F b.repeats) p) i q

-- The coast bound, in the same way; absent where the coast would go past the last position.
pub record BoundAnswers (b : Body) (lent : LentBody) (i q r : ℕ) (x : Limited) : Type 0 where
  pub number : x.refusal.number ≡ body_bound_refusal b lent i q r
  pub bound_is : x.limit ≡ kept x.refusal.number (bound_or_absent (lent_plan b lent) i q r) (pos 0)
  pub unrolled_bound : x.refusal.number ≡ 0
      → {F : Profile} {o : Order F.n} {T : LentBody} → T.summaries ≡ lent.summaries → T.worst ≡ lent.worst → PlannedBody F o b T
      → {p : Order (b.repeats * F.n)} → TheOrder (unrolled F b.repeats) p
      → x.limit ≡ bound_or_absent (planned b.policy (tables (unrolled F b.repeats) p)) i q r

-- ---- asked between the functions of this crate, and of those above it

-- above every number of 64 bits with a sign
abbrev pub signed_above : ℕ
signed_above = 9223372036854775808

-- the latest time that the room is told of, 2 ^ 42: a decision, the worst times of a coast and those of a whole body, of 32 bits each, are before it
abbrev pub latest : ℕ
latest = 4398046511104

-- what is room for any averages, 2 ^ 62
abbrev pub ample : ℕ
ample = 4611686018427387904

-- entries of 32 bits, whoever wrote them: one, the most that 1,619 and 1,620 bodies come to, and that with as many worst times as a coast has
-- actions
abbrev pub most_entry : ℕ
most_entry = 4294967295

abbrev pub greatest_later : ℕ
greatest_later = 6953552050605

abbrev pub greatest_mix : ℕ
greatest_mix = 6957847017900

abbrev pub greatest_reach : ℕ
greatest_reach = 7026566494620

-- the counts of a body in their ranges
pub record CountsIn (b : Body) : Type 0 where
  pub some_action : 1 ≤ b.n
  pub few : b.n ≤ most_actions
  pub some_level : 1 ≤ b.levels
  pub few_levels : b.levels ≤ most_levels
  pub some_cycle : 1 ≤ b.cycle
  pub cycle_in : b.cycle ≤ last_clock
  pub some_repeat : 1 ≤ b.repeats
  pub few_repeats : b.repeats ≤ most_repeats

-- a position and a level that are there, with the summaries lent as long as the body says
pub record Stands (b : Body) (summaries : List ℕ) (i q : ℕ) : Type 0 where
  pub counts : CountsIn b
  pub summed : b.n * b.levels * summary_numbers ≤ length summaries
  pub present : i < positions b
  pub level : q < b.levels

-- the summaries of entries x and q, and fewer bodies after than there are repeats
pub record Summed (summaries : List ℕ) (x q after : ℕ) : Type 0 where
  pub own : x * summary_numbers + summary_numbers ≤ length summaries
  pub whole : q * summary_numbers + summary_numbers ≤ length summaries
  pub few : after < most_repeats

-- so many bodies after a stretch, as numbers: in 2008 M of them, without a body the averages before them are of no account; in 2005 their averages
abbrev pub later_2008 : Sums → ℕ → Later
later_2008 y zero = record { counts = false; lowest = 0; mix = 0 }
later_2008 y (suc m) = record { counts = true; lowest = suc m * y.lowest; mix = y.mix + m * max y.average y.lowest }

abbrev pub later_2005 : Sums → ℕ → Later
later_2005 y m = record { counts = true; lowest = m * y.lowest; mix = m * y.average }

abbrev pub later_of : ℕ → Sums → ℕ → Later
later_of policy y m = cond (eqb policy policy_2005) (later_2005 y m) (later_2008 y m)

-- what the limit takes off the cycle for a stretch and the bodies after it, by these numbers
abbrev pub mix_before : Sums → Later → ℕ
mix_before x l = cond l.counts (max (x.mix + l.lowest) (x.average + l.mix)) x.mix

-- so many bodies, each summed up in entry q
pub record BodiesAfter (policy : ℕ) (summaries : List ℕ) (q after : ℕ) (l : Later) : Type 0 where
  pub few_lowest : l.lowest ≤ greatest_later
  pub few_mix : l.mix ≤ greatest_later
  pub is : l ≡ later_of policy (stretch_at summaries q) after

-- What they leave of a cycle, from a time on, for M (in 2005 the safe sum) and for the averages of the stretch before them, where these count.
abbrev pub room_left : ℕ → ℕ → Later → Room
room_left cycle begins l = record {
  mix = pos cycle -ℤ pos (begins + l.lowest);
  average = cond l.counts (pos cycle -ℤ pos (begins + l.mix)) (pos (cycle + ample) -ℤ pos begins);
}

-- from a later time on there is less, for both
abbrev pub narrowed_by : Room → ℕ → Room
narrowed_by r later = record { mix = r.mix -ℤ pos later; average = r.average -ℤ pos later }

-- both numbers are within 64 bits
abbrev pub Near : Room → Type 0
Near r = (mag r.mix < signed_above) × (mag r.average < signed_above)

abbrev pub fits_in : Sums → Room → Bool
fits_in x r = le_z (pos x.average) r.average && le_z (pos x.mix) r.mix

-- the summaries of entry q, fewer bodies than there are repeats, and a time that is not too late
pub record LeavesRoom (summaries : List ℕ) (q after begins : ℕ) : Type 0 where
  pub whole : q * summary_numbers + summary_numbers ≤ length summaries
  pub few : after < most_repeats
  pub early : begins ≤ latest

-- the room before some bodies, each summed up in entry q, from a time on that is not too late
pub record Nears (policy : ℕ) (summaries : List ℕ) (q after : ℕ) (room : Room) : Type 0 where
  pub whole : q * summary_numbers + summary_numbers ≤ length summaries
  pub some : 0 < after
  pub few : after < most_repeats
  pub cycle : ℕ
  pub begins : ℕ
  pub cycle_in : cycle ≤ last_clock
  pub early : begins ≤ latest
  pub is : room ≡ room_left cycle begins (later_of policy (stretch_at summaries q) after)

-- the summaries of entry x, and bodies after it
pub record Before (summaries : List ℕ) (x : ℕ) (l : Later) : Type 0 where
  pub own : x * summary_numbers + summary_numbers ≤ length summaries
  pub few_lowest : l.lowest ≤ greatest_later
  pub few_mix : l.mix ≤ greatest_later

-- a place of the body, and after the last one a body more
pub record MoreAfter (b : Body) (place after : ℕ) : Type 0 where
  pub inside : place < b.n
  pub few : b.n ≤ most_actions
  pub more : suc place ≡ b.n → 0 < after

-- so many positions from a place on, with as many summaries lent as the body says
pub record Spans (b : Body) (summaries : List ℕ) (place after q r : ℕ) : Type 0 where
  pub counts : CountsIn b
  pub summed : b.n * b.levels * summary_numbers ≤ length summaries
  pub inside : place < b.n
  pub fewer : after < b.repeats
  pub level : q < b.levels
  pub some : 0 < r
  pub most : r ≤ longest_coast
  pub room : r ≤ after * b.n + (b.n - place)

-- a coast over them, with as many worst times
pub record Coasts (b : Body) (T : LentBody) (place after q r : ℕ) : Type 0 where
  pub spans : Spans b T.summaries place after q r
  pub timed : b.n * b.levels ≤ length T.worst

-- the summaries of entries x, y and q, and fewer bodies than a coast has actions
pub record Passes (summaries : List ℕ) (x y q passed : ℕ) : Type 0 where
  pub first : x * summary_numbers + summary_numbers ≤ length summaries
  pub last : y * summary_numbers + summary_numbers ≤ length summaries
  pub whole : q * summary_numbers + summary_numbers ≤ length summaries
  pub few : passed < longest_coast
