-- Along the places of one body: what is looked at, and how the room narrows. Assumes nothing.
use Prim.Native.Nat.{ℕ, zero, suc, ◌+◌, ◌-◌, ◌*◌, ◌≤◌, ◌<◌}
use mathlib.Core.Path.{◌≡◌, sym, ap, ◌∙◌}
use mathlib.Core.List.{List}
use native.Mathlib.Decide.{dec_lt}
use native.Mathlib.Nat.{mul-le-mul, mul-le-mul_right}
use native.Mathlib.Omega.{arith}
use lib.ListN.{get_or}
use Rattle.rules.specs.Words.{sum}
use Rattle.rules.specs.declared.Body.{Body}
use Rattle.repeat_limits.specs.Limits.{narrowed_by, CountsIn}
use Rattle.repeat_limits.specs.declared.Room.{Room}
use Rattle.repeat_limits.proofs.Rooms.{narrowed_both, narrowed_none}
use Rattle.repeat_decision.specs.Decision.{most_cells, onward_by, walked}
use Rattle.repeat_decision.specs.declared.Reached.{Reached}

-- the same place of a lower row is in a lower row
pub rows-below : (n a j k : ℕ) → j * n + a < k * n + a → j < k
rows-below n a j k h = go (dec_lt j k)
  where
    go : Dec (j < k) → j < k
    go (yes l) = l
    go (no l) = let m : k ≤ j = omega arith in absurd (omega (arith, h, mul-le-mul_right n m))

-- times up to c
pub sum-few : (f : ℕ → ℕ) (c : ℕ) → ((j : ℕ) → f j ≤ c) → (k : ℕ) → sum k f ≤ k * c
unfolding sum
sum-few f c small zero = omega arith
sum-few f c small (suc k) = let more : suc k * c ≡ k * c + c = omega arith in omega (arith, more, sum-few f c small k, small k)

module _ (b : Body) (worst : List ℕ) (r : Reached) where
  abbrev at_room : ℕ → ℕ → Room → Reached
  at_room e k o = record { entry = e; rest = k; after = r.after; own = o; above = r.above }

  -- none passed, and one more
  pub walked_none : r ≡ walked b worst r 0
  unfolding sum
  walked_none =
      let e : r.entry ≡ r.entry + 0 * b.levels = omega arith in
      let k : r.rest ≡ r.rest - 0 = omega arith in
      ap (λ (x : ℕ). at_room x r.rest r.own) e
      ∙ ap (λ (x : ℕ). at_room (r.entry + 0 * b.levels) x r.own) k
      ∙ ap (at_room (r.entry + 0 * b.levels) (r.rest - 0)) (sym (narrowed_none r.own))

  pub walked_more : (k : ℕ) → onward_by b.levels (get_or worst (r.entry + k * b.levels) 0) (walked b worst r k) ≡ walked b worst r (suc k)
  unfolding sum
  walked_more k =
      let time : ℕ → ℕ = λ j. get_or worst (r.entry + j * b.levels) 0 in
      let e : r.entry + k * b.levels + b.levels ≡ r.entry + suc k * b.levels = omega arith in
      let fewer : r.rest - k - 1 ≡ r.rest - suc k = omega arith in
      let twice : Room = narrowed_by (narrowed_by r.own (sum k time)) (time k) in
      ap (λ (x : ℕ). at_room x (r.rest - k - 1) twice) e
      ∙ ap (λ (x : ℕ). at_room (r.entry + suc k * b.levels) x twice) fewer
      ∙ ap (at_room (r.entry + suc k * b.levels) (r.rest - suc k)) (narrowed_both r.own (sum k time) (time k))

-- an entry of the level in a place of the body, and the entry of the level above
pub record InRow (b : Body) (q e : ℕ) : Type 0 where
  pub low : suc e ≤ b.n * b.levels
  pub low_above : suc q < b.levels → suc (suc e) ≤ b.n * b.levels
  pub cells : b.n * b.levels ≤ most_cells

pub in_row : {b : Body} {q e place : ℕ} → CountsIn b → q < b.levels → place < b.n → e ≡ place * b.levels + q → InRow b q e
in_row {b} counts level inside is = record {
  low = omega (arith, is, level, mul-le-mul_right b.levels inside);
  low_above = λ top. omega (arith, is, top, mul-le-mul_right b.levels inside);
  cells = mul-le-mul counts.few counts.few_levels;
}
