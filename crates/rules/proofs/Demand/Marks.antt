-- The overrun mark tells whether every duration was within worst at the level got. Over any tables. Assumes nothing.
use Prim.Native.Nat.{ℕ, zero, suc, ◌≤◌, ◌<◌}
use mathlib.Core.Path.{◌≡◌, sym, ◌∙◌}
use mathlib.Core.Bool.{false}
use native.Mathlib.Omega.{arith}
use borrow.Author.Tests.{ltb-false}
use Rattle.rules.specs.Limits.{Plan}
use Rattle.rules.specs.Dry.{before, level_of, took}
use Rattle.rules.proofs.Sums.{below_suc}
use Rattle.rules.proofs.Tests.{neither}
use Rattle.rules.proofs.Demand.Record.{overrun-is, over}

-- Where the overrun mark is not set at position n, nothing before it took longer than its worst time at the level got.
pub overrun-within : (cap : ℕ) (P : Plan) (w d : ℕ → ℕ → ℕ) (t n : ℕ) → (before cap P w d t n).overrun ≡ false
    → (j : ℕ) → j < n → took cap P w d t j ≤ w j (level_of cap P w d t j)
overrun-within cap P w d t zero e = λ j l. let no_such : ⊥ = omega arith in absurd no_such
overrun-within cap P w d t (suc n) e =
    let parts = neither (before cap P w d t n).overrun (over cap P w d t n) (sym (overrun-is cap P w d t n) ∙ e) in
    below_suc n (λ j. took cap P w d t j ≤ w j (level_of cap P w d t j)) (overrun-within cap P w d t n parts.0) (ltb-false _ _ parts.1)
