-- Where all deadlines are one.
use mathlib.Core.Path.{◌≡◌, refl, sym, ap, ◌∙◌}
use mathlib.Core.Bool.{true}
use mathlib.Core.Logic.{inl, ◌↔◌}
use mathlib.Core.List.{List}
use Prim.Native.Nat.{ℕ, ◌≤◌, ◌<◌}
use native.Mathlib.Nat.{le_of_eq}
use native.Mathlib.Omega.{arith}
use lib.Bits.{bit_xor, xor_add_and, xor_self, and_le_l, and_le_r}
use lib.Dec.{eqb}
use lib.ListN.{get_or}
use borrow.Author.Tests.{eq-eqb, eqb-true}
use Rattle.rules.specs.Image.{Profile, due}
use Rattle.rules.proofs.Order.Best.{follower_present}
use Rattle.order_line.proofs.Numbering.{Tested}
use Rattle.order_urgency.specs.Spread.{OneDeadline, Urgent}

-- `x ^ y` is 0
pub same-exact : (x y : ℕ) → (bit_xor x y ≡ 0) ↔ (x ≡ y)
same-exact x y = (
  λ e. omega (arith, xor_add_and x y, and_le_l x y, and_le_r x y),
  λ e. ap (λ (z : ℕ). bit_xor z y) e ∙ xor_self y,
)

module _ (F : Profile) where
  pub one_none : F.n ≡ 0 → (true ≡ true) ↔ OneDeadline F
  one_none e = (λ q a b l m. absurd (omega arith), λ x. refl)

  pub one_end : {first k other : ℕ} → 0 < F.n → F.n ≤ k → k ≤ F.n → first ≡ due F 0 → Tested (λ a. due F a ≡ first) k other
      → (eqb other 0 ≡ true) ↔ OneDeadline F
  one_end {other = other} some all most is g = (
    λ e a b l m. let h = g.0 (eqb-true other 0 e) in h a (omega arith) ∙ sym (h b (omega arith)),
    λ x. eq-eqb other 0 (g.1 (λ a l. x a 0 (omega arith) some ∙ sym is)),
  )

  -- it is the urgency of all
  pub one-urgent : OneDeadline F → (u : List ℕ) → ((a : ℕ) → a < F.n → get_or u a 0 ≡ due F a) → Urgent F u
  one-urgent one u same a l = record {
    own = le_of_eq (same a l);
    later = λ b f. le_of_eq (same a l ∙ one a b l (follower_present f));
    met = inl (same a l);
  }
