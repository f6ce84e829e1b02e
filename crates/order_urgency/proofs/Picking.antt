-- The least urgent member of a set, looked for lowest first.
use mathlib.Core.Path.{◌≡◌, refl, ap, subst}
use mathlib.Core.Bool.{true, false}
use mathlib.Core.Logic.{inl, inr}
use mathlib.Core.List.{List}
use Prim.Native.Nat.{ℕ, ◌≤◌, ◌<◌}
use native.Mathlib.Nat.{le_of_eq}
use native.Mathlib.Omega.{arith}
use lib.ListN.{get_or}
use Rattle.rules.specs.Image.{has}
use Rattle.rules.proofs.Tests.{true_or_false, not-both}
use Rattle.rules.proofs.Order.Stepwise.{First}
use Rattle.sets.specs.Sets.{Lowest, Without}
use Rattle.sets.proofs.Bits.{has-empty}
use Rattle.sets.proofs.Laws.{was, or-gone, rest-above}
use Rattle.order_urgency.specs.Spread.{NextIn}

-- a is the best member of s so far, and t has the members still to be looked at
pub record Best (u : List ℕ) (s t a : ℕ) : Type 0 where
  pub member : has s a ≡ true
  pub part : (b : ℕ) → has t b ≡ true → has s b ≡ true
  pub ahead : (b : ℕ) → has t b ≡ true → a < b
  pub past : (b : ℕ) → has s b ≡ true → has t b ≡ false → First (λ j. get_or u j 0) a b

first_self : (u : List ℕ) (a b : ℕ) → a ≡ b → First (λ j. get_or u j 0) a b
first_self u a b e = (le_of_eq (ap (λ (j : ℕ). get_or u j 0) e), λ q. le_of_eq e)

module _ (u : List ℕ) {s : ℕ} where
  pub best_start : {a t : ℕ} → Lowest s a → Without s a t → Best u s t a
  best_start {a} {t} low w = record {
    member = low.member;
    part = was w;
    ahead = rest-above w low;
    past = λ b p e. elim (or-gone w b p) [ inl i ↦ first_self u a b i | inr i ↦ absurd (not-both i e) ];
  }

  module _ {t a b t' : ℕ} (h : Best u s t a) (low : Lowest t b) (w : Without t b t') where
    -- what b is compared with goes after it
    past_more : {x : ℕ} → First (λ j. get_or u j 0) x b → ((c : ℕ) → has s c ≡ true → has t c ≡ false → First (λ j. get_or u j 0) x c)
        → (c : ℕ) → has s c ≡ true → has t' c ≡ false → First (λ j. get_or u j 0) x c
    past_more {x} here before c p e = elim (true_or_false (has t c)) [
      | inl q ↦ elim (or-gone w c q) [ inl i ↦ subst (First (λ j. get_or u j 0) x) i here | inr i ↦ absurd (not-both i e) ]
      | inr q ↦ before c p q
    ]

    pub best_take : get_or u b 0 < get_or u a 0 → Best u s t' b
    best_take m = record {
      member = h.part b low.member;
      part = λ c p. h.part c (was w c p);
      ahead = rest-above w low;
      past = past_more (first_self u b b refl) (λ c p e. let f = h.past c p e in (omega (arith, f.0), λ q. absurd (omega (arith, f.0))));
    }

    pub best_keep : get_or u a 0 ≤ get_or u b 0 → Best u s t' a
    best_keep m = record {
      member = h.member;
      part = λ c p. h.part c (was w c p);
      ahead = λ c p. h.ahead c (was w c p);
      past = past_more (m, λ q. omega (arith, h.ahead b low.member)) h.past;
    }

  pub best_end : {a : ℕ} → Best u s 0 a → NextIn u s a
  best_end h = record {
    member = h.member;
    least = λ b p. (h.past b p (has-empty b)).0;
    lowest = λ b p. (h.past b p (has-empty b)).1;
  }
