-- An urgency handed on to members of a set, those passed over that come before one that has got it.
use mathlib.Core.Path.{◌≡◌, refl, sym, ap, subst, ◌∙◌}
use mathlib.Core.Bool.{true, false, not}
use mathlib.Core.Logic.{◌⊎◌, inl, inr}
use mathlib.Core.List.{List}
use Prim.Native.Nat.{ℕ, ◌-◌, ◌^◌, ◌≤◌, ◌<◌, min}
use native.Mathlib.Nat.{le_trans}
use native.Mathlib.Numerals.{lt_of_le_of_ne}
use native.Mathlib.Omega.{arith}
use lib.Bits.{bit_and, and_le_l}
use lib.ListN.{length, get_or, set, length-set}
use lib.Seq.{get_or-set_same, get_or-set_other}
use Rattle.rules.specs.Image.{has}
use Rattle.rules.proofs.Tests.{true_or_false, not-both, and-true}
use Rattle.sets.specs.Sets.{Without, comes_before}
use Rattle.sets.proofs.Bits.{has-empty}
use Rattle.sets.proofs.Laws.{has-minus, or-gone, was, gone}
use Rattle.sets.proofs.Cases.{eq-or_ne}
use Rattle.order_urgency.specs.Spread.{Given, HandedOn}

-- ---- one gets it

module _ (masks : List ℕ) (t b x : ℕ) {u : List ℕ} {r : ℕ} (small : b < 64) (long : length u ≡ 64)
    (rest : Without (bit_and t (2 ^ 64 - 1 - get_or masks b 0)) b r) where
  -- it was less urgent
  pub given-take : x < get_or u b 0 → Given masks t b x u (set u b x) r
  given-take m = record {
    long = length-set u b x ∙ long;
    here = get_or-set_same u b x 0 (omega (arith, small, long)) ∙ omega arith;
    others = λ j n. get_or-set_other u b j x 0 (λ e. n (sym e));
    rest = rest;
  }

  -- it was as urgent
  pub given-keep : get_or u b 0 ≤ x → Given masks t b x u u r
  given-keep m = record { long = long; here = omega arith; others = λ j n. refl; rest = rest }

-- ---- one after another

module _ (masks : List ℕ) (to x : ℕ) where
  -- b has got x, or comes before one that has
  abbrev Got : List ℕ → ℕ → Type 0
  Got v b = (get_or v b 0 ≤ x) ⊎ ((c : ℕ) × (has to c ≡ true) × comes_before masks b c × (get_or v c 0 ≤ x))

  -- those that are not in t any more have
  pub record Passing (u v : List ℕ) (t : ℕ) : Type 0 where
    pub part : (j : ℕ) → has t j ≡ true → has to j ≡ true
    pub long : length v ≡ 64
    pub each : (b : ℕ) → b < 64 → (get_or v b 0 ≡ get_or u b 0) ⊎ ((has to b ≡ true) × (get_or v b 0 ≡ min x (get_or u b 0)))
    pub got : (b : ℕ) → has to b ≡ true → has t b ≡ false → Got v b

  pub passing_start : {u : List ℕ} → length u ≡ 64 → Passing u u to
  passing_start long = record { part = λ j p. p; long = long; each = λ b l. inl refl; got = λ b p e. absurd (not-both p e) }

  pub passing_end : {u v : List ℕ} → Passing u v 0 → HandedOn masks to x u v
  passing_end h = record { long = h.long; each = h.each; got = λ b p. h.got b p (has-empty b) }

  module _ {u v w : List ℕ} {t b r : ℕ} (h : Passing u v t) (member : has t b ≡ true) (full : t < 2 ^ 64) (mask : get_or masks b 0 < 2 ^ 64)
      (g : Given masks t b x v w r) where
    -- what is left is of t
    of_t : (j : ℕ) → has r j ≡ true → has t j ≡ true
    of_t j p = ((and-true _ _).0 (sym (has-minus t (get_or masks b 0) j full mask) ∙ was g.rest j p)).0

    -- what is gone is b, or comes before it
    done : (j : ℕ) → has t j ≡ true → has r j ≡ false → (b ≡ j) ⊎ comes_before masks j b
    done j p e = elim (true_or_false (has (get_or masks b 0) j)) [
      | inl q ↦ inr q
      | inr q ↦ elim (or-gone g.rest j (has-minus t (get_or masks b 0) j full mask ∙ (and-true _ _).1 (p, ap not q))) [
        | inl i ↦ inl i
        | inr i ↦ absurd (not-both i e)
      ]
    ]

    -- nothing becomes less urgent
    down : (j : ℕ) → get_or w j 0 ≤ get_or v j 0
    down j = elim (eq-or_ne b j) [
      | inl e ↦ subst (λ (i : ℕ). get_or w i 0 ≤ get_or v i 0) e (omega (arith, g.here))
      | inr n ↦ omega (arith, g.others j n)
    ]

    still : (j : ℕ) → Got v j → Got w j
    still j (inl e) = inl (le_trans (down j) e)
    still j (inr e) = inr (e.0, e.1, e.2, le_trans (down e.0) e.3)

    pub passing_more : Passing u w r
    passing_more = record {
      part = λ j p. h.part j (of_t j p);
      long = g.long;
      each = λ j l. each j l (eq-or_ne b j);
      got = λ j p e. elim (true_or_false (has t j)) [ inl q ↦ now j (done j q e) | inr q ↦ still j (h.got j p q) ];
    }
      where
        each : (j : ℕ) → j < 64 → (b ≡ j) ⊎ (b ≡ j → ⊥) → (get_or w j 0 ≡ get_or u j 0) ⊎ ((has to j ≡ true) × (get_or w j 0 ≡ min x (get_or u j 0)))
        each j l (inl e) = inr (
          subst (λ (i : ℕ). has to i ≡ true) e (h.part b member),
          subst (λ (i : ℕ). get_or w i 0 ≡ min x (get_or u i 0)) e
              (elim (h.each b (subst (λ (i : ℕ). i < 64) (sym e) l)) [ inl q ↦ omega (arith, g.here, q) | inr q ↦ omega (arith, g.here, q.1) ]),
        )
        each j l (inr n) = subst (λ (y : ℕ). (y ≡ get_or u j 0) ⊎ ((has to j ≡ true) × (y ≡ min x (get_or u j 0)))) (sym (g.others j n)) (h.each j l)

        now : (j : ℕ) → (b ≡ j) ⊎ comes_before masks j b → Got w j
        now j (inl e) = subst (Got w) e (inl (omega (arith, g.here)))
        now j (inr e) = inr (b, h.part b member, e, omega (arith, g.here))

    pub passing_falls : r < t
    passing_falls = lt_of_le_of_ne (le_trans g.rest.less (and_le_l t _)) (λ e. not-both member (ap (λ (s : ℕ). has s b) (sym e) ∙ gone g.rest))
