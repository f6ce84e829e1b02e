-- An urgency handed on to each member of a set, lowest first.
use mathlib.Core.Path.{◌≡◌, sym, ap, subst, ◌∙◌}
use mathlib.Core.Bool.{Bool, true, false, not, ◌&&◌, and-true, and-false, and-not_self}
use mathlib.Core.Logic.{◌⊎◌, inl, inr}
use mathlib.Core.List.{List}
use Prim.Native.Nat.{ℕ, ◌^◌, ◌≤◌, ◌<◌, min}
use native.Mathlib.Omega.{arith}
use lib.ListN.{length, get_or, set, length-set}
use lib.Seq.{get_or-set_same, get_or-set_other}
use Rattle.rules.specs.Image.{has}
use Rattle.rules.proofs.Tests.{true_or_false}
use Rattle.sets.specs.Sets.{Lowest, Without}
use Rattle.sets.proofs.Bits.{has-empty}
use Rattle.sets.proofs.Laws.{lt-below, gone, kept, was}
use Rattle.sets.proofs.Cases.{eq-or_ne}
use Rattle.order_urgency.specs.Spread.{lowered, HandedEach, HandedOn}

-- the members of the mask that are not left any more
abbrev got : ℕ → ℕ → ℕ → Bool
got mask t j = has mask j && not (has t j)

-- x has been handed on to the members of the mask that are not in t
pub record Handing (mask x : ℕ) (u v : List ℕ) (t : ℕ) : Type 0 where
  pub part : (j : ℕ) → has t j ≡ true → has mask j ≡ true
  pub handed : HandedEach (got mask t) x u v

pub handing_start : (mask x : ℕ) {u : List ℕ} → length u ≡ 64 → Handing mask x u u mask
handing_start mask x {u} long = record {
  part = λ j h. h;
  handed = record { long = long; each = λ j l. sym (ap (λ (y : Bool). lowered y x (get_or u j 0)) (and-not_self (has mask j))) };
}

pub handing_end : {mask x : ℕ} {u v : List ℕ} → Handing mask x u v 0 → HandedEach (has mask) x u v
handing_end {mask} {x} {u} {v} h = record {
  long = h.handed.long;
  each = λ j l. h.handed.each j l ∙ ap (λ (y : Bool). lowered y x (get_or u j 0)) (all j);
}
  where
    all : (j : ℕ) → got mask 0 j ≡ has mask j
    all j = ap (λ (y : Bool). has mask j && not y) (has-empty j) ∙ and-true (has mask j)

module _ {mask x t b t' : ℕ} {u v : List ℕ} (h : Handing mask x u v t) (low : Lowest t b) (w : Without t b t') where
  before_b : get_or v b 0 ≡ get_or u b 0
  before_b = h.handed.each b low.small
      ∙ ap (λ (y : Bool). lowered y x (get_or u b 0)) (ap (λ (y : Bool). has mask b && not y) low.member ∙ and-false (has mask b))

  -- v' is v with the entry of b brought to date
  handing_more : {v' : List ℕ} → length v' ≡ 64 → ((j : ℕ) → (b ≡ j → ⊥) → get_or v' j 0 ≡ get_or v j 0) → get_or v' b 0 ≡ min x (get_or u b 0)
      → Handing mask x u v' t'
  handing_more {v'} long same new = record {
    part = λ j p. h.part j (was w j p);
    handed = record { long = long; each = λ j l. each j l (eq-or_ne b j) };
  }
    where
      here : got mask t' b ≡ true
      here = ap (λ (y : Bool). has mask b && not y) (gone w) ∙ and-true (has mask b) ∙ h.part b low.member

      each : (j : ℕ) → j < 64 → (b ≡ j) ⊎ (b ≡ j → ⊥) → get_or v' j 0 ≡ lowered (got mask t' j) x (get_or u j 0)
      each j l (inl e) = subst (λ (i : ℕ). get_or v' i 0 ≡ lowered (got mask t' i) x (get_or u i 0)) e
          (new ∙ sym (ap (λ (y : Bool). lowered y x (get_or u b 0)) here))
      each j l (inr n) = same j n ∙ h.handed.each j l
          ∙ sym (ap (λ (y : Bool). lowered y x (get_or u j 0)) (ap (λ (y : Bool). has mask j && not y) (kept w j n)))

  -- b gets its due
  pub handing_min : {y : ℕ} → y ≡ min x (get_or v b 0) → Handing mask x u (set v b y) t'
  handing_min {y} e = handing_more (length-set v b y ∙ h.handed.long) (λ j n. get_or-set_other v b j y 0 (λ q. n (sym q)))
      (get_or-set_same v b y 0 (omega (arith, h.handed.long, low.small)) ∙ e ∙ ap (min x) before_b)

-- ---- what came of it

pub lowered-less : (test : Bool) (p q : ℕ) → lowered test p q ≤ q
lowered-less true p q = omega arith
lowered-less false p q = omega arith

-- not below what is as urgent as both
pub lowered-above : (test : Bool) (p q y : ℕ) → y ≤ p → y ≤ q → y ≤ lowered test p q
lowered-above true p q y k m = omega arith
lowered-above false p q y k m = m

module _ (masks : List ℕ) (to x : ℕ) {u v : List ℕ} where
  -- each member has got it
  pub handed-each : to < 2 ^ 64 → HandedEach (has to) x u v → HandedOn masks to x u v
  handed-each small h = record {
    long = h.long;
    each = λ b l. elim (true_or_false (has to b)) [ inl e ↦ inr (e, given b l e) | inr e ↦ inl (h.each b l ∙ told b e) ];
    got = λ b p. inl (omega (arith, given b (lt-below 64 to small b p) p));
  }
    where
      told : {y : Bool} (b : ℕ) → has to b ≡ y → lowered (has to b) x (get_or u b 0) ≡ lowered y x (get_or u b 0)
      told b e = ap (λ (z : Bool). lowered z x (get_or u b 0)) e

      given : (b : ℕ) → b < 64 → has to b ≡ true → get_or v b 0 ≡ min x (get_or u b 0)
      given b l e = h.each b l ∙ told b e

module _ {masks : List ℕ} {to x : ℕ} {u v : List ℕ} (h : HandedOn masks to x u v) (b : ℕ) (small : b < 64) where
  pub less : get_or v b 0 ≤ get_or u b 0
  less = elim (h.each b small) [ inl e ↦ omega (arith, e) | inr e ↦ omega (arith, e.1) ]

  -- not below what is as urgent as both
  pub above : (y : ℕ) → y ≤ x → y ≤ get_or u b 0 → y ≤ get_or v b 0
  above y k m = elim (h.each b small) [ inl e ↦ omega (arith, e) | inr e ↦ omega (arith, e.1) ]
