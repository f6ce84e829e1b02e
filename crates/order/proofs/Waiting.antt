-- The actions that are not done: ready, or waiting with a predecessor that is not done.
use mathlib.Core.Path.{◌≡◌, sym, ap, subst, ◌∙◌}
use mathlib.Core.Bool.{Bool, true, false, not, ◌&&◌}
use mathlib.Core.Logic.{◌⊎◌, inl, inr}
use mathlib.Core.List.{List}
use Prim.Native.Nat.{ℕ, ◌-◌, ◌^◌, ◌<◌}
use native.Mathlib.Omega.{arith}
use lib.Bits.{bit_and}
use lib.ListN.{get_or, set, length-set, replicate, length-replicate}
use lib.Seq.{get_or-set_same, get_or-set_other}
use borrow.Author.Tests.{ltb-true, lt-ltb, not-true, not-false}
use Rattle.rules.specs.Image.{has}
use Rattle.rules.proofs.Tests.{true_or_false, not-both, and-true}
use Rattle.sets.specs.Sets.{Subset, AllBelow, Lowest, With, Without}
use Rattle.sets.proofs.Bits.{has-empty}
use Rattle.sets.proofs.Laws.{has-minus, added, stays, others, either, was, kept, apart, or-gone}
use Rattle.sets.proofs.Lists.{none_yet}
use Rattle.sets.proofs.Cases.{lt-or-le, eq-or_ne}
use Rattle.order.specs.Arranged.{ReadyIn, WaitsWith, Parted}

-- ---- the predecessors that are not done, `mask & !done`

module _ {mask done : ℕ} (m : mask < 2 ^ 64) (d : done < 2 ^ 64) where
  -- there is one, unless all predecessors are done
  pub some_left : (Subset mask done → ⊥) → 0 < bit_and mask ((2 ^ 64 - 1) - done)
  some_left held = elim (lt-or-le 0 (bit_and mask ((2 ^ 64 - 1) - done))) [ inl l ↦ l | inr l ↦ absurd (held (all_done (omega arith))) ]
    where
      all_done : bit_and mask ((2 ^ 64 - 1) - done) ≡ 0 → Subset mask done
      all_done e j p =
          let none : has (bit_and mask ((2 ^ 64 - 1) - done)) j ≡ false = ap (λ (s : ℕ). has s j) e ∙ has-empty j in
          not-false (has done j) (sym (ap (λ (x : Bool). x && not (has done j)) p) ∙ sym (has-minus mask done j m d) ∙ none)

  -- one of them
  pub one_left : (b : ℕ) → has (bit_and mask ((2 ^ 64 - 1) - done)) b ≡ true → (has mask b ≡ true) × (has done b ≡ false)
  one_left b h = let both = (and-true _ _).0 (sym (has-minus mask done b m d) ∙ h) in (both.0, not-true (has done b) both.1)

-- ---- at first all are to be looked at

pub parted_start : (n : ℕ) (masks : List ℕ) {all : ℕ} → AllBelow n all → Parted n masks 0 0 all (replicate 64 0)
parted_start n masks {all} every = record {
  long = length-replicate {A = ℕ} 64 0;
  left = λ a p. (ltb-true a n (sym (every.each a) ∙ p), has-empty a);
  ready = λ a p. absurd (not-both p (has-empty a));
  waiting = λ b a u p. absurd (not-both p (ap (λ (s : ℕ). has s a) (none_yet 64 b) ∙ has-empty a));
  each = λ a l u e. absurd (not-both (every.each a ∙ lt-ltb a n l) e);
}

-- ---- one is looked at

module _ {n : ℕ} {masks : List ℕ} {done free t a t' : ℕ} {w : List ℕ} (g : Parted n masks done free t w)
    (low : Lowest t a) (out : Without t a t') where
  -- an action in none of the sets but t' is a, or was in none before
  looked : (c : ℕ) → has t' c ≡ false → (a ≡ c) ⊎ (has t c ≡ false)
  looked c e = elim (true_or_false (has t c)) [
    | inl q ↦ elim (or-gone out c q) [ inl i ↦ inl i | inr i ↦ absurd (not-both i e) ]
    | inr q ↦ inr q
  ]

  pub parted_free : {free' : ℕ} → Subset (get_or masks a 0) done → With free a free' → Parted n masks done free' t' w
  parted_free {free'} e in' = record {
    long = g.long;
    left = λ c p. g.left c (was out c p);
    ready = λ c p. elim (either in' c p) [ inl q ↦ g.ready c q | inr q ↦ subst (ReadyIn n masks done) q here ];
    waiting = g.waiting;
    each = λ c l u q. elim (looked c q) [
      | inl i ↦ inl (subst (λ (j : ℕ). has free' j ≡ true) i (added in'))
      | inr i ↦ elim (g.each c l u i) [ inl y ↦ inl (stays in' c y) | inr y ↦ inr y ]
    ];
  }
    where
      here : ReadyIn n masks done a
      here = let l = g.left a low.member in record { present = l.0; waits = l.1; free = e }

  pub parted_held : {b v : ℕ} → b < 64 → (has (get_or masks a 0) b ≡ true) × (has done b ≡ false) → With (get_or w b 0) a v
      → Parted n masks done free t' (set w b v)
  parted_held {b} {v} small o in' = record {
    long = length-set w b v ∙ g.long;
    left = λ c p. g.left c (was out c p);
    ready = g.ready;
    waiting = λ b' c u p. waits b' c u p (eq-or_ne b' b);
    each = λ c l u q. elim (looked c q) [
      | inl i ↦ inr (b, o.1, ap (λ (s : ℕ). has s c) here ∙ subst (λ (j : ℕ). has v j ≡ true) i (added in'))
      | inr i ↦ elim (g.each c l u i) [ inl y ↦ inl y | inr y ↦ inr (y.0, y.1, still y.0 c y.2 (eq-or_ne y.0 b)) ]
    ];
  }
    where
      here : get_or (set w b v) b 0 ≡ v
      here = get_or-set_same w b v 0 (omega (arith, g.long))

      past : (j : ℕ) → (j ≡ b → ⊥) → get_or (set w b v) j 0 ≡ get_or w j 0
      past j ne = get_or-set_other w b j v 0 ne

      still : (j c : ℕ) → has (get_or w j 0) c ≡ true → (j ≡ b) ⊎ (j ≡ b → ⊥) → has (get_or (set w b v) j 0) c ≡ true
      still j c p (inl e) = ap (λ (i : ℕ). has (get_or (set w b v) i 0) c) e ∙ ap (λ (s : ℕ). has s c) here
          ∙ stays in' c (ap (λ (i : ℕ). has (get_or w i 0) c) (sym e) ∙ p)
      still j c p (inr e) = ap (λ (s : ℕ). has s c) (past j e) ∙ p

      with_b : WaitsWith n masks done b a
      with_b = let l = g.left a low.member in record { present = l.0; waits = l.1; held = o.1; before = o.0 }

      waits : (j c : ℕ) → has done j ≡ false → has (get_or (set w b v) j 0) c ≡ true → (j ≡ b) ⊎ (j ≡ b → ⊥) → WaitsWith n masks done j c
      waits j c u p (inl e) = elim (either in' c (ap (λ (s : ℕ). has s c) (sym here) ∙ ap (λ (i : ℕ). has (get_or (set w b v) i 0) c) (sym e) ∙ p)) [
        | inl q ↦ g.waiting j c u (ap (λ (i : ℕ). has (get_or w i 0) c) e ∙ q)
        | inr q ↦ subst (λ (i : ℕ). WaitsWith n masks done i c) (sym e) (subst (WaitsWith n masks done b) q with_b)
      ]
      waits j c u p (inr e) = g.waiting j c u (ap (λ (s : ℕ). has s c) (sym (past j e)) ∙ p)

-- ---- all are looked at

module _ {n : ℕ} {masks : List ℕ} {done free : ℕ} {w : List ℕ} (g : Parted n masks done free 0 w) where
  -- an action that waits is not ready
  pub parted_each : (a : ℕ) → ReadyIn n masks done a → has free a ≡ true
  parted_each a y = elim (g.each a y.present y.waits (has-empty a)) [
    | inl p ↦ p
    | inr p ↦ absurd (not-both (y.free p.0 (g.waiting p.0 a p.1 p.2).before) p.1)
  ]

  -- ---- one is done: those that wait with it are to be looked at

  module _ {a free' done' : ℕ} (member : has free a ≡ true) (out : Without free a free') (in' : With done a done') where
    now : ReadyIn n masks done a
    now = g.ready a member

    -- what is not done now was not done before, and is not a
    undone : (c : ℕ) → has done' c ≡ false → (has done c ≡ false) × (a ≡ c → ⊥)
    undone c u = (
      elim (true_or_false (has done c)) [ inl q ↦ absurd (not-both (stays in' c q) u) | inr q ↦ q ],
      λ e. not-both (subst (λ (j : ℕ). has done' j ≡ true) e (added in')) u,
    )

    -- a waits with none, so what waits is not a
    still : {b c : ℕ} → WaitsWith n masks done b c → has done' c ≡ false
    still {b} {c} y = others in' c (λ e. not-both
        (now.free b (subst (λ (j : ℕ). has (get_or masks j 0) b ≡ true) (sym e) y.before)) y.held) ∙ y.waits

    pub parted_done : Parted n masks done' free' (get_or w a 0) w
    parted_done = record {
      long = g.long;
      left = λ c p. let y = g.waiting a c now.waits p in (y.present, still y);
      ready = λ c p. let y = g.ready c (was out c p) in record {
        present = y.present;
        waits = others in' c (apart out c p) ∙ y.waits;
        free = λ j q. stays in' j (y.free j q);
      };
      waiting = λ b c u p. let y = g.waiting b c (undone b u).0 p in
          record { present = y.present; waits = still y; held = u; before = y.before };
      each = λ c l u e. let v = undone c u in elim (g.each c l v.0 (has-empty c)) [
        | inl p ↦ inl (kept out c v.1 ∙ p)
        | inr p ↦ inr (p.0, others in' p.0 (λ i. not-both (subst (λ (j : ℕ). has (get_or w j 0) c ≡ true) (sym i) p.2) e) ∙ p.1, p.2)
      ];
    }
