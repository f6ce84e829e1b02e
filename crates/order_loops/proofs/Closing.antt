-- The sets of all that comes before each action, through one more action at a time.
use mathlib.Core.Path.{◌≡◌, sym, subst, ◌∙◌}
use mathlib.Core.Bool.{true, false}
use mathlib.Core.Logic.{◌⊎◌, inl, inr, ⊎_map}
use mathlib.Core.List.{List}
use Prim.Native.Nat.{ℕ, suc, ◌+◌, ◌≤◌, ◌<◌}
use native.Mathlib.Nat.{le_refl}
use native.Mathlib.Numerals.{add-one}
use native.Mathlib.Omega.{arith}
use borrow.Author.Count.{below_more}
use lib.Bits.{bit_or}
use lib.ListN.{length, get_or, set, length-set}
use lib.Seq.{get_or-set_same, get_or-set_other}
use Rattle.rules.specs.Image.{has}
use Rattle.rules.specs.Order.{MustFollow}
use Rattle.rules.proofs.Tests.{not-both, or-true}
use Rattle.sets.specs.Sets.{comes_before}
use Rattle.sets.proofs.Bits.{has-or}
use Rattle.sets.proofs.Cases.{eq-or_ne}
use Rattle.order_loops.specs.Looped.{Leads, next, via, Row, Rows}

module _ (masks : List ℕ) where
  -- ---- through one action more

  more : {k a b : ℕ} → Leads masks k a b → Leads masks (suc k) a b
  more (next h) = next h
  more (via c l p q) = via c (omega arith) (more p) (more q)

  -- a way through actions below k + 1 goes through k once or not at all
  abbrev Split : ℕ → ℕ → ℕ → Type 0
  Split k a b = Leads masks k a b ⊎ (Leads masks k a k × Leads masks k k b)

  to_k : {k a b : ℕ} → Split k a b → b ≡ k → Leads masks k a k
  to_k {k} {a} (inl p) e = subst (Leads masks k a) e p
  to_k (inr p) e = p.0

  from-k : {k a b : ℕ} → Split k a b → a ≡ k → Leads masks k k b
  from-k {k} {a} {b} (inl p) e = subst (λ (x : ℕ). Leads masks k x b) e p
  from-k (inr p) e = p.1

  joined : {k a b : ℕ} (c : ℕ) → c < k → Split k a c → Split k c b → Split k a b
  joined c l (inl p) (inl q) = inl (via c l p q)
  joined c l (inl p) (inr q) = inr (via c l p q.0, q.1)
  joined c l (inr p) (inl q) = inr (p.0, via c l p.1 q)
  joined c l (inr p) (inr q) = inr (p.0, q.1)

  split : {k a b : ℕ} → Leads masks (suc k) a b → Split k a b
  split (next h) = inl (next h)
  split {k} {a} {b} (via c l p q) = go (split p) (split q) (eq-or_ne c k)
    where
      go : Split k a c → Split k c b → (c ≡ k) ⊎ (c ≡ k → ⊥) → Split k a b
      go x y (inl e) = inr (to_k x e, from-k y e)
      go x y (inr n) = joined c (omega arith) x y

  row_in : {k b near far : ℕ} → Row masks k b near → Row masks k k far → has near k ≡ true → Row masks (suc k) b (bit_or near far)
  row_in {k} {b} {near} {far} r v h = record {
    only = λ a p. elim ((or-true (has near a) (has far a)).0 (sym (has-or near far a) ∙ p)) [
      | inl e ↦ more (r.only a e)
      | inr e ↦ via k (omega arith) (more (v.only a e)) (more (r.only k h))
    ];
    each = λ a p. has-or near far a ∙ (or-true (has near a) (has far a)).1 (⊎_map (r.each a) (λ x. v.each a x.0) (split p));
  }

  row_out : {k b near : ℕ} → Row masks k b near → has near k ≡ false → Row masks (suc k) b near
  row_out {k} {b} {near} r h = record { only = λ a p. more (r.only a p); each = λ a p. go a (split p) }
    where
      go : (a : ℕ) → Split k a b → has near a ≡ true
      go a (inl x) = r.each a x
      go a (inr x) = absurd (not-both (r.each k x.1) h)

  -- ---- one row more

  -- the rows below b go through k too, the others through actions below k
  pub record Mixed (n k b : ℕ) (all : List ℕ) : Type 0 where
    pub long : length all ≡ 64
    pub new : (i : ℕ) → i < b → i < n → Row masks (suc k) i (get_or all i 0)
    pub old : (i : ℕ) → b ≤ i → i < n → Row masks k i (get_or all i 0)

  pub mixed-start : {n k : ℕ} {all : List ℕ} → Rows masks n k all → Mixed n k 0 all
  mixed-start rows = record { long = rows.long; new = λ i h l. absurd (omega arith); old = λ i h l. rows.row i l }

  pub mixed-end : {n k b : ℕ} {all : List ℕ} → n ≤ b → Mixed n k b all → Rows masks n (k + 1) all
  mixed-end {n} {k} m g = record { long = g.long; row = λ i l. rw (add-one k) (g.new i (omega arith) l) }

  module _ {n k b : ℕ} {all : List ℕ} (l : b < n) (g : Mixed n k b all) where
    pub mixed-out : has (get_or all b 0) k ≡ false → Mixed n k (b + 1) all
    mixed-out h = record {
      long = g.long;
      new = below_more (λ (i : ℕ). i < n → Row masks (suc k) i (get_or all i 0)) b g.new (λ m. row_out (g.old b (le_refl b) l) h);
      old = λ i j m. g.old i (omega arith) m;
    }

    pub mixed_in : {far : ℕ} → b < 64 → Row masks k k far → has (get_or all b 0) k ≡ true
        → Mixed n k (b + 1) (set all b (bit_or (get_or all b 0) far))
    mixed_in {far} few v h = record {
      long = length-set all b (bit_or (get_or all b 0) far) ∙ g.long;
      new = below_more (λ (i : ℕ). i < n → Row masks (suc k) i (get_or (set all b (bit_or (get_or all b 0) far)) i 0)) b
          (λ i j m. rw (get_or-set_other all b i (bit_or (get_or all b 0) far) 0 (omega arith)) (g.new i j m))
          (λ m. rw (get_or-set_same all b (bit_or (get_or all b 0) far) 0 (omega (arith, g.long))) (row_in (g.old b (le_refl b) l) v h));
      old = λ i j m. rw (get_or-set_other all b i (bit_or (get_or all b 0) far) 0 (omega arith)) (g.old i (omega arith) m);
    }

  -- ---- all rows

  -- through no action
  pub rows_start : {n : ℕ} {all : List ℕ} → length all ≡ 64 → ((a : ℕ) → a < n → get_or all a 0 ≡ get_or masks a 0) → Rows masks n 0 all
  rows_start long same = record { long = long; row = λ b l. rw (same b l) (record { only = λ a h. next h; each = λ a p. none p }) }
    where
      none : {a c : ℕ} → Leads masks 0 a c → comes_before masks a c
      none (next h) = h
      none (via c m p q) = absurd (omega arith)

  -- through all actions: what must follow
  follow_on : {n a b c : ℕ} → MustFollow n (comes_before masks) a b → MustFollow n (comes_before masks) b c → MustFollow n (comes_before masks) a c
  follow_on (MustFollow.next l h) g = MustFollow.through l h g
  follow_on (MustFollow.through l h f) g = MustFollow.through l h (follow_on f g)

  leads_follow : {n a b : ℕ} → b < n → Leads masks n a b → MustFollow n (comes_before masks) a b
  leads_follow l (next h) = MustFollow.next l h
  leads_follow l (via c m p q) = follow_on (leads_follow m p) (leads_follow l q)

  follow_leads : {n a b : ℕ} → MustFollow n (comes_before masks) a b → Leads masks n a b
  follow_leads (MustFollow.next l h) = next h
  follow_leads (MustFollow.through {b = b} l h f) = via b l (next h) (follow_leads f)

  module _ {n : ℕ} {all : List ℕ} (rows : Rows masks n n all) {a : ℕ} (l : a < n) where
    pub looped_yes : has (get_or all a 0) a ≡ true → MustFollow n (comes_before masks) a a
    looped_yes h = leads_follow l ((rows.row a l).only a h)

    pub looped_no : has (get_or all a 0) a ≡ false → MustFollow n (comes_before masks) a a → ⊥
    looped_no h f = not-both ((rows.row a l).each a (follow_leads f)) h
