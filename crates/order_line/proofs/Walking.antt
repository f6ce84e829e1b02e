-- The line so far and the walk that goes back from it.
use mathlib.Core.Path.{◌≡◌, refl, sym, ap, subst, ◌∙◌}
use mathlib.Core.Bool.{Bool, true, false, cond}
use mathlib.Core.Logic.{◌⊎◌, inl, inr, ◌↔◌}
use mathlib.Core.List.{List}
use Prim.Native.Nat.{ℕ, suc, ◌+◌, ◌≤◌, ◌<◌}
use native.Mathlib.Nat.{le_refl}
use native.Mathlib.Omega.{arith}
use lib.Bits.{bit_and}
use lib.Dec.{ltb}
use lib.ListN.{length, get_or, set, length-set}
use borrow.Author.Tests.{lt-ltb, le-ltb, ltb-true}
use Rattle.rules.specs.Image.{has}
use Rattle.rules.specs.Order.{Loop}
use Rattle.rules.proofs.Tests.{true_or_false, not-both, and-true}
use Rattle.rules.proofs.Sums.{below_suc}
use Rattle.rules.proofs.Order.Best.{ready_permitted}
use Rattle.rules.proofs.Order.Loops.{no_loop, round_loop}
use Rattle.rules.proofs.Order.Stepwise.{Free, free-same, listed, listed_at, listed-ready}
use Rattle.sets.specs.Sets.{members, Below, AllBelow, Lowest, Without, comes_before}
use Rattle.sets.proofs.Bits.{has-empty, has-and}
use Rattle.sets.proofs.Laws.{gone, kept, was}
use Rattle.sets.proofs.Members.{members-none, members_all, members_without}
use Rattle.sets.proofs.Cases.{lt-or-le, eq-or_ne}
use Rattle.order_line.specs.Line.{InLine, Lined}
use Rattle.order_line.proofs.Growing.{Among, past, among_set, here, among_more}

-- ---- the predecessors that are left, `mask & left`

module _ (mask left : ℕ) where
  pub none_left : bit_and mask left ≡ 0 → (b : ℕ) → has mask b ≡ true → has left b ≡ false
  none_left e b m = elim (true_or_false (has left b)) [
    | inl p ↦ absurd (not-both (has-and mask left b ∙ (and-true (has mask b) (has left b)).1 (m, p)) (ap (λ (s : ℕ). has s b) e ∙ has-empty b))
    | inr p ↦ p
  ]

  pub one_left : {b : ℕ} → Lowest (bit_and mask left) b → (has mask b ≡ true) × (has left b ≡ true)
  one_left {b} low = (and-true (has mask b) (has left b)).0 (sym (has-and mask left b) ∙ low.member)

module _ (n : ℕ) (masks : List ℕ) where
  -- an action that has its place
  abbrev Has : ℕ → ℕ → Type 0
  Has left a = (a < n) × (has left a ≡ false)

  -- ---- the line

  -- The first k of the list are in line; left has the others.
  pub record Lining (l : List ℕ) (left k : ℕ) : Type 0 where
    pub long : length l ≡ 64
    pub below : Below left n
    pub counts : members 64 left + k ≡ n
    pub exact : (a : ℕ) → Has left a ↔ Among l k a
    pub free : (j : ℕ) → j < k → (get_or l j 0 < n) × Free n (comes_before masks) (Among l j) (get_or l j 0)

  pub lining_start : {l : List ℕ} {all : ℕ} → n ≤ 64 → length l ≡ 64 → AllBelow n all → Lining l all 0
  lining_start few long every = record {
    long = long;
    below = λ a p. ltb-true a n (sym (every.each a) ∙ p);
    counts = omega (arith, members_all every 64);
    exact = λ a. (λ h. absurd (not-both (every.each a ∙ lt-ltb a n h.0) h.1), λ e. absurd (omega (arith, e.1)));
    free = λ j m. absurd (omega arith);
  }

  module _ {l : List ℕ} {left k : ℕ} (few : n ≤ 64) (g : Lining l left k) where
    -- action a takes the next place
    module _ {a left' : ℕ} (member : has left a ≡ true) (all : (b : ℕ) → comes_before masks b a → has left b ≡ false) (out : Without left a left') where
      counted : members 64 left ≡ suc (members 64 left')
      counted = members_without out 64 member (omega (arith, g.below a member))

      pub place-small : k < 64
      place-small = omega (arith, counted, g.counts)

      done : (b : ℕ) → Has left' b ↔ (Has left b ⊎ (a ≡ b))
      done b = (
        λ h. elim (eq-or_ne a b) [ inl e ↦ inr e | inr ne ↦ inl (h.0, sym (kept out b ne) ∙ h.1) ],
        elim [
          | inl h ↦ (h.0, kept out b (λ e. not-both (ap (has left) (sym e) ∙ member) h.1) ∙ h.1)
          | inr e ↦ (subst (λ (c : ℕ). c < n) e (g.below a member), ap (has left') (sym e) ∙ gone out)
        ],
      )

      pub lining_more : Lining (set l k a) left' (k + 1)
      lining_more = record {
        long = length-set l k a ∙ g.long;
        below = λ b p. g.below b (was out b p);
        counts = omega (arith, counted, g.counts);
        exact = rw (let e : k + 1 ≡ suc k = omega arith in e) (among_more l k a (omega (arith, place-small, g.long)) g.exact done);
        free = λ j m. below_suc k Open (λ i h. moved i (omega arith) (g.free i h)) new j (omega arith);
      }
        where
          Open : ℕ → Type 0
          Open j = (get_or (set l k a) j 0 < n) × Free n (comes_before masks) (Among (set l k a) j) (get_or (set l k a) j 0)

          moved : (j : ℕ) → j < k → (get_or l j 0 < n) × Free n (comes_before masks) (Among l j) (get_or l j 0) → Open j
          moved j h f = rw (past l k a j (omega arith)) (f.0, free-same n (comes_before masks) (among_set l k a j (omega arith)) _ f.1)

          new : Open k
          new = rw (here l k a (omega (arith, place-small, g.long))) (
            g.below a member,
            free-same n (comes_before masks) (among_set l k a k (le_refl k)) a
                ((λ e. not-both member ((g.exact a).1 e).1), λ b m h. (g.exact b).0 (m, all b h)),
          )

    -- all have their places
    pub lining_whole : left ≡ 0 → InLine n masks l
    lining_whole e = (
      listed n (comes_before masks) (λ i. get_or l i 0) each,
      ready_permitted _ (listed-ready n (comes_before masks) (λ i. get_or l i 0) each),
      λ j m. sym (listed_at n (comes_before masks) (λ i. get_or l i 0) each j),
    )
      where
        each : (j : ℕ) → j < n → (get_or l j 0 < n) × Free n (comes_before masks) (Among l j) (get_or l j 0)
        each j m = g.free j (omega (arith, g.counts, ap (members 64) e, members-none 64))

  -- ---- the walk

  -- The walk has come to a: path has the actions from its beginning to a, none of which has its place, each before the one it was come from.
  pub record Walk (path : List ℕ) (left depth a : ℕ) : Type 0 where
    pub deep : depth < n
    pub at : get_or path depth 0 ≡ a
    pub left_on : (i : ℕ) → i ≤ depth → has left (get_or path i 0) ≡ true
    pub back : (i : ℕ) → i < depth → comes_before masks (get_or path (suc i) 0) (get_or path i 0)

  -- a walk begins
  pub walk_begins : {path : List ℕ} {left a : ℕ} → a < n → get_or path 0 0 ≡ a → has left a ≡ true → Walk path left 0 a
  walk_begins {path} {left} m e member = record {
    deep = omega arith;
    at = e;
    left_on = λ i l. let z : i ≡ 0 = omega arith in rw (z, e) member;
    back = λ i l. absurd (omega arith);
  }

  module _ {path : List ℕ} {left depth a : ℕ} (w : Walk path left depth a) where
    pub walk_left : has left a ≡ true
    walk_left = subst (λ (c : ℕ). has left c ≡ true) w.at (w.left_on depth (le_refl depth))

    -- it goes back to b
    module _ (b : ℕ) (comes : comes_before masks b a) (member : has left b ≡ true) where
      -- of n actions of a walk and one more two are the same
      pub walk_round : Below left n → depth + 1 ≡ n → Loop n (comes_before masks)
      walk_round below e = round_loop n (comes_before masks) then present back
        where
          then : ℕ → ℕ
          then i = cond (ltb i n) (get_or path i 0) b

          on : (i : ℕ) → i < n → then i ≡ get_or path i 0
          on i l = ap (λ (t : Bool). cond t (get_or path i 0) b) (lt-ltb i n l)

          last : then n ≡ b
          last = ap (λ (t : Bool). cond t (get_or path n 0) b) (le-ltb n n (le_refl n))

          present : (i : ℕ) → i ≤ n → then i < n
          present i l = elim (lt-or-le i n) [
            | inl m ↦ subst (λ (c : ℕ). c < n) (sym (on i m)) (below _ (w.left_on i (omega arith)))
            | inr m ↦ let z : i ≡ n = omega arith in subst (λ (c : ℕ). c < n) (sym (ap then z ∙ last)) (below b member)
          ]

          back : (i : ℕ) → i < n → comes_before masks (then (suc i)) (then i)
          back i l = elim (lt-or-le (suc i) n) [
            | inl m ↦ rw (on (suc i) m, on i l) (w.back i (omega arith))
            | inr m ↦ let z : suc i ≡ n = omega arith in let y : i ≡ depth = omega arith in
                rw (ap then z ∙ last, on i l, ap (λ (j : ℕ). get_or path j 0) y ∙ w.at) comes
          ]

      pub walk_on : length path ≡ 64 → n ≤ 64 → (depth + 1 ≡ n → ⊥) → Walk (set path (depth + 1) b) left (depth + 1) b
      walk_on long few short = record {
        deep = omega (arith, w.deep);
        at = new;
        left_on = λ i l. elim (eq-or_ne i (depth + 1)) [
          | inl e ↦ subst (λ (c : ℕ). has left c ≡ true) (sym (ap (λ (j : ℕ). get_or (set path (depth + 1) b) j 0) e ∙ new)) member
          | inr ne ↦ rw (past path (depth + 1) b i ne) (w.left_on i (omega arith))
        ];
        back = λ i l. elim (eq-or_ne i depth) [
          | inl e ↦ rw (ap (λ (j : ℕ). get_or (set path (depth + 1) b) (suc j) 0) e ∙ top, past path (depth + 1) b i (omega arith), ap (λ (j : ℕ). get_or path j 0) e ∙ w.at) comes
          | inr ne ↦ rw (past path (depth + 1) b i (omega arith), past path (depth + 1) b (suc i) (omega arith)) (w.back i (omega arith))
        ];
      }
        where
          new : get_or (set path (depth + 1) b) (depth + 1) 0 ≡ b
          new = here path (depth + 1) b (omega (arith, w.deep, long))

          top : get_or (set path (depth + 1) b) (suc depth) 0 ≡ b
          top = let e : suc depth ≡ depth + 1 = omega arith in ap (λ (j : ℕ). get_or (set path (depth + 1) b) j 0) e ∙ new

    -- a has got its place
    module _ {left' : ℕ} (all : (b : ℕ) → comes_before masks b a → has left b ≡ false) (out : Without left a left') where
      -- it is nowhere else on the walk: what comes after it there is before it, and left
      alone : (i : ℕ) → i < depth → a ≡ get_or path i 0 → ⊥
      alone i l e = not-both (w.left_on (suc i) l) (all _ (subst (comes_before masks (get_or path (suc i) 0)) (sym e) (w.back i l)))

      pub walk_returns : {d : ℕ} → depth ≡ d + 1 → Walk path left' d (get_or path d 0)
      walk_returns {d} e = record {
        deep = omega (arith, w.deep);
        at = refl;
        left_on = λ i l. kept out _ (alone i (omega arith)) ∙ w.left_on i (omega arith);
        back = λ i l. w.back i (omega arith);
      }

-- ---- what is told

-- Where the actions are in line there is no loop.
pub lined_exact : {n : ℕ} {masks l : List ℕ} {looped : Bool} → Lined n masks looped l → (looped ≡ true) ↔ Loop n (comes_before masks)
lined_exact {looped = looped} x = (
  x.loop,
  λ h. elim (true_or_false looped) [ inl e ↦ e | inr e ↦ let line = x.whole e in absurd (no_loop line.0 line.1 h) ],
)
