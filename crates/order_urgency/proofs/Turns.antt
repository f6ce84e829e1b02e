-- The actions have their turns one by one. What an action has at its turn stays its urgency.
use mathlib.Core.Path.{◌≡◌, sym, ap, subst, ◌∙◌}
use mathlib.Core.Bool.{Bool, true}
use mathlib.Core.Logic.{◌⊎◌, inl, inr}
use mathlib.Core.List.{List, []}
use Prim.Native.Nat.{ℕ, ◌+◌, ◌≤◌, ◌<◌, min}
use native.Mathlib.Nat.{le_refl, le_trans}
use native.Mathlib.Omega.{arith}
use borrow.Author.Tests.{lt-ltb, ltb-true}
use lib.Bits.{bit_and, bit_or}
use lib.ListN.{length, get_or}
use Rattle.rules.specs.Image.{has, due}
use Rattle.rules.specs.Order.{Order, Permitted, MustFollow}
use Rattle.rules.proofs.Tests.{true_or_false, not-both, and-true, or-true}
use Rattle.rules.proofs.Order.Alike.{urgency-alike}
use Rattle.rules.proofs.Order.Loops.{settled}
use Rattle.sets.specs.Sets.{Below, AllBelow, Without, comes_before}
use Rattle.sets.proofs.Bits.{has-and, has-or}
use Rattle.sets.proofs.Laws.{was, apart, kept}
use Rattle.sets.proofs.Cases.{lt-or-le, eq-or_ne}
use Rattle.order_urgency.specs.Lent.{lent_profile}
use Rattle.order_urgency.specs.Spread.{lowered, HandedEach, HandedOn, Foremost, Spread, Urgent}
use Rattle.order_urgency.proofs.Handing.{lowered-less, lowered-above, less, above}

-- a member of two sets, `p & q`
pub both_in : (p q b : ℕ) → has (bit_and p q) b ≡ true → (has p b ≡ true) × (has q b ≡ true)
both_in p q b h = (and-true (has p b) (has q b)).0 (sym (has-and p q b) ∙ h)

module _ (n : ℕ) (masks : List ℕ) (D : ℕ → ℕ) where
  -- x is the deadline of a or of an action that must follow it
  abbrev From : ℕ → ℕ → Type 0
  From a x = (x ≡ D a) ⊎ ((b : ℕ) × MustFollow n (comes_before masks) a b × (x ≡ D b))

  -- b is as urgent as y, or comes before one that is left and is
  abbrev Reached : (ℕ → Type 0) → List ℕ → ℕ → ℕ → Type 0
  Reached Left u b y = (get_or u b 0 ≤ y) ⊎ ((c : ℕ) × (c < n) × Left c × comes_before masks b c × (get_or u c 0 ≤ y))

  -- The urgencies are u, and the actions that are left have not had their turn. What comes before an action that has is as urgent, or will be at the
  -- turn of one that is left; and where one that follows it is left, then an action that has had its turn is as urgent as all that are left.
  pub record Turns (Left : ℕ → Type 0) (u : List ℕ) : Type 0 where
    pub long : length u ≡ 64
    pub own : (a : ℕ) → a < n → get_or u a 0 ≤ D a
    pub from : (a : ℕ) → a < n → From a (get_or u a 0)
    pub handed : (b a : ℕ) → b < n → a < n → comes_before masks b a → (Left a → ⊥) → Reached Left u b (get_or u a 0)
    pub ahead : (b a c : ℕ) → b < n → a < n → c < n → comes_before masks b a → (Left b → ⊥) → Left a → Left c → get_or u b 0 ≤ get_or u c 0

  pub turns_start : {Left : ℕ → Type 0} {u : List ℕ} → ((a : ℕ) → a < n → Left a) → length u ≡ 64 → ((a : ℕ) → a < n → get_or u a 0 ≡ D a)
      → Turns Left u
  turns_start all long same = record {
    long = long;
    own = λ a l. omega (arith, same a l);
    from = λ a l. inl (same a l);
    handed = λ b a l m h had. absurd (had (all a m));
    ahead = λ b a c l m k h had. absurd (had (all b l));
  }

  -- The turn of a: none that is left must follow it, or it is as urgent as all that are left. It hands on to those before it that are left.
  module _ (few : n ≤ 64) {Left Left' : ℕ → Type 0} {u v : List ℕ} {a to : ℕ} (present : a < n) (turns : Turns Left u)
      (here : Left a) (fewer : (b : ℕ) → Left' b → Left b × (a ≡ b → ⊥)) (rest : (b : ℕ) → b < n → Left b → (a ≡ b → ⊥) → Left' b)
      (last : (b c : ℕ) → b < n → c < n → comes_before masks a b → Left b → Left c → get_or u a 0 ≤ get_or u c 0)
      (of-to : (b : ℕ) → has to b ≡ true → (b < n) × comes_before masks b a × Left' b)
      (in-to : (b : ℕ) → b < n → comes_before masks b a → Left' b → has to b ≡ true) (x : HandedOn masks to (get_or u a 0) u v) where
    small : (b : ℕ) → b < n → b < 64
    small b l = omega arith

    -- a, and each that had its turn, stay as they are
    still : (b : ℕ) → b < n → (Left' b → ⊥) → get_or v b 0 ≡ get_or u b 0
    still b l had = elim (x.each b (small b l)) [ inl e ↦ e | inr e ↦ absurd (had (of-to b e.0).2) ]

    -- what comes before a and had its turn
    before_turn : (b : ℕ) → b < n → comes_before masks b a → (Left' b → ⊥) → get_or v b 0 ≤ get_or u a 0
    before_turn b l e had = elim (eq-or_ne a b) [
      | inl q ↦ omega (arith, still b l had, ap (λ (i : ℕ). get_or u i 0) q)
      | inr ne ↦ omega (arith, still b l had, turns.ahead b a a l present present e (λ y. had (rest b l y ne)) here here)
    ]

    -- all that comes before a
    reached_a : (b y : ℕ) → b < n → comes_before masks b a → get_or u a 0 ≤ y → Reached Left' v b y
    reached_a b y l e k = elim (true_or_false (has to b)) [
      | inl p ↦ elim (x.got b p) [
        | inl q ↦ inl (le_trans q k)
        | inr q ↦ let c = of-to q.0 q.1 in inr (q.0, c.0, c.2, q.2, le_trans q.3 k)
      ]
      | inr p ↦ inl (le_trans (before_turn b l e (λ y. not-both (in-to b l e y) p)) k)
    ]

    from_now : (b : ℕ) → b < n → From b (get_or v b 0)
    from_now b l = elim (x.each b (small b l)) [
      | inl e ↦ subst (From b) (sym e) (turns.from b l)
      | inr e ↦ lesser (of-to b e.0).1 e.1 (lt-or-le (get_or u a 0) (get_or u b 0))
    ]
      where
        behind : comes_before masks b a → From a (get_or u a 0) → From b (get_or u a 0)
        behind e (inl q) = inr (a, MustFollow.next present e, q)
        behind e (inr q) = inr (q.0, MustFollow.through present e q.1, q.2)

        lesser : comes_before masks b a → get_or v b 0 ≡ min (get_or u a 0) (get_or u b 0) → (get_or u a 0 < get_or u b 0) ⊎ (get_or u b 0 ≤ get_or u a 0)
            → From b (get_or v b 0)
        lesser e q (inl m) = subst (From b) (omega (arith, q)) (behind e (turns.from a present))
        lesser e q (inr m) = subst (From b) (omega (arith, q)) (turns.from b l)

    pub turns_more : Turns Left' v
    turns_more = record {
      long = x.long;
      own = λ b l. le_trans (less x b (small b l)) (turns.own b l);
      from = from_now;
      handed = λ b c l m h had. handed b c l m h had (eq-or_ne a c);
      ahead = λ b c d l m k h had yet too. ahead b c d l m k h had (fewer c yet).0 (fewer d too).0 (eq-or_ne a b);
    }
      where
        handed : (b c : ℕ) → b < n → c < n → comes_before masks b c → (Left' c → ⊥) → (a ≡ c) ⊎ (a ≡ c → ⊥) → Reached Left' v b (get_or v c 0)
        handed b c l m h had (inl e) =
            reached_a b (get_or v c 0) l (subst (comes_before masks b) (sym e) h) (omega (arith, still c m had, ap (λ (i : ℕ). get_or u i 0) e))
        handed b c l m h had (inr ne) = elim (turns.handed b c l m h (λ y. had (rest c m y ne))) [
          | inl q ↦ inl (omega (arith, q, less x b (small b l), still c m had))
          | inr q ↦ elim (eq-or_ne a q.0) [
            | inl i ↦ reached_a b (get_or v c 0) l (subst (comes_before masks b) (sym i) q.3)
                (omega (arith, q.4, still c m had, ap (λ (j : ℕ). get_or u j 0) i))
            | inr i ↦ inr (q.0, q.1, rest q.0 q.1 q.2 i, q.3, omega (arith, q.4, less x q.0 (small q.0 q.1), still c m had))
          ]
        ]

        ahead : (b c d : ℕ) → b < n → c < n → d < n → comes_before masks b c → (Left' b → ⊥) → Left c → Left d → (a ≡ b) ⊎ (a ≡ b → ⊥)
            → get_or v b 0 ≤ get_or v d 0
        ahead b c d l m k h had yet too (inl e) =
            let q = last c d m k (subst (λ (i : ℕ). comes_before masks i c) (sym e) h) yet too in
            omega (arith, above x d (small d k) (get_or u a 0) (le_refl _) q, still b l had, ap (λ (i : ℕ). get_or u i 0) e)
        ahead b c d l m k h had yet too (inr ne) =
            let past : Left b → ⊥ = λ y. had (rest b l y ne) in
            omega (
              arith,
              above x d (small d k) (get_or u b 0) (turns.ahead b c a l m present h past yet here) (turns.ahead b c d l m k h past yet too),
              still b l had,
            )

  -- ---- whose turn it is

  -- in a permitted order, from its end: of those that are left the last
  pub turn_of-last : n ≤ 64 → (o : Order n) → Permitted (comes_before masks) o → {k p a all : ℕ} {u v : List ℕ} → k ≡ p + 1 → k ≤ n → a ≡ o.at p
      → AllBelow n all → Turns (λ b. o.pos b < k) u → HandedOn masks (bit_and (get_or masks a 0) all) (get_or u a 0) u v → Turns (λ b. o.pos b < p) v
  turn_of-last few o permitted {k} {p} {a} {all} is most e every turns x = turns_more few present turns (omega (arith, place))
      (λ b l. (omega arith, λ q. omega (arith, place, ap o.pos q)))
      (λ b m l ne. elim (lt-or-le (o.pos b) p) [ inl h ↦ h | inr h ↦ absurd (ne (e ∙ same b (omega arith) ∙ o.at_pos b m)) ])
      (λ b c m k h l. absurd (omega (arith, permitted a b present m h, place)))
      (λ b h. let q = both_in (get_or masks a 0) all b h in let m = ltb-true b n (sym (every.each b) ∙ q.1) in (m, q.0, omega (arith, permitted b a m present q.0, place)))
      (λ b m h l. has-and (get_or masks a 0) all b ∙ (and-true _ _).1 (h, every.each b ∙ lt-ltb b n m))
      x
    where
      present : a < n
      present = subst (λ (i : ℕ). i < n) (sym e) (o.at_lt p (omega arith))

      place : o.pos a ≡ p
      place = ap o.pos e ∙ o.pos_at p (omega arith)

      same : (b : ℕ) → o.pos b ≡ p → o.at p ≡ o.at (o.pos b)
      same b q = ap o.at (sym q)

  -- without one, one of the least urgent
  pub turn_of-least : n ≤ 64 → {left left' a : ℕ} {u v : List ℕ} → Below left n → Foremost u left a → Without left a left'
      → HandedOn masks (bit_and (get_or masks a 0) left') (get_or u a 0) u v → Turns (λ b. has left b ≡ true) u → Turns (λ b. has left' b ≡ true) v
  turn_of-least few {left} {left'} {a} below least out x turns = turns_more few (below _ least.0) turns least.0
      (λ b p. (was out b p, apart out b p)) (λ b m p ne. kept out b ne ∙ p) (λ b c m k h p q. least.1 c q)
      (λ b h. let q = both_in (get_or masks a 0) left' b h in (below b (was out b q.1), q.0, q.1))
      (λ b m h l. has-and (get_or masks a 0) left' b ∙ (and-true _ _).1 (h, l)) x

-- Of those that are left the ones before it are among the least urgent then, and so are those that were.
module _ (mask : ℕ) {left left' a : ℕ} {u v : List ℕ} (small : Below left 64) (least : Foremost u left a) (out : Without left a left')
    (x : HandedEach (has (bit_and mask left')) (get_or u a 0) u v) (front : ℕ) (all : (b : ℕ) → has front b ≡ true → Foremost u left b) where
  as_urgent : (b : ℕ) → has left' b ≡ true → has (bit_or front mask) b ≡ true → get_or v b 0 ≤ get_or u a 0
  as_urgent b l p = elim ((or-true (has front b) (has mask b)).0 (sym (has-or front mask b) ∙ p)) [
    | inl f ↦ omega (arith, x.each b here, lowered-less (has (bit_and mask left') b) (get_or u a 0) (get_or u b 0), (all b f).1 a least.0)
    | inr f ↦ let e = has-and mask left' b ∙ (and-true (has mask b) (has left' b)).1 (f, l) in
        omega (arith, x.each b here ∙ ap (λ (y : Bool). lowered y (get_or u a 0) (get_or u b 0)) e)
  ]
    where
      here : b < 64
      here = small b (was out b l)

  pub front-more : (b : ℕ) → has (bit_and (bit_or front mask) left') b ≡ true → Foremost v left' b
  front-more b p =
      let both = both_in (bit_or front mask) left' b p in (
        both.1,
        λ c q. let l = was out c q in omega (
          arith,
          as_urgent b both.1 both.0,
          x.each c (small c l),
          lowered-above (has (bit_and mask left') c) (get_or u a 0) (get_or u c 0) (get_or u a 0) (le_refl _) (least.1 c l),
        ),
      )

-- all have had their turn
pub turns_end : (u : List ℕ) {n : ℕ} {masks v : List ℕ} {Left : ℕ → Type 0} → ((a : ℕ) → a < n → Left a → ⊥) → Turns n masks (λ a. get_or u a 0) Left v → Spread n masks u v
turns_end u {n} {masks} {v} none turns a l =
    settled n (comes_before masks) (λ b. get_or u b 0) (λ b. get_or v b 0) turns.own (λ b c m k h. elim (turns.handed b c m k h (none c k)) [ inl e ↦ e | inr e ↦ absurd (none e.0 e.1 e.2) ]) a l (turns.from a l)

-- of a profile, where u has its deadlines
pub spread-urgent : (n cycle : ℕ) (masks deadlines u v : List ℕ) → ((a : ℕ) → a < n → get_or u a 0 ≡ due (lent_profile n cycle [] deadlines [] 0) a)
    → Spread n masks u v → Urgent (lent_profile n cycle masks deadlines [] 0) v
unfolding due
spread-urgent n cycle masks deadlines u v same spread a l = urgency-alike (λ b c m k h. h) (λ b c m k h. h) (λ b. get_or u b 0) _ same l (spread a l)
