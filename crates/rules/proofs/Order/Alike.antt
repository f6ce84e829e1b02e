-- The order, its loops and its fit depend on nothing but the masks' members, the due deadlines and the level 0 worst times below n.
use Prim.Native.Nat.{ℕ, suc, ◌<◌}
use mathlib.Core.Path.{◌≡◌, refl, sym, subst, ◌∙◌}
use mathlib.Core.Logic.{◌⊎◌, inl, inr, ◌↔◌}
use native.Mathlib.Omega.{arith}
use Rattle.rules.specs.Image.{Profile, has, due}
use Rattle.rules.specs.Order.{Order, Permitted, MustFollow, OnLoop, Urgency, Ready, ByUrgency, Meets, Before, TheOrder, FitFrom}
use Rattle.rules.specs.Refusals.{LoopFault, Looped}
use Rattle.rules.proofs.Sums.{sum_same}
use Rattle.rules.proofs.Order.Best.{follower_present}

-- ---- over what comes before what

-- of the actions below n, those that come before another by the first come before it by the second
abbrev pub Within : ℕ → (ℕ → ℕ → Type 0) → (ℕ → ℕ → Type 0) → Type 0
Within n before before' = (b a : ℕ) → b < n → a < n → before b a → before' b a

module _ {n : ℕ} {before before' : ℕ → ℕ → Type 0} (to : Within n before before') where
  pub follow_more : {a b : ℕ} → a < n → MustFollow n before a b → MustFollow n before' a b
  follow_more {a} {b} l (MustFollow.next m h) = MustFollow.next m (to a b l m h)
  follow_more {a} l (MustFollow.through {b = c} m h f) = MustFollow.through m (to a c l m h) (follow_more m f)

  pub permitted_less : (o : Order n) → Permitted before' o → Permitted before o
  permitted_less o p b a l m h = p b a l m (to b a l m h)

  ready-less : {o : Order n} {k a : ℕ} → Ready n before' o k a → Ready n before o k a
  ready-less {a = a} r = record { present = r.present; waits = r.waits; free = λ b l h. r.free b l (to b a l r.present h) }

module _ {n : ℕ} {before before' : ℕ → ℕ → Type 0} (to : Within n before before') (from : Within n before' before) where
  pub by_urgency-alike : {U : ℕ → ℕ} {o : Order n} → ByUrgency n before U o → ByUrgency n before' U o
  by_urgency-alike {o = o} g = record {
    ready = λ k l. ready-less from {o = o} (g.ready k l);
    least = λ k a l r. g.least k a l (ready-less to {o = o} r);
    lowest = λ k a l r. g.lowest k a l (ready-less to {o = o} r);
  }

  pub urgency-alike : (D D' : ℕ → ℕ) → ((a : ℕ) → a < n → D a ≡ D' a) → {a u : ℕ} → a < n → Urgency n before D a u → Urgency n before' D' a u
  urgency-alike D D' same {a} {u} l x = record {
    own = omega (arith, x.own, same a l);
    later = λ b f. omega (arith, x.later b (follow_more from l f), same b (follower_present f));
    met = go x.met;
  }
    where
      go : (u ≡ D a) ⊎ ((b : ℕ) × MustFollow n before a b × (u ≡ D b)) → (u ≡ D' a) ⊎ ((b : ℕ) × MustFollow n before' a b × (u ≡ D' b))
      go (inl e) = inl (e ∙ same a l)
      go (inr f) = inr (f.0, follow_more to l f.1, f.2 ∙ same f.0 (follower_present f.1))

pub meets-alike : {n : ℕ} (t : ℕ) (o : Order n) (c c' D D' : ℕ → ℕ) → ((a : ℕ) → a < n → c a ≡ c' a) → ((a : ℕ) → a < n → D a ≡ D' a)
    → Meets t o c D → Meets t o c' D'
meets-alike t o c c' D D' times dues m k l = omega (
  arith,
  m k l,
  dues (o.at k) (o.at_lt k l),
  sum_same (suc k) (λ j. c (o.at j)) (λ j. c' (o.at j)) (λ j h. times (o.at j) (o.at_lt j (omega arith))),
)

-- ---- of profiles

pub record Alike (F G : Profile) : Type 0 where
  pub n : F.n ≡ G.n
  pub masks : (a b : ℕ) → a < F.n → b < F.n → has (F.mask a) b ≡ has (G.mask a) b
  pub deadlines : (a : ℕ) → a < F.n → due F a ≡ due G a
  pub times : (a : ℕ) → a < F.n → F.worst a 0 ≡ G.worst a 0

module _ {F G : Profile} (x : Alike F G) where
  pub alike_back : Alike G F
  alike_back = record {
    n = sym x.n;
    masks = λ a b l m. sym (x.masks a b (omega (arith, x.n)) (omega (arith, x.n)));
    deadlines = λ a l. sym (x.deadlines a (omega (arith, x.n)));
    times = λ a l. sym (x.times a (omega (arith, x.n)));
  }

  to : Within F.n (Before F) (Before G)
  to b a l m h = sym (x.masks a b m l) ∙ h

  from : Within F.n (Before G) (Before F)
  from b a l m h = x.masks a b m l ∙ h

  on_loop_to : (a : ℕ) → (a < F.n) × LoopFault F a → (a < G.n) × LoopFault G a
  on_loop_to a (l, h) = subst (λ (m : ℕ). (a < m) × OnLoop m (Before G) a) x.n (l, follow_more to l h)

  looped_to : Looped F → Looped G
  looped_to (a, l, h) = let p = on_loop_to a (l, h) in (a, p.0, p.1)

  fit_to : (t : ℕ) → FitFrom t F → FitFrom t G
  fit_to t f = subst (λ (m : ℕ). (o : Order m) × Permitted (Before G) o × Meets t o (λ a. G.worst a 0) (due G)) x.n (
    f.0,
    permitted_less from f.0 f.1,
    meets-alike t f.0 (λ a. F.worst a 0) (λ a. G.worst a 0) (due F) (due G) x.times x.deadlines f.2,
  )

  -- an order of m actions is by the urgencies of G's deadlines
  abbrev By : (m : ℕ) → Order m → Type 0
  By m o = (U : ℕ → ℕ) × ((a : ℕ) → a < m → Urgency m (Before G) (due G) a (U a)) × ByUrgency m (Before G) U o

  -- the same order, action by action
  pub order_alike : {o : Order F.n} → TheOrder F o → (p : Order G.n) × TheOrder G p × ((k : ℕ) → p.at k ≡ o.at k)
  order_alike {o} y =
      let by : By F.n o = (
        y.urgency,
        λ a l. urgency-alike to from (due F) (due G) x.deadlines l (y.urgent a l),
        by_urgency-alike to from y.by_urgency,
      ) in
      let s = subst (λ (m : ℕ). (p : Order m) × By m p × ((k : ℕ) → p.at k ≡ o.at k)) x.n (o, by, λ k. refl) in
      (s.0, record { urgency = s.1.0; urgent = s.1.1; by_urgency = s.1.2 }, s.2)

-- the same actions are on a loop
pub on_loop-alike : {F G : Profile} → Alike F G → (a : ℕ) → ((a < F.n) × LoopFault F a) ↔ ((a < G.n) × LoopFault G a)
on_loop-alike x a = (on_loop_to x a, on_loop_to (alike_back x) a)

pub looped-alike : {F G : Profile} → Alike F G → Looped F ↔ Looped G
looped-alike x = (looped_to x, looped_to (alike_back x))

pub fit_alike : {F G : Profile} → Alike F G → (t : ℕ) → FitFrom t F ↔ FitFrom t G
fit_alike x t = (fit_to x t, fit_to (alike_back x) t)
