-- The asked manager and the granted coast, over any tables: settled, and what the computed ones are. Assumes nothing.
use Prim.Native.Nat.{ℕ, suc, ◌+◌, ◌-◌, ◌≤◌, ◌<◌, min}
use mathlib.Core.Path.{◌≡◌, sym, subst, ap}
use mathlib.Core.Bool.{Bool, true, false, not, ◌||◌}
use mathlib.Core.Logic.{◌⊎◌, inl, inr, ◌↔◌}
use native.Mathlib.Nat.{le_antisymm}
use native.Mathlib.Decide.{dec_lt}
use native.Mathlib.Omega.{arith}
use lib.Dec.{leb, leb→le, le→leb}
use lib.IntN.{pos}
use lib.Signed.{le_z, ◌≤ℤ◌}
use Rattle.rules.specs.Words.{last_passing, all_pass}
use Rattle.rules.specs.Limits.{Plan, Gives, Late}
use Rattle.rules.specs.Run.{Qualifies, Grants, level_given, fits, qualifies, left_granted}
use Rattle.rules.proofs.Tests.{pass, passed, failed, not-both, not-true, and-true, or-true, Last, last_is, all_pass-each, each-all_pass}

module _ (P : Plan) where
  test_fits : (t i q : ℕ) → (le_z (pos t) (P.limit i q) ≡ true) ↔ (pos t ≤ℤ P.limit i q)
  test_fits t i q = ((λ h. record { le = pass _ h }), (λ h. passed _ h.le))

  -- ---- the level

  -- two managers give the same
  pub gives_one : {t i q r : ℕ} → Gives P t i q → Gives P t i r → q ≡ r
  gives_one {t} {i} {q} {r} g h = go g.fits h.fits
    where
      below : {x y : ℕ} → Gives P t i x → Gives P t i y → pos t ≤ℤ P.limit i y → y ≤ x
      below {x} {y} a b f = le-of-not (λ l. a.none_above y l b.level f)
        where
          le-of-not : (x < y → ⊥) → y ≤ x
          le-of-not n = omega arith

      go : (pos t ≤ℤ P.limit i q) ⊎ (q ≡ 0) → (pos t ≤ℤ P.limit i r) ⊎ (r ≡ 0) → q ≡ r
      go (inl a) (inl b) = le_antisymm (below h g a) (below g h b)
      go (inl a) (inr b) = omega (arith, below h g a)
      go (inr a) (inl b) = omega (arith, below g h b)
      go (inr a) (inr b) = omega arith

  -- The computed level is what the asked manager gives,
  pub level_given-gives : (t i : ℕ) → 0 < P.levels → Gives P t i (level_given P t i)
  unfolding level_given
  level_given-gives t i some = record {
    level = found.below some;
    fits = at found.is;
    none_above = λ p a b f. found.none_above p a b ((test_fits t i p).1 f);
  }
    where
      test : ℕ → Bool
      test q = le_z (pos t) (P.limit i q)

      found : Last test P.levels (last_passing test P.levels)
      found = last_is test P.levels

      at : (test (last_passing test P.levels) ≡ true) ⊎ ((last_passing test P.levels ≡ 0) × ((y : ℕ) → y < P.levels → test y ≡ true → ⊥))
          → (pos t ≤ℤ P.limit i (last_passing test P.levels)) ⊎ (last_passing test P.levels ≡ 0)
      at (inl h) = inl ((test_fits t i _).0 h)
      at (inr h) = inr h.0

  -- and it does not fit exactly where none does.
  pub fits-exact : (t i : ℕ) → 0 < P.levels → (fits P t i ≡ false) ↔ Late P t i
  unfolding fits level_given
  fits-exact t i some = (there found.is, (λ h. failed _ (λ e. h _ (found.below some) ((test_fits t i _).0 e))))
    where
      test : ℕ → Bool
      test q = le_z (pos t) (P.limit i q)

      x : ℕ
      x = last_passing test P.levels

      found : Last test P.levels x
      found = last_is test P.levels

      there : (test x ≡ true) ⊎ ((x ≡ 0) × ((y : ℕ) → y < P.levels → test y ≡ true → ⊥)) → test x ≡ false → Late P t i
      there (inl h) e q l f = not-both h e
      there (inr h) e q l f = h.1 q l ((test_fits t i q).1 f)

  -- ---- the coast

  module _ (t i q : ℕ) where
    -- the two conditions on r, apart from its range
    abbrev Passes : ℕ → Type 0
    Passes r = (pos t ≤ℤ P.bound i q r) × (suc q < P.levels → (j : ℕ) → i ≤ j → j < i + r → pos t ≤ℤ P.limit j (suc q) → ⊥)

    clear : ℕ → Bool
    clear j = not (le_z (pos t) (P.limit (i + j) (suc q)))

    qualifies-is : (r : ℕ) → (qualifies P t i q r ≡ true) ↔ ((le_z (pos t) (P.bound i q r) ≡ true) × ((leb P.levels (suc q) ≡ true) ⊎ (all_pass clear r ≡ true)))
    unfolding qualifies clear
    qualifies-is r =
        let B = and-true (le_z (pos t) (P.bound i q r)) (leb P.levels (suc q) || all_pass clear r) in
        let O = or-true (leb P.levels (suc q)) (all_pass clear r) in
        ((λ h. ((B.0 h).0, O.0 (B.0 h).1)), (λ h. B.1 (h.0, O.1 h.1)))

    qualifies-passes : (r : ℕ) → qualifies P t i q r ≡ true → Passes r
    unfolding clear
    qualifies-passes r h = let both = (qualifies-is r).0 h in ((record { le = pass _ both.0 }), higher both.1)
      where
        higher : (leb P.levels (suc q) ≡ true) ⊎ (all_pass clear r ≡ true) → suc q < P.levels → (j : ℕ) → i ≤ j → j < i + r → pos t ≤ℤ P.limit j (suc q) → ⊥
        higher (inl top) l j a b f = let no_such : ⊥ = omega (arith, leb→le P.levels (suc q) (pass _ top)) in no_such
        higher (inr all) l j a b f =
            let e : i + (j - i) ≡ j = omega arith in
            (not-true _).0 (subst (λ (y : ℕ). not (le_z (pos t) (P.limit y (suc q))) ≡ true) e (all_pass-each clear r all (j - i) (omega arith))) ((test_fits t j (suc q)).1 f)

    passes-qualifies : (r : ℕ) → Passes r → qualifies P t i q r ≡ true
    unfolding clear
    passes-qualifies r p = (qualifies-is r).1 (passed _ p.0.le, higher (dec_lt (suc q) P.levels))
      where
        higher : Dec (suc q < P.levels) → (leb P.levels (suc q) ≡ true) ⊎ (all_pass clear r ≡ true)
        higher (yes l) = inr (each-all_pass clear r (λ j h. (not-true _).1 (λ e. p.1 l (i + j) (omega arith) (omega arith) ((test_fits t (i + j) (suc q)).0 e))))
        higher (no l) = inl (passed _ (le→leb P.levels (suc q) (omega arith)))

    -- The computed coast is what a decision grants.
    pub left_granted_grants : (cap : ℕ) → 0 < cap → i < P.n → Grants cap P t i q (suc (left_granted cap P t i q))
    unfolding left_granted
    left_granted_grants cap some l = record {
      is = at found.is;
      greatest = λ x Q. over x Q (dec_lt x (suc (suc y)));
    }
      where
        test : ℕ → Bool
        test x = qualifies P t i q (suc x)

        m : ℕ
        m = min cap (P.n - i)

        y : ℕ
        y = last_passing test m

        found : Last test m y
        found = last_is test m

        one_less : (x : ℕ) → 0 < x → suc (x - 1) ≡ x
        one_less x h = omega arith

        passing : (x : ℕ) → Qualifies cap P t i q x → test (x - 1) ≡ true
        passing x Q = subst (λ (z : ℕ). qualifies P t i q z ≡ true) (sym (one_less x Q.some)) (passes-qualifies x (Q.under, Q.above))

        at : (test y ≡ true) ⊎ ((y ≡ 0) × ((x : ℕ) → x < m → test x ≡ true → ⊥)) → Qualifies cap P t i q (suc y) ⊎ ((suc y ≡ 1) × ((x : ℕ) → Qualifies cap P t i q x → ⊥))
        at (inl h) = let p = qualifies-passes (suc y) h in inl (record {
          some = omega arith;
          most = omega (arith, found.below (omega arith));
          room = omega (arith, found.below (omega arith));
          under = p.0;
          above = p.1;
        })
        at (inr h) = inr (ap suc h.0, λ x Q. h.1 (x - 1) (omega (arith, Q.some, Q.most, Q.room)) (passing x Q))

        over : (x : ℕ) → Qualifies cap P t i q x → Dec (x < suc (suc y)) → x ≤ suc y
        over x Q (yes k) = omega arith
        over x Q (no k) = absurd (found.none_above (x - 1) (omega arith) (omega (arith, Q.some, Q.most, Q.room)) (passing x Q))

  -- two grants are the same
  pub grants_one : {cap t i q r s : ℕ} → Grants cap P t i q r → Grants cap P t i q s → r ≡ s
  grants_one {cap} {t} {i} {q} {r} {s} g h = go g.is h.is
    where
      go : Qualifies cap P t i q r ⊎ ((r ≡ 1) × ((x : ℕ) → Qualifies cap P t i q x → ⊥)) → Qualifies cap P t i q s ⊎ ((s ≡ 1) × ((x : ℕ) → Qualifies cap P t i q x → ⊥)) → r ≡ s
      go (inl a) (inl b) = le_antisymm (h.greatest r a) (g.greatest s b)
      go (inl a) (inr b) = absurd (b.1 r a)
      go (inr a) (inl b) = absurd (a.1 s b)
      go (inr a) (inr b) = omega (arith, a.0, b.0)
