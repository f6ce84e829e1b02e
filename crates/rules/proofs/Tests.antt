-- Tests: what a Bool says, and what the computed searches of the rules find. Assumes nothing.
use Prim.Native.Nat.{ℕ, zero, suc, ◌+◌, ◌<◌}
use mathlib.Core.Path.{◌≡◌, refl, sym, subst, ◌∙◌}
use mathlib.Core.Bool.{Bool, true, false, not, cond, ◌&&◌, ◌||◌, true≢false, false≢true}
use mathlib.Core.Logic.{◌⊎◌, inl, inr, ◌↔◌}
use native.Mathlib.Nat.{le_refl, le_antisymm, not-suc-le-zero}
use native.Mathlib.Decide.{dec_lt}
use native.Mathlib.Numerals.{add-one}
use native.Mathlib.Omega.{arith}
use lib.Dec.{T}
use Rattle.rules.specs.Words.{last_passing, all_pass}

pub passed : (b : Bool) → T b → b ≡ true
passed true h = refl
passed false h = absurd h

pub pass : (b : Bool) → b ≡ true → T b
pass true h = tt
pass false h = absurd (false≢true h)

pub true_or_false : (b : Bool) → (b ≡ true) ⊎ (b ≡ false)
true_or_false true = inl refl
true_or_false false = inr refl

pub is_true? : (b : Bool) → Dec (b ≡ true)
is_true? true = yes refl
is_true? false = no false≢true

pub failed : (b : Bool) → (b ≡ true → ⊥) → b ≡ false
failed true h = absurd (h refl)
failed false h = refl

pub not-both : {b : Bool} → b ≡ true → b ≡ false → ⊥
not-both y n = true≢false (sym y ∙ n)

pub not-true : (b : Bool) → (not b ≡ true) ↔ (b ≡ true → ⊥)
not-true true = ((λ h e. false≢true h), (λ h. absurd (h refl)))
not-true false = ((λ h e. false≢true e), (λ h. refl))

pub and-true : (a b : Bool) → (a && b ≡ true) ↔ ((a ≡ true) × (b ≡ true))
and-true true b = ((λ h. (refl, h)), (λ h. h.1))
and-true false b = ((λ h. absurd (false≢true h)), (λ h. h.0))

pub or-true : (a b : Bool) → (a || b ≡ true) ↔ ((a ≡ true) ⊎ (b ≡ true))
or-true true b = ((λ h. inl refl), (λ h. refl))
or-true false b = ((λ h. inr h), (elim [ inl h ↦ absurd (false≢true h) | inr h ↦ h ]))

pub neither : (a b : Bool) → a || b ≡ false → (a ≡ false) × (b ≡ false)
neither true b h = absurd (true≢false h)
neither false b h = (refl, h)

-- ---- the greatest number that passes

-- found from the last down
pub last-here : (test : ℕ → Bool) (m j : ℕ) → j ≡ m + 1 → test m ≡ true → last_passing test j ≡ m
unfolding last_passing
last-here test m j e h = rw (e, add-one m, h)

pub last-past : (test : ℕ → Bool) (m j : ℕ) → j ≡ m + 1 → test m ≡ false → last_passing test j ≡ last_passing test m
unfolding last_passing
last-past test m j e h = rw (e, add-one m, h)

pub record Last (test : ℕ → Bool) (m x : ℕ) : Type 0 where
  pub below : 0 < m → x < m
  pub is : (test x ≡ true) ⊎ ((x ≡ 0) × ((y : ℕ) → y < m → test y ≡ true → ⊥))
  pub none_above : (y : ℕ) → x < y → y < m → test y ≡ true → ⊥

pub last_is : (test : ℕ → Bool) (m : ℕ) → Last test m (last_passing test m)
unfolding last_passing
last_is test zero = record {
  below = λ h. h;
  is = inr (refl, λ y l h. not-suc-le-zero l);
  none_above = λ y a b h. not-suc-le-zero b;
}
last_is test (suc m) = go (test m) refl (last_is test m)
  where
    under : (y : ℕ) → y < suc m → test m ≡ false → test y ≡ true → y < m
    under y l f h = at (dec_lt y m)
      where
        at : Dec (y < m) → y < m
        at (yes k) = k
        at (no k) = let e : y ≡ m = le_antisymm (omega arith) (omega arith) in absurd (not-both (subst (λ (z : ℕ). test z ≡ true) e h) f)

    go : (b : Bool) → test m ≡ b → Last test m (last_passing test m) → Last test (suc m) (cond b m (last_passing test m))
    go true e ih = record {
      below = λ h. le_refl _;
      is = inl e;
      none_above = λ y a b h. let no_such : ⊥ = omega arith in no_such;
    }
    go false e ih = record {
      below = λ h. low ih.is (dec_lt 0 m);
      is = still ih.is;
      none_above = λ y a b h. ih.none_above y a (under y b e h) h;
    }
      where
        low : (test (last_passing test m) ≡ true) ⊎ ((last_passing test m ≡ 0) × ((y : ℕ) → y < m → test y ≡ true → ⊥)) → Dec (0 < m) → last_passing test m < suc m
        low x (yes k) = omega (arith, ih.below k)
        low (inl x) (no k) = let z : m ≡ 0 = omega arith in subst (λ (y : ℕ). last_passing test y < suc y) (sym z) (le_refl 1)
        low (inr x) (no k) = omega (arith, x.0)

        still : (test (last_passing test m) ≡ true) ⊎ ((last_passing test m ≡ 0) × ((y : ℕ) → y < m → test y ≡ true → ⊥))
            → (test (last_passing test m) ≡ true) ⊎ ((last_passing test m ≡ 0) × ((y : ℕ) → y < suc m → test y ≡ true → ⊥))
        still (inl x) = inl x
        still (inr x) = inr (x.0, λ y l h. x.1 y (under y l e h) h)

pub all_pass-each : (test : ℕ → Bool) (m : ℕ) → all_pass test m ≡ true → (j : ℕ) → j < m → test j ≡ true
unfolding all_pass
all_pass-each test zero h j l = absurd (not-suc-le-zero l)
all_pass-each test (suc m) h j l = at ((and-true (all_pass test m) (test m)).0 h) (dec_lt j m) (λ k. all_pass-each test m ((and-true (all_pass test m) (test m)).0 h).0 j k)
  where
    at : (all_pass test m ≡ true) × (test m ≡ true) → Dec (j < m) → (j < m → test j ≡ true) → test j ≡ true
    at p (yes k) ih = ih k
    at p (no k) ih = let e : m ≡ j = le_antisymm (omega arith) (omega arith) in subst (λ (z : ℕ). test z ≡ true) e p.1

-- where not all pass, one fails
pub one-fails : (test : ℕ → Bool) (m : ℕ) → all_pass test m ≡ false → (k : ℕ) × (k < m) × (test k ≡ false)
unfolding all_pass
one-fails test zero h = absurd (true≢false h)
one-fails test (suc m) h = by (all_pass test m) (test m) refl refl h (one-fails test m)
  where
    by : (a b : Bool) → all_pass test m ≡ a → test m ≡ b → a && b ≡ false → (all_pass test m ≡ false → (k : ℕ) × (k < m) × (test k ≡ false))
        → (k : ℕ) × (k < suc m) × (test k ≡ false)
    by true b p q h ih = (m, omega arith, q ∙ h)
    by false b p q h ih = let e = ih p in (e.0, omega (arith, e.1), e.2)

pub each-all_pass : (test : ℕ → Bool) (m : ℕ) → ((j : ℕ) → j < m → test j ≡ true) → all_pass test m ≡ true
unfolding all_pass
each-all_pass test zero h = refl
each-all_pass test (suc m) h = (and-true (all_pass test m) (test m)).1 (each-all_pass test m (λ j l. h j (omega arith)), h m (le_refl _))
