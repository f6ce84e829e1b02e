-- The searches of a decision, turn by turn: the last entry that passes, found from the last down, and the greatest coast that qualifies, found
-- from below. Assumes nothing.
use Prim.Native.Nat.{ℕ, zero, suc, ◌+◌, ◌-◌, ◌*◌, ◌≤◌, ◌<◌, min}
use mathlib.Core.Path.{◌≡◌, refl, sym, ap, ◌∙◌}
use mathlib.Core.Bool.{Bool, true, false, not, cond, ◌&&◌, ◌||◌, true≢false, and-true as and_one}
use mathlib.Core.Logic.{inr, ⊎_elim}
use native.Mathlib.Nat.{eq-or-lt_of_le, add-zero}
use native.Mathlib.Numerals.{add-one}
use native.Mathlib.Omega.{arith}
use lib.Dec.{leb}
use lib.IntN.{pos}
use lib.ListN.{get_or}
use lib.Signed.{le_z}
use borrow.Author.Tests.{le-leb, lt-leb}
use Rattle.rules.specs.Words.{last_passing, all_pass}
use Rattle.rules.specs.Limits.{LentTables}
use Rattle.rules.specs.Run.{qualifies, left_granted, lent}
use Rattle.rules.proofs.Tests.{failed, and-true, or-true, not-true, last-past, all_pass-each}

-- ---- the greatest number that passes

module _ (test : ℕ → Bool) where
  -- if none from x on passes, it is below x
  pub last-below : (x m : ℕ) → x ≤ m → ((y : ℕ) → x ≤ y → test y ≡ false) → last_passing test m ≡ last_passing test x
  last-below x zero h none = let e : x ≡ 0 = omega arith in rw e
  last-below x (suc m) h none =
      ⊎_elim
      (λ e. rw e)
      (λ l. last-past test m (suc m) (omega arith) (none m (omega arith)) ∙ last-below x m (omega arith) none)
      (eq-or-lt_of_le h)

  pub last-low : (m : ℕ) → last_passing test m ≤ m
  unfolding last_passing
  last-low zero = omega arith
  last-low (suc m) = go (test m) (last-low m)
    where
      go : (b : Bool) → last_passing test m ≤ m → cond b m (last_passing test m) ≤ suc m
      go true h = omega arith
      go false h = omega arith

  -- another test that passes the same
  last-same : (other : ℕ → Bool) → ((k : ℕ) → test k ≡ other k) → (m : ℕ) → last_passing test m ≡ last_passing other m
  unfolding last_passing
  last-same other same zero = refl
  last-same other same (suc m) = rw (same m, last-same other same m)

-- ---- the coast

module _ (n L : ℕ) (T : LentTables) (t i q : ℕ) where
  -- t is at most the limit of the level above, x positions on: there the level would rise
  abbrev pub Rises : ℕ → Bool
  Rises x = le_z (pos t) (get_or T.limits ((i + x) * L + suc q) (pos 0))

  -- t is at most the bound of a coast of x actions and one more
  abbrev pub Under : ℕ → Bool
  Under x = le_z (pos t) (get_or T.bounds ((i * L + q) * 16 + x) (pos 0))

  -- x actions would not rise
  pub held : ℕ → Bool
  held x = leb L (suc q) || all_pass (λ j. not (Rises j)) x

  -- x actions and one more qualify
  pub passes : ℕ → Bool
  passes x = qualifies (lent n L T) t i q (suc x)

  passes-is : (x : ℕ) → held (suc x) ≡ true → passes x ≡ Under x
  unfolding passes held qualifies lent
  passes-is x h = let e : suc x - 1 ≡ x = omega arith in rw e (ap (λ (b : Bool). Under x && b) h ∙ and_one (Under x))

  -- at the top level no action would rise
  pub top_granted : (left m : ℕ) → L ≤ suc q → left ≡ last_passing Under m → left ≡ last_passing passes m
  unfolding held
  top_granted left m top e =
      e ∙ last-same Under passes (λ x. sym (passes-is x (ap (λ (b : Bool). b || all_pass (λ j. not (Rises j)) (suc x)) (le-leb L (suc q) top)))) m

  -- Coasts of up to x actions are tried: `left` is one less than the greatest that qualifies, and none of the actions would rise.
  pub record Going (x left : ℕ) : Type 0 where
    pub found : left ≡ last_passing passes x
    pub holds : held x ≡ true

  held_more : (x : ℕ) → held x ≡ true → Rises x ≡ false → held (suc x) ≡ true
  unfolding held all_pass
  held_more x = go (leb L (suc q)) (all_pass (λ j. not (Rises j)) x) (Rises x)
    where
      go : (a b z : Bool) → a || b ≡ true → z ≡ false → a || (b && not z) ≡ true
      go true b z h r = refl
      go false b true h r = absurd (true≢false r)
      go false b false h r = and_one b ∙ h

  -- the action decided for is one, and leaves none
  pub going-one : le_z (pos t) (get_or T.limits (i * L + suc q) (pos 0)) ≡ false → Going 1 0
  unfolding held all_pass last_passing
  going-one low = record {
    found = none (passes 0);
    holds = held_more 0 ((or-true (leb L (suc q)) true).1 (inr refl)) (rw add-zero low);
  }
    where
      none : (b : Bool) → ◌≡◌ {A = ℕ} 0 (cond b 0 0)
      none true = refl
      none false = refl

  pub going_more : (x left left' : ℕ) → Going x left → Rises x ≡ false
      → left' ≡ cond (Under x) x left → Going (x + 1) left'
  unfolding last_passing
  going_more x left left' g r e =
      let h = held_more x g.holds r in
      rw add-one (record { found = e ∙ rw (g.found, passes-is x h); holds = h })

  -- where the level would rise, no longer coast qualifies
  too_long : (x y : ℕ) → suc q < L → Rises x ≡ true → x ≤ y → passes y ≡ true → ⊥
  unfolding passes qualifies lent
  too_long x y below rise l p =
      (not-true (Rises x)).0 (all_pass-each (λ j. not (Rises j)) (suc y) all x (omega arith)) rise
    where
      all : all_pass (λ j. not (Rises j)) (suc y) ≡ true
      all =
          ap (λ (b : Bool). b || all_pass (λ j. not (Rises j)) (suc y)) (sym (lt-leb L (suc q) below))
          ∙ ((and-true (le_z (pos t) (get_or T.bounds ((i * L + q) * 16 + (suc y - 1)) (pos 0))) (leb L (suc q) || all_pass (λ j. not (Rises j)) (suc y))).0 p).1

  pub going-stops : (x left m : ℕ) → Going x left → suc q < L → Rises x ≡ true → x ≤ m → left ≡ last_passing passes m
  going-stops x left m g below r l = g.found ∙ sym (last-below passes x m l (λ y h. failed (passes y) (too_long x y below r h)))

  pub going_done : (left : ℕ) → left ≡ last_passing passes (min 16 (n - i)) → left ≡ left_granted 16 (lent n L T) t i q
  unfolding left_granted passes lent
  going_done left e = e
