-- Coast bounds from those of the position after it. Assumes nothing.
use Prim.Native.Nat.{ℕ, zero, suc, ◌+◌, ◌-◌, ◌*◌, ◌≤◌, ◌<◌}
use mathlib.Core.Path.{◌≡◌, refl, sym, ap, ◌∙◌}
use mathlib.Core.Logic.{◌↔◌}
use mathlib.Core.Bool.{true, false, false≢true}
use mathlib.Core.List.{List, [], ◌∷◌}
use native.Mathlib.Nat.{le_refl}
use native.Mathlib.Decide.{dec_lt}
use native.Mathlib.Omega.{arith}
use borrow.Author.Tests.{le-ltb, lt-ltb}
use lib.IntN.{ℤ, pos, negsuc, ◌-ℤ◌}
use lib.Signed.{mag, lt_z}
use Rattle.rules.specs.Numbers.{last_clock, clock_end, longest_time}
use Rattle.rules.specs.Words.{sum, span, minZ, least_of, tab}
use Rattle.rules.specs.Limits.{Tables, absent, coast_bound}
use Rattle.rules.proofs.Sums.{sum_longer}
use Rattle.rules.proofs.Limits.Signed.{AtMost, at-most-min, at-most-less, at-most_sooner, settled, least_all, all_least}
use Rattle.fields.specs.Fields.{splice}
use Rattle.fields.proofs.Cats.{cat-front}
use Rattle.fields.proofs.Tabs.{tab_ext}
use Rattle.plan_entry.specs.Bounds.{bound_by, bounds_by, Spares}
use Rattle.plan_entry.proofs.Signed.{mag_lesser, mag_less}

-- what is above the least number of 32 bits is not absent
above-absent : (z : ℤ) → mag z < 2147483647 → lt_z absent z ≡ true
above-absent (pos n) h = refl
above-absent (negsuc n) h = lt-ltb n 2147483647 (omega arith)

-- the sixteen from equal numbers
bounds-same : {y z : ℤ} {v w : ℕ} {f g : ℕ → ℤ} → y ≡ z → v ≡ w → ((k : ℕ) → k < 15 → f k ≡ g k) → bounds_by y v f ≡ bounds_by z w g
bounds-same {z = z} {w = w} d e same = rw (d, e) (ap (λ (x : List ℤ). z ∷ x) (tab_ext _ _ 15 (λ k h. ap (bound_by z w) (same k h))))

-- and where they are stored
pub bounds-stored : (out : List ℤ) (at : ℕ) {out' : List ℤ} {y z : ℤ} {v w : ℕ} {f g : ℕ → ℤ} → y ≡ z → v ≡ w → ((k : ℕ) → k < 15 → f k ≡ g k)
    → out' ≡ splice out at (bounds_by y v f) → out' ≡ splice out at (bounds_by z w g)
bounds-stored out at d e same is = is ∙ ap (splice out at) (bounds-same d e same)

module _ (S : Tables) (limit : ℕ → ℕ → ℤ) where
  -- the worst times at q of positions i to j - 1
  abbrev spent : ℕ → ℕ → ℕ → ℕ
  spent i q j = span (λ p. S.worst p q) i j

  abbrev pub term : ℕ → ℕ → ℕ → ℤ
  term i q j = limit j q -ℤ pos (spent i q j)

  pub bound-within : (i q r : ℕ) → i + r < S.n → coast_bound S limit i q (suc r) ≡ least_of (term i q) i r
  unfolding coast_bound
  bound-within i q r h =
      let e : suc r - 1 ≡ r = omega arith in
      rw (le-ltb (S.n - i) (suc r) (omega arith), e)

  pub bound-past : (i q r : ℕ) → S.n ≤ i + r → coast_bound S limit i q (suc r) ≡ absent
  unfolding coast_bound
  bound-past i q r h = rw (lt-ltb (S.n - i) (suc r) (omega arith))

  -- ---- the bound of one action, and of one more from the position after it

  at_first : (i q t b : ℕ) → AtMost t b (term i q i) ↔ AtMost t b (limit i q)
  at_first i q t b = (
    (λ a. at-most_sooner t (t + spent i q i) b (limit i q) (omega arith) ((at-most-less t b (limit i q) (spent i q i)).0 a)),
    (λ a. (at-most-less t b (limit i q) (spent i q i)).1 (at-most_sooner (t + spent i q i) t b (limit i q) (omega arith) a)),
  )

  pub bound-one : (i q : ℕ) → i < S.n → coast_bound S limit i q 1 ≡ limit i q
  unfolding least_of
  bound-one i q h = bound-within i q 0 (omega arith) ∙ settled _ _ (at_first i q)

  -- a term after i, counted from i and from the position after it
  at-later : (i q t b j : ℕ) → i < j → AtMost t b (term i q j) ↔ AtMost (t + S.worst i q) b (term (suc i) q j)
  unfolding sum
  at-later i q t b j l =
      let w = S.worst i q in
      let s = t + spent i q j in
      let s' = t + w + spent (suc i) q j in
      let e : s ≡ s' = omega (arith, sum_longer (λ p. S.worst p q) (suc i) j l) in (
        (λ a. (at-most-less (t + w) b (limit j q) (spent (suc i) q j)).1
            (at-most_sooner s' s b (limit j q) (omega arith) ((at-most-less t b (limit j q) (spent i q j)).0 a))),
        (λ a. (at-most-less t b (limit j q) (spent i q j)).1
            (at-most_sooner s s' b (limit j q) (omega arith) ((at-most-less (t + w) b (limit j q) (spent (suc i) q j)).0 a))),
      )

  pub bound-more : (i q r : ℕ) → i + suc r < S.n
      → coast_bound S limit i q (suc (suc r)) ≡ minZ (limit i q) (coast_bound S limit (suc i) q (suc r) -ℤ pos (S.worst i q))
  bound-more i q r h =
      rw (bound-within i q (suc r) h, bound-within (suc i) q r (omega arith)) (settled _ _ (λ t b. (there t b, back t b)))
    where
      rest : ℤ
      rest = least_of (term (suc i) q) (suc i) r

      w : ℕ
      w = S.worst i q

      there : (t b : ℕ) → AtMost t b (least_of (term i q) i (suc r)) → AtMost t b (minZ (limit i q) (rest -ℤ pos w))
      there t b a =
          let each = least_all (term i q) t b i (suc r) a in
          (at-most-min t b (limit i q) (rest -ℤ pos w)).1 (
            (at_first i q t b).0 (each i (le_refl i) (omega arith)),
            (at-most-less t b rest w).1
                (all_least (term (suc i) q) (t + w) b (suc i) r (λ j u v. (at-later i q t b j u).0 (each j (omega arith) (omega arith)))),
          )

      back : (t b : ℕ) → AtMost t b (minZ (limit i q) (rest -ℤ pos w)) → AtMost t b (least_of (term i q) i (suc r))
      back t b a = all_least (term i q) t b i (suc r) (λ j u v. go j u v (dec_lt i j))
        where
          both : AtMost t b (limit i q) × AtMost t b (rest -ℤ pos w)
          both = (at-most-min t b (limit i q) (rest -ℤ pos w)).0 a

          go : (j : ℕ) → i ≤ j → j ≤ i + suc r → Dec (i < j) → AtMost t b (term i q j)
          go j u v (yes l) =
              (at-later i q t b j l).1 (least_all (term (suc i) q) (t + w) b (suc i) r ((at-most-less t b rest w).0 both.1) j l (omega arith))
          go j u v (no l) =
              let e : j ≡ i = omega arith in
              rw e ((at_first i q t b).1 both.0)

  -- ---- numbers so small that every difference fits in 32 bits with a sign

  module _ (q : ℕ) (near : (i : ℕ) → i < S.n → mag (limit i q) < clock_end) (short : (i : ℕ) → i < S.n → S.worst i q ≤ longest_time) where
    bound-small : (i r : ℕ) → i + r < S.n → mag (coast_bound S limit i q (suc r)) ≤ last_clock + r * longest_time
    bound-small i zero h = rw (bound-one i q (omega arith)) (omega (arith, near i (omega arith)))
    bound-small i (suc r) h = rw (bound-more i q r h) (mag_lesser (limit i q) (coast_bound S limit (suc i) q (suc r) -ℤ pos (S.worst i q)) (last_clock + suc r * longest_time)
        (omega (arith, near i (omega arith)))
        (omega (arith, mag_less (coast_bound S limit (suc i) q (suc r)) (S.worst i q), bound-small (suc i) r (omega arith), short i (omega arith))))

    -- the sixteen of position i from those of the position after it
    module _ (i : ℕ) (l : i < S.n) (after : ℕ → ℤ) (are : (k : ℕ) → k < 16 → after k ≡ coast_bound S limit (suc i) q (suc k)) where
      pub after-spares : (k : ℕ) → k < 15 → Spares (S.worst i q) (after k)
      after-spares k h = rw (are k (omega arith)) (go (dec_lt (suc i + k) S.n))
        where
          go : Dec (suc i + k < S.n) → Spares (S.worst i q) (coast_bound S limit (suc i) q (suc k))
          go (yes m) t = omega (arith, bound-small (suc i) k m, short i l)
          go (no m) t =
              let no_such : false ≡ true = rw (bound-past (suc i) q k (omega arith)) at t in
              absurd (false≢true no_such)

      one_more : (k : ℕ) → k < 15 → bound_by (limit i q) (S.worst i q) (after k) ≡ coast_bound S limit i q (suc (suc k))
      one_more k h = rw (are k (omega arith)) (go (dec_lt (suc i + k) S.n))
        where
          go : Dec (suc i + k < S.n)
              → bound_by (limit i q) (S.worst i q) (coast_bound S limit (suc i) q (suc k)) ≡ coast_bound S limit i q (suc (suc k))
          go (yes m) =
              rw (above-absent (coast_bound S limit (suc i) q (suc k)) (omega (arith, bound-small (suc i) k m))) (sym (bound-more i q k (omega arith)))
          go (no m) = rw (bound-past (suc i) q k (omega arith), bound-past i q (suc k) (omega arith)) refl

      pub bounds_are : bounds_by (limit i q) (S.worst i q) after ≡ tab (λ k. coast_bound S limit i q (suc k)) 16
      bounds_are =
          ap (λ (x : List ℤ). limit i q ∷ x) (tab_ext _ _ 15 one_more)
          ∙ ap (λ (z : ℤ). z ∷ tab (λ k. coast_bound S limit i q (suc (suc k))) 15) (sym (bound-one i q l))
          ∙ sym (cat-front (λ k. coast_bound S limit i q (suc k) ∷ []) 15)
