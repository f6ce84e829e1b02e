-- Limits worked from the last position back: a row from the row after it. Assumes nothing.
use Prim.Native.Nat.{ℕ, suc, ◌+◌, ◌-◌, ◌≤◌, ◌<◌}
use mathlib.Core.Path.{◌≡◌, refl, subst}
use mathlib.Core.Logic.{◌↔◌}
use native.Mathlib.Nat.{le_refl, le_antisymm}
use native.Mathlib.Decide.{dec_le}
use native.Mathlib.Omega.{arith}
use lib.IntN.{ℤ, pos, ◌-ℤ◌}
use Rattle.rules.specs.Words.{sum, span, minZ}
use Rattle.rules.specs.Limits.{Tables, safe, mixed, margin, limit}
use Rattle.rules.proofs.Sums.{sum_longer}
use Rattle.rules.proofs.Limits.Signed.{AtMost, at-most-min, at-most-less, settled, least_all, all_least}
use Rattle.rules.proofs.Limits.Mixed.{Sound, AtMostLimit, mixed-bounds, bounds-mixed, mixed-passes, mixed-safe}

-- limit (i, q) is the least of deadline (i) - worst (i, q), limit (i + 1, 0) - worst (i, q) and limit (i + 1, q) - average (i, q)
pub record Row (S : Tables) (t i q : ℕ) : Type 0 where
  pub own : t + S.worst i q ≤ S.deadline i
  pub worst : AtMostLimit S (t + S.worst i q) (suc i) 0
  pub average : AtMostLimit S (t + S.average i q) (suc i) q

module _ (S : Tables) (sound : Sound S) (i q : ℕ) (l : i < S.n) (m : q < S.levels) (t : ℕ) where
  pub limit_row : AtMostLimit S t i q → Row S t i q
  unfolding sum
  limit_row f = record {
    own = omega (arith, f i (le_refl i) l, mixed-bounds S sound i i q (mixed S i i q) (le_refl i) (le_refl _) i (le_refl i) (le_refl i));
    worst = after;
    average = λ k a b. omega (
      arith,
      f k (omega arith) b,
      bounds-mixed S sound (suc i) k q (mixed S i k q - S.average i q) a b m
          (λ j c e. omega (
            arith,
            mixed-bounds S sound i k q (mixed S i k q) (omega arith) (le_refl _) j (omega arith) e,
            sum_longer (λ p. S.average p q) (suc i) j c,
          )),
      mixed-bounds S sound i k q (mixed S i k q) (omega arith) (le_refl _) (suc i) (omega arith) a,
    );
  }
    where
      after : AtMostLimit S (t + S.worst i q) (suc i) 0
      after k a b = mixed-passes S sound (t + S.worst i q) (suc i) (omega arith)
          (λ x c e. omega (arith, mixed-safe S sound t i q l m f x (omega arith) e, sum_longer (λ p. S.worst p 0) (suc (suc i)) (suc x) (omega arith))) k a b

  pub row-limit : Row S t i q → AtMostLimit S t i q
  unfolding sum
  row-limit r k a b = go (dec_le k i)
    where
      last : (j : ℕ) → i ≤ j → j ≤ i → span (λ p. S.average p q) i j + safe S j i q ≤ S.worst i q
      last j c e = subst (λ (y : ℕ). span (λ p. S.average p q) i y + safe S y i q ≤ S.worst i q) (le_antisymm c e) (omega arith)

      from-here : i < k → t + safe S i k q ≤ S.deadline k
      from-here c = omega (
        arith,
        mixed-safe S sound (t + S.worst i q) (suc i) 0 (omega arith) sound.some_level r.worst k c b,
        sum_longer (λ p. S.worst p 0) (suc (suc i)) (suc k) (omega arith),
      )

      from-later : (j : ℕ) → i < j → j ≤ k → t + (span (λ p. S.average p q) i j + safe S j k q) ≤ S.deadline k
      from-later j c e = omega (
        arith,
        r.average k (omega arith) b,
        mixed-bounds S sound (suc i) k q (mixed S (suc i) k q) (omega arith) (le_refl _) j c e,
        sum_longer (λ p. S.average p q) (suc i) j c,
      )

      each : i < k → (j : ℕ) → i ≤ j → j ≤ k → Dec (j ≤ i) → span (λ p. S.average p q) i j + safe S j k q ≤ S.deadline k - t
      each u j c e (yes h) = subst (λ (y : ℕ). span (λ p. S.average p q) i y + safe S y k q ≤ S.deadline k - t) (le_antisymm c h) (omega (arith, from-here u))
      each u j c e (no h) = omega (arith, from-later j (omega arith) e)

      go : Dec (k ≤ i) → t + mixed S i k q ≤ S.deadline k
      go (yes c) = subst (λ (y : ℕ). t + mixed S i y q ≤ S.deadline y) (le_antisymm a c)
          (omega (arith, r.own, bounds-mixed S sound i i q (S.worst i q) (le_refl i) l m last))
      go (no c) = omega (arith, from-here (omega arith), bounds-mixed S sound i k q (S.deadline k - t) a b m (λ j u v. each (omega arith) j u v (dec_le j i)))

  pub limit-step : AtMostLimit S t i q ↔ Row S t i q
  limit-step = (limit_row, row-limit)

-- ---- as whole numbers with a sign

-- the tables with every deadline b later
abbrev pub later : Tables → ℕ → Tables
later S b = record { n = S.n; levels = S.levels; deadline = λ k. S.deadline k + b; average = S.average; worst = S.worst }

pub mixed-later : (S : Tables) (b i k q : ℕ) → mixed (later S b) i k q ≡ mixed S i k q
unfolding mixed margin
mixed-later S b i k q = refl

module _ (S : Tables) (i q : ℕ) (l : i < S.n) where
  pub limit-at-most : (t b : ℕ) → AtMost t b (limit S i q) ↔ AtMostLimit (later S b) t i q
  unfolding limit
  limit-at-most t b = (
    (λ h k a c. omega (arith, mixed-later S b i k q, (at-most-less t b (pos (S.deadline k)) (mixed S i k q)).0 (least_all f t b i (S.n - 1 - i) h k a (omega arith)))),
    (λ h. all_least f t b i (S.n - 1 - i) (λ k a c. (at-most-less t b (pos (S.deadline k)) (mixed S i k q)).1 (omega (arith, mixed-later S b i k q, h k a (omega arith))))),
  )
    where
      f : ℕ → ℤ
      f k = pos (S.deadline k) -ℤ pos (mixed S i k q)

pub sound-later : (S : Tables) → Sound S → (b : ℕ) → Sound (later S b)
sound-later S sound b = record {
  some_level = sound.some_level;
  ordered = sound.ordered;
  average_rises = sound.average_rises;
  worst_rises = sound.worst_rises;
}

module _ (S : Tables) (sound : Sound S) (i q : ℕ) (m : q < S.levels) where
  -- t - b is at most limit (i, q) exactly if the row says so with every deadline b later
  limit_row-at : i < S.n → (t b : ℕ) → AtMost t b (limit S i q) ↔ Row (later S b) t i q
  limit_row-at l t b = (
    (λ h. (limit-step (later S b) (sound-later S sound b) i q l m t).0 ((limit-at-most S i q l t b).0 h)),
    (λ r. (limit-at-most S i q l t b).1 ((limit-step (later S b) (sound-later S sound b) i q l m t).1 r)),
  )

  -- The last row: limit (n - 1, q) is deadline (n - 1) - worst (n - 1, q).
  pub limit-last-row : suc i ≡ S.n → limit S i q ≡ pos (S.deadline i) -ℤ pos (S.worst i q)
  limit-last-row e = settled _ _ (λ t b. (there t b, back t b))
    where
      there : (t b : ℕ) → AtMost t b (limit S i q) → AtMost t b (pos (S.deadline i) -ℤ pos (S.worst i q))
      there t b h = (at-most-less t b (pos (S.deadline i)) (S.worst i q)).1 ((limit_row-at (omega arith) t b).0 h).own

      back : (t b : ℕ) → AtMost t b (pos (S.deadline i) -ℤ pos (S.worst i q)) → AtMost t b (limit S i q)
      back t b h = (limit_row-at (omega arith) t b).1 (record {
        own = (at-most-less t b (pos (S.deadline i)) (S.worst i q)).0 h;
        worst = λ k a c. let no_such : ⊥ = omega arith in absurd no_such;
        average = λ k a c. let no_such : ⊥ = omega arith in absurd no_such;
      })

  -- A row from the row after it: limit (i, q) is the lesser of min (deadline (i), limit (i + 1, 0)) - worst (i, q) and
  -- limit (i + 1, q) - average (i, q).
  pub limit_row-after : suc i < S.n
      → limit S i q ≡ minZ (minZ (pos (S.deadline i)) (limit S (suc i) 0) -ℤ pos (S.worst i q)) (limit S (suc i) q -ℤ pos (S.average i q))
  limit_row-after l = settled _ _ (λ t b. (there t b, back t b))
    where
      w : ℤ
      w = minZ (pos (S.deadline i)) (limit S (suc i) 0)

      here : ℤ
      here = minZ (w -ℤ pos (S.worst i q)) (limit S (suc i) q -ℤ pos (S.average i q))

      there : (t b : ℕ) → AtMost t b (limit S i q) → AtMost t b here
      there t b h =
          let r = (limit_row-at (omega arith) t b).0 h in
          (at-most-min t b (w -ℤ pos (S.worst i q)) (limit S (suc i) q -ℤ pos (S.average i q))).1 (
            (at-most-less t b w (S.worst i q)).1 ((at-most-min (t + S.worst i q) b (pos (S.deadline i)) (limit S (suc i) 0)).1
                (r.own, (limit-at-most S (suc i) 0 l (t + S.worst i q) b).1 r.worst)),
            (at-most-less t b (limit S (suc i) q) (S.average i q)).1 ((limit-at-most S (suc i) q l (t + S.average i q) b).1 r.average),
          )

      back : (t b : ℕ) → AtMost t b here → AtMost t b (limit S i q)
      back t b h =
          let p = (at-most-min t b (w -ℤ pos (S.worst i q)) (limit S (suc i) q -ℤ pos (S.average i q))).0 h in
          let u = (at-most-min (t + S.worst i q) b (pos (S.deadline i)) (limit S (suc i) 0)).0 ((at-most-less t b w (S.worst i q)).0 p.0) in
          (limit_row-at (omega arith) t b).1 (record {
            own = u.0;
            worst = (limit-at-most S (suc i) 0 l (t + S.worst i q) b).0 u.1;
            average = (limit-at-most S (suc i) q l (t + S.average i q) b).0 ((at-most-less t b (limit S (suc i) q) (S.average i q)).0 p.1);
          })
