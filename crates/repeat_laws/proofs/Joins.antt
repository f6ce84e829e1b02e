-- Summaries of stretches: joining is associative with the empty one neutral, the summary of one stretch after another is their join, and equal
-- bodies have a closed form. Assumes nothing.
use Prim.Native.Nat.{ℕ, zero, suc, ◌+◌, ◌-◌, ◌*◌, ◌≤◌, ◌<◌, max}
use mathlib.Core.Path.{◌≡◌, refl, ap, ap₂, sym, ◌∙◌}
use native.Mathlib.Nat.{le_refl, le_antisymm, add-zero, mul-le-mul_left}
use native.Mathlib.Decide.{dec_le, le_ind}
use native.Mathlib.Omega.{arith}
use Rattle.rules.specs.Words.{sum, span, greatest_of}
use Rattle.rules.specs.Limits.{Tables, average}
use Rattle.rules.proofs.Sums.{sum_longer}
use Rattle.rules.specs.Repeat.{Sums, stretch, Summary, empty, of, summary, joined, followed, join, bodies}
use Rattle.repeat_laws.proofs.Mixed.{each-greatest, greatest-under, turned}

pub same : {x y : Sums} → x.average ≡ y.average → x.lowest ≡ y.lowest → x.mix ≡ y.mix → x.worst ≡ y.worst → x ≡ y
same p q r s = λ i. record { average = p i; lowest = q i; mix = r i; worst = s i }

-- ---- the join

pub joined_assoc : (x y z : Sums) → joined (joined x y) z ≡ joined x (joined y z)
joined_assoc x y z = same (omega arith) (omega arith) (omega arith) (omega arith)

pub join_assoc : (x y z : Summary) → join (join x y) z ≡ join x (join y z)
join_assoc empty y z = refl
join_assoc (of x) empty z = refl
join_assoc (of x) (of y) empty = refl
join_assoc (of x) (of y) (of z) = ap of (joined_assoc x y z)

pub empty-join : (x : Summary) → join empty x ≡ x
empty-join x = refl

pub join-empty : (x : Summary) → join x empty ≡ x
join-empty empty = refl
join-empty (of x) = refl

-- ---- one stretch after another

module _ (S : Tables) (q : ℕ) where
  -- positions i to k, then k + 1 to l
  pub stretch-joined : (i k l : ℕ) → i ≤ k → k < l → stretch S q i l ≡ joined (stretch S q i k) (stretch S q (suc k) l)
  unfolding stretch
  stretch-joined i k l a b = same
      (omega (arith, sum_longer f i (suc k) (omega arith), sum_longer f (suc k) (suc l) (omega arith)))
      (omega (arith, sum_longer w i (suc k) (omega arith), sum_longer w (suc k) (suc l) (omega arith)))
      (le_antisymm
      (greatest-under (turned S q i l) i (l - i) _ (λ j u v. go j u (omega arith) (dec_le j k)))
      (omega (arith, first, second)))
      (omega (arith, sum_longer v i (suc k) (omega arith), sum_longer v (suc k) (suc l) (omega arith)))
    where
      f : ℕ → ℕ
      f p = S.average p q

      w : ℕ → ℕ
      w p = S.worst p 0

      v : ℕ → ℕ
      v p = S.worst p q

      M : ℕ → ℕ → ℕ
      M x y = greatest_of (turned S q x y) x (y - x)

      top : (x y j : ℕ) → x ≤ j → j ≤ y → turned S q x y j ≤ M x y
      top x y j u v = each-greatest (turned S q x y) x (y - x) j u (omega arith)

      go : (j : ℕ) → i ≤ j → j ≤ l → Dec (j ≤ k) → turned S q i l j ≤ max (M i k + span w (suc k) (suc l)) (span f i (suc k) + M (suc k) l)
      go j u v (yes h) = omega (
        arith,
        top i k j u h,
        sum_longer w (suc j) (suc k) (omega arith),
        sum_longer w (suc k) (suc l) (omega arith),
      )
      go j u v (no h) = omega (
        arith,
        top (suc k) l j (omega arith) v,
        sum_longer f i (suc k) (omega arith),
        sum_longer f (suc k) j (omega arith),
      )

      first : M i k + span w (suc k) (suc l) ≤ M i l
      first = omega (
        arith,
        greatest-under (turned S q i k) i (k - i) (M i l - span w (suc k) (suc l)) (λ j u v. omega (
          arith,
          top i l j u (omega arith),
          sum_longer w (suc j) (suc k) (omega arith),
          sum_longer w (suc k) (suc l) (omega arith),
        )),
        top i l i (le_refl i) (omega arith),
        sum_longer w (suc i) (suc k) (omega arith),
        sum_longer w (suc k) (suc l) (omega arith),
      )

      second : span f i (suc k) + M (suc k) l ≤ M i l
      second = omega (
        arith,
        greatest-under (turned S q (suc k) l) (suc k) (l - suc k) (M i l - span f i (suc k)) (λ j u v. omega (
          arith,
          top i l j (omega arith) (omega arith),
          sum_longer f i (suc k) (omega arith),
          sum_longer f (suc k) j u,
        )),
        top i l (suc k) (omega arith) b,
        sum_longer f i (suc k) (omega arith),
      )

  -- the summary of m positions and then l
  pub summary-joined : (i m l : ℕ) → summary S q i (m + l) ≡ join (summary S q i m) (summary S q (i + m) l)
  summary-joined i zero l = let e : 0 + l ≡ l = omega arith in let f : i + 0 ≡ i = omega arith in rw (e, f)
  summary-joined i (suc m) zero = rw (add-zero (suc m))
  summary-joined i (suc m) (suc l) =
      let e : suc m + suc l ≡ suc (suc (m + l)) = omega arith in
      let f : i + suc m ≡ suc (i + m) = omega arith in
      let g : i + suc (m + l) ≡ suc (i + m) + l = omega arith in
      rw (e, f, g) (ap of (stretch-joined i (i + m) (suc (i + m) + l) (omega arith) (omega arith)))

  -- one position
  pub stretch-one : (k : ℕ) → stretch S q k k ≡ record { average = S.average k q; lowest = S.worst k 0; mix = S.worst k q; worst = S.worst k q }
  unfolding stretch sum greatest_of
  stretch-one k = same (omega arith) (omega arith) (let e : k - k ≡ 0 = omega arith in rw e (omega arith)) (omega arith)

-- ---- equal stretches

-- the positions s + i to s + k of T are as i to k of S
pub stretch_moved : (S T : Tables) (q s i k : ℕ) → i ≤ k
    → ((p : ℕ) → p ≤ k → T.average (s + p) q ≡ S.average p q)
    → ((p r : ℕ) → p ≤ k → T.worst (s + p) r ≡ S.worst p r)
    → stretch T q (s + i) (s + k) ≡ stretch S q i k
stretch_moved S T q s i k l = le_ind (λ (m : ℕ). ((p : ℕ) → p ≤ m → T.average (s + p) q ≡ S.average p q)
    → ((p r : ℕ) → p ≤ m → T.worst (s + p) r ≡ S.worst p r)
    → stretch T q (s + i) (s + m) ≡ stretch S q i m)
    (λ a w. one i (a i (le_refl i)) (λ r. w i r (le_refl i)))
    (λ m h ih a w.
    let e : s + suc m ≡ suc (s + m) = omega arith in
    ap (stretch T q (s + i)) e
    ∙ stretch-joined T q (s + i) (s + m) (suc (s + m)) (omega arith) (le_refl _)
    ∙ ap₂ joined (ih (λ p u. a p (omega arith)) (λ p r u. w p r (omega arith)))
    (ap (λ (y : ℕ). stretch T q y y) (sym e) ∙ one (suc m) (a (suc m) (le_refl _)) (λ r. w (suc m) r (le_refl _)))
    ∙ sym (stretch-joined S q i m (suc m) h (le_refl _))) k l
  where
    one : (p : ℕ) → T.average (s + p) q ≡ S.average p q → ((r : ℕ) → T.worst (s + p) r ≡ S.worst p r) → stretch T q (s + p) (s + p) ≡ stretch S q p p
    one p a w = stretch-one T q (s + p) ∙ same a (w 0) (w q) (w q) ∙ sym (stretch-one S q p)

-- ---- equal bodies

-- m bodies and one more
pub bodies-more : (x : Sums) (m : ℕ) → join (bodies x m) (of x) ≡ bodies x (suc m)
bodies-more x zero = ap of (same (omega arith) (omega arith) (omega arith) (omega arith))
bodies-more x (suc m) = ap of (same (omega arith) (omega arith) (go (dec_le x.average x.lowest)) (omega arith))
  where
    A : ℕ
    A = x.average

    W : ℕ
    W = x.lowest

    go : Dec (A ≤ W) → max (x.mix + m * max A W + W) (suc m * A + x.mix) ≡ x.mix + suc m * max A W
    go (yes l) = let e : max A W ≡ W = omega arith in rw e (omega (arith, mul-le-mul_left (suc m) l))
    go (no l) = let e : max A W ≡ A = omega arith in rw e (omega arith)

-- m equal summaries joined one after another
unfoldable pub times : Summary → ℕ → Summary
times x zero = empty
times x (suc m) = join (times x m) x

pub bodies-times : (x : Sums) (m : ℕ) → times (of x) m ≡ bodies x m
unfolding times
bodies-times x zero = refl
bodies-times x (suc m) = ap (λ (y : Summary). join y (of x)) (bodies-times x m) ∙ bodies-more x m

-- of the rest of a body and the bodies after it
pub followed-average : (x y : Sums) (m : ℕ) → (followed x (bodies y m)).average ≡ x.average + m * y.average
followed-average x y zero = omega arith
followed-average x y (suc m) = refl

pub followed-lowest : (x y : Sums) (m : ℕ) → (followed x (bodies y m)).lowest ≡ x.lowest + m * y.lowest
followed-lowest x y zero = omega arith
followed-lowest x y (suc m) = refl

pub followed-worst : (x y : Sums) (m : ℕ) → (followed x (bodies y m)).worst ≡ x.worst + m * y.worst
followed-worst x y zero = omega arith
followed-worst x y (suc m) = refl
