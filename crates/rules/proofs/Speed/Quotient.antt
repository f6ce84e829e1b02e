-- The rounded quotient of two whole numbers is at most 1 exactly if the first is at most the second.
use mathlib.Core.Path.{◌≡◌, refl, sym, ap, ◌∙◌, subst}
use Prim.Native.Nat.{ℕ, ◌*◌, ◌^◌, ◌≤◌, ◌<◌}
use native.Mathlib.Nat.{le_trans, lt_irrefl, not-le_of_lt, mul-one, mul_comm, mul_assoc, mul_left_comm, mul-pos, zero-lt-suc}
use native.Mathlib.Omega.{arith}
use mathlib.Core.Bool.{Bool, true, false, not, cond, true≢false}
use lib.IntN.{ℤ, pos}
use lib.Dec.{T, leb, eqb, eqb→eq, leb→le, nleb→lt, lit≤, lit<}
use lib.Ieee.{Float, nan, inf, fin, Format, binary64, up, down, round, div, le, of_int}
use lib.Ieee.Fits.{down_pos, up_pos}
use lib.Ieee.Exact.{HasValue, round_exact}
use lib.Ieee.Back.{round_whole}
use lib.Ieee.Order.{round_mono}
use lib.Ieee.Scale.{round_same}
use lib.Ieee.Positive.{positive, first_pos, positive_of_value, between, le_trans_positive, values_of_le}
use Rattle.rules.specs.Speed.{quotient, one, at_most_one}

-- ---- a float quotient is the rounded fraction of any fractions that its operands equal

second : (t : Bool) (x y : Float) → (T t → ⊥) → cond t x y ≡ y
second true x y h = absurd (h tt)
second false x y h = refl

div_finite : (f : Format) (m : ℕ) (e : ℤ) (n : ℕ) (d : ℤ) → 0 < n
    → div f (fin false m e) (fin false n d) ≡ round f false (m * up e * down d) (n * up d * down e)
unfolding div
div_finite f m e n d h = second (eqb n 0) _ _ (λ z. lt_irrefl 0 (rw (eqb→eq n 0 z) at h))

-- x = a / c and y = b / d
div-at : (f : Format) (x y : Float) (a c b d : ℕ) → 0 < c → 0 < d → 0 < b → HasValue x false a c → HasValue y false b d
    → div f x y ≡ round f false (a * d) (b * c)
div-at f nan y a c b d C D B h k = absurd h
div-at f (inf s) y a c b d C D B h k = absurd h
div-at f (fin true m e) y a c b d C D B h k = absurd (true≢false h.0)
div-at f (fin false m e) nan a c b d C D B h k = absurd k
div-at f (fin false m e) (inf t) a c b d C D B h k = absurd k
div-at f (fin false m e) (fin true n g) a c b d C D B h k = absurd (true≢false k.0)
div-at f (fin false m e) (fin false n g) a c b d C D B h k =
    let N : 0 < n = first_pos n (up g) (first_pos (n * up g) d (subst (λ (z : ℕ). 0 < z) (sym k.1) (mul-pos B (down_pos g)))) in
    div_finite f m e n g N
    ∙ round_same f false (m * up e * down g) (n * up g * down e) (a * d) (b * c) (mul-pos (mul-pos N (up_pos g)) (down_pos e)) (mul-pos B C)
    (cross (m * up e) (down e) (n * up g) (down g) h.1 k.1)
  where
    -- p / q = a / c and r / s = b / d, so p s / (r q) = a d / (b c)
    cross : (p q r s : ℕ) → p * c ≡ a * q → r * d ≡ b * s → p * s * (b * c) ≡ a * d * (r * q)
    cross p q r s u v =
        let l : p * s * (b * c) ≡ p * c * (b * s) = simp (mul_assoc, mul_comm, mul_left_comm) in
        let w : a * q * (r * d) ≡ a * d * (r * q) = simp (mul_assoc, mul_comm, mul_left_comm) in
        l ∙ ap (λ (z : ℕ). z * (b * s)) u ∙ ap (λ (z : ℕ). a * q * z) (sym v) ∙ w

-- ---- of whole numbers: the conversions are exact, so that one rounding is left

converted : (n : ℕ) → n ≤ 2 ^ 53 → HasValue (of_int binary64 (pos n)) false n 1
unfolding of_int
converted n h = round_whole binary64 false n h

pub quotient_rounds : (a b : ℕ) → a ≤ 2 ^ 53 → 0 < b → b ≤ 2 ^ 53 → quotient a b ≡ round binary64 false a b
unfolding quotient
quotient_rounds a b A B B' =
    div-at binary64 (of_int binary64 (pos a)) (of_int binary64 (pos b)) a 1 b 1 (zero-lt-suc 0) (zero-lt-suc 0) B (converted a A) (converted b B')
    ∙ ap (λ (z : ℕ). round binary64 false z (b * 1)) (mul-one a)
    ∙ ap (λ (z : ℕ). round binary64 false a z) (mul-one b)

-- ---- 1, and the next float up, 1 + 2 ^ -52

one_rounds : round binary64 false 1 1 ≡ one
unfolding round
one_rounds = refl

one_value : HasValue one false 1 1
one_value = (refl, refl)

abbrev next : Float
next = round binary64 false 4503599627370497 4503599627370496

next_value : HasValue next false 4503599627370497 4503599627370496
next_value = round_exact binary64 false 4503599627370497 4503599627370496 4503599627370497 1022 (lit< tt) (lit< tt) (lit< tt) refl

next_positive : T (positive next)
next_positive = positive_of_value next 4503599627370497 4503599627370496 next_value (lit< tt)

next-above : T (at_most_one next) → ⊥
next-above t = not-le_of_lt (lit< tt) (values_of_le next one 4503599627370497 4503599627370496 1 1 next_positive tt next_value one_value t)

-- ---- the two directions

rounds_within : (a b : ℕ) → 0 < b → a ≤ b → T (at_most_one (round binary64 false a b))
rounds_within a b B h =
    subst (λ (z : Float). T (le (round binary64 false a b) z)) one_rounds (round_mono binary64 a b 1 1 B (zero-lt-suc 0) (omega arith))

-- A fraction above 1 with so small a divisor is at least the next float.
rounds_above : (a b : ℕ) → 0 < b → b ≤ 2 ^ 52 → b < a → T (at_most_one (round binary64 false a b)) → ⊥
rounds_above a b B K h t =
    let x : Float = round binary64 false a b in
    let up : T (le next x) = round_mono binary64 4503599627370497 4503599627370496 a b (lit< tt) B (omega arith) in
    next-above (le_trans_positive next x one next_positive (between next x one next_positive tt up t) tt up t)

same_test : (x y : Bool) → (T y → T x) → (T (not y) → T x → ⊥) → x ≡ y
same_test true true p q = refl
same_test true false p q = absurd (q tt tt)
same_test false true p q = absurd (p tt)
same_test false false p q = refl

-- One rounded quotient, compared with 1, is the whole_number test.
pub ratio_test : (a b : ℕ) → a ≤ 2 ^ 53 → 0 < b → b ≤ 2 ^ 52 → at_most_one (quotient a b) ≡ leb a b
ratio_test a b A B K =
    ap at_most_one (quotient_rounds a b A B (le_trans K (lit≤ tt)))
    ∙ same_test (at_most_one (round binary64 false a b)) (leb a b)
    (λ t. rounds_within a b B (leb→le a b t))
    (λ t. rounds_above a b B K (nleb→lt a b t))
