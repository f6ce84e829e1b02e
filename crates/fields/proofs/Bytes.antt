-- Big-endian numbers, at every width: what is read of what was written, and what is written of what was read. Assumes nothing.
use mathlib.Core.Path.{◌≡◌, refl, sym, ap, ◌∙◌}
use mathlib.Core.List.{List, [], ◌∷◌}
use Prim.Native.Nat.{ℕ, zero, suc, ◌+◌, ◌*◌, ◌/◌, ◌%◌, ◌^◌, ◌≤◌, ◌<◌}
use native.Mathlib.Nat.{add-zero, zero-add, add-suc, suc-add, mul_assoc, pow-zero, pow-suc, pow-succ', one-le-pow}
use native.Mathlib.Nat.{div-one, mod-one, mod-eq_of_lt, mul-add-div_right}
use native.Mathlib.Omega.{arith}
use lib.Arith.{mod-mul, digits_lt, digits_div}
use lib.Dec.{lit<, lit≤}
use lib.ListN.{length, get_or, take}
use lib.Seq.{get_or-append-add, drop-cons}
use Rattle.rules.specs.Image.{be, bytes}
use Rattle.fields.specs.Fields.{part}

-- ---- one byte more

pub be-suc : (s : List ℕ) (at w : ℕ) → be s at (suc w) ≡ be s at w * 256 + get_or s (at + w) 0
be-suc s at zero = rw (add-zero, zero-add)
be-suc s at (suc w) = refl

-- the first byte split off
pub be-front : (s : List ℕ) (at w : ℕ) → be s at (suc w) ≡ get_or s at 0 * 256 ^ w + be s (suc at) w
be-front s at zero = rw pow-zero (omega arith)
be-front s at (suc w) =
    let next : be s (suc at) (suc w) ≡ be s (suc at) w * 256 + get_or s (at + suc w) 0 =
    be-suc s (suc at) w ∙ rw (suc-add at w, ← add-suc at w) in
    let power : get_or s at 0 * 256 ^ suc w ≡ get_or s at 0 * 256 ^ w * 256 = rw (pow-suc 256 w, ← mul_assoc (get_or s at 0) (256 ^ w) 256) in
    omega (arith, be-front s at w, next, power)

pub bytes-suc : (w v : ℕ) → bytes (suc w) v ≡ v / 256 ^ w % 256 ∷ bytes w v
bytes-suc zero v = rw (pow-zero, div-one)
bytes-suc (suc w) v = refl

pub length-bytes : (w v : ℕ) → length (bytes w v) ≡ w
length-bytes zero v = refl
length-bytes (suc zero) v = refl
length-bytes (suc (suc w)) v = ap suc (length-bytes (suc w) v)

-- equal bytes say equal numbers
pub be_ext : (s t : List ℕ) (i j w : ℕ) → ((k : ℕ) → k < w → get_or s (i + k) 0 ≡ get_or t (j + k) 0) → be s i w ≡ be t j w
be_ext s t i j zero h = refl
be_ext s t i j (suc w) h =
    let last : get_or s (i + w) 0 ≡ get_or t (j + w) 0 = h w (omega arith) in
    omega (arith, be-suc s i w, be-suc t j w, be_ext s t i j w (λ k l. h k (omega arith)), last)

-- ---- what is read of what was written

pub be-bytes : (w v : ℕ) → be (bytes w v) 0 w ≡ v % 256 ^ w
be-bytes zero v = rw pow-zero (sym (mod-one v))
be-bytes (suc w) v =
    let b : ℕ = v / 256 ^ w % 256 in
    let tail : be (b ∷ bytes w v) 1 w ≡ be (bytes w v) 0 w =
    be_ext (b ∷ bytes w v) (bytes w v) 1 0 w (λ k l. get_or-append-add (b ∷ []) (bytes w v) k 0 ∙ rw zero-add) in
    let digit : v % (256 * 256 ^ w) ≡ b * 256 ^ w + v % 256 ^ w = mod-mul v (lit< tt) (one-le-pow w 256 (lit≤ tt)) in
    ap (λ (l : List ℕ). be l 0 (suc w)) (bytes-suc w v)
    ∙ rw (pow-succ' 256 w) (omega (arith, be-front (b ∷ bytes w v) 0 w, tail, be-bytes w v, digit))

-- ---- what is written of what was read

-- the list is of bytes
abbrev pub Bytes : List ℕ → Type 0
Bytes s = (k : ℕ) → get_or s k 0 < 256

pub be-lt : (s : List ℕ) (at w : ℕ) → Bytes s → be s at w < 256 ^ w
be-lt s at zero h = rw pow-zero (omega arith)
be-lt s at (suc w) h = rw (be-suc s at w, pow-suc 256 w) (digits_lt (be-lt s at w h) (h (at + w)))

-- only the low bytes count
pub bytes-add : (w x r : ℕ) → bytes w (x * 256 ^ w + r) ≡ bytes w r
bytes-add zero x r = refl
bytes-add (suc w) x r =
    let low : ℕ = x * 256 * 256 ^ w + r in
    let split : x * 256 ^ suc w ≡ x * 256 * 256 ^ w = rw (pow-succ' 256 w, ← mul_assoc x 256 (256 ^ w)) in
    let high : low / 256 ^ w ≡ x * 256 + r / 256 ^ w = mul-add-div_right (one-le-pow w 256 (lit≤ tt)) (x * 256) r in
    let digit : low / 256 ^ w % 256 ≡ r / 256 ^ w % 256 = omega (arith, high) in
    rw (split, bytes-suc w low, bytes-suc w r, digit, bytes-add w (x * 256) r)

pub bytes-be : (w : ℕ) (s : List ℕ) (at : ℕ) → Bytes s → at + w ≤ length s → bytes w (be s at w) ≡ part s at w
bytes-be zero s at h l = refl
bytes-be (suc w) s at h l =
    let n : ℕ = be s at (suc w) in
    let b : ℕ = get_or s at 0 in
    let r : ℕ = be s (suc at) w in
    let front : n ≡ b * 256 ^ w + r = be-front s at w in
    let high : n / 256 ^ w ≡ b = ap (λ (x : ℕ). x / 256 ^ w) front ∙ digits_div b (be-lt s (suc at) w h) in
    let digit : n / 256 ^ w % 256 ≡ b = ap (λ (x : ℕ). x % 256) high ∙ mod-eq_of_lt (h at) in
    let rest : bytes w n ≡ part s (suc at) w = ap (bytes w) front ∙ bytes-add w b r ∙ bytes-be w s (suc at) h (omega arith) in
    bytes-suc w n
    ∙ ap (λ (x : ℕ). x ∷ bytes w n) digit
    ∙ ap (λ (x : List ℕ). b ∷ x) rest
    ∙ sym (ap (take (suc w)) (drop-cons s at 0 (omega arith)))
