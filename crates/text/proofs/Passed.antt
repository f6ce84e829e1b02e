-- What a text says from an index on, by the byte there. Assumes nothing.
use Prim.Native.Nat.{ℕ, zero, suc, ◌+◌, ◌*◌, ◌-◌, ◌≤◌, ◌<◌}
use mathlib.Core.Path.{◌≡◌, refl, sym, ap, ◌∙◌}
use mathlib.Core.Bool.{Bool, true, false, cond, ◌&&◌}
use mathlib.Core.List.{List, [], ◌∷◌}
use mathlib.Core.Logic.{◌≢◌}
use native.Mathlib.Numerals.{add-one}
use native.Mathlib.Omega.{arith}
use borrow.Author.Tests.{eq-eqb, ne_eqb}
use lib.Dec.{leb}
use Rattle.std.specs.Bool.{MatchBool}
use Rattle.std.specs.List.{AllWithin, HoldsAt}
use lib.ListN.{length, drop, get_or, drop_of_length-le}
use lib.Seq.{drop-cons}
use Rattle.text.specs.Words.{from_first, after_first, from_word, digits_say, capped, only_digits}

-- whether a byte is a digit
abbrev pub is_digit : ℕ → Bool
is_digit x = leb 48 x && leb x 57

module _ (s : List ℕ) (i : ℕ) where
  split : i < length s → drop i s ≡ get_or s i 0 ∷ drop (i + 1) s
  split h = rw add-one (drop-cons s i 0 h)

  pub digit-here : (v d : ℕ) → i < length s → is_digit (get_or s i 0) ≡ true → d ≡ get_or s i 0 - 48
      → digits_say v (drop i s) ≡ digits_say (v * 10 + d) (drop (i + 1) s)
  unfolding digits_say
  digit-here v d h is e = rw (split h, is, e)

  pub digits_end : (v : ℕ) → i < length s → is_digit (get_or s i 0) ≡ false → digits_say v (drop i s) ≡ v
  unfolding digits_say
  digits_end v h is = rw (split h, is)

  pub text-end : (v : ℕ) → length s ≤ i → digits_say v (drop i s) ≡ v
  unfolding digits_say
  text-end v h = rw (drop_of_length-le s h)

pub word_after : (k j : ℕ) (s : List ℕ) → j < k → from_word (k - j) s ≡ from_word (k - (j + 1)) (after_first 32 s)
unfolding from_word
word_after k j s l = let e : k - j ≡ suc (k - (j + 1)) = omega arith in rw e

-- the digits after v and after what it is capped to say the same, capped
pub capped-once : (v : ℕ) (s : List ℕ) → capped (digits_say (capped v) s) ≡ capped (digits_say v s)
unfolding digits_say
capped-once v [] = omega arith
capped-once v (x ∷ xs) =
    let more = v * 10 + (x - 48) in
    let less = capped v * 10 + (x - 48) in
    let e : capped less ≡ capped more = omega arith in
    by
    (leb 48 x && leb x 57)
    (digits_say less xs)
    (digits_say more xs)
    (sym (capped-once less xs) ∙ ap (λ (u : ℕ). capped (digits_say u xs)) e ∙ capped-once more xs)
  where
    by : (t : Bool) (a b : ℕ) → capped a ≡ capped b → capped (cond t a (capped v)) ≡ capped (cond t b v)
    by true a b e = e
    by false a b e = omega arith

-- ---- the first of a byte

pub first_at : (b i : ℕ) (s : List ℕ) → i < length s → get_or s i 0 ≡ b → ((k : ℕ) → k < i → get_or s k 0 ≢ b) → drop i s ≡ from_first b s
unfolding from_first
first_at b i [] l is before = absurd (omega arith)
first_at b zero (x ∷ xs) l is before = rw (eq-eqb x b is)
first_at b (suc i) (x ∷ xs) l is before =
    rw (ne_eqb x b (before 0 (omega arith))) (first_at b i xs (omega arith) is (λ k h. before (suc k) (omega arith)))

pub first_nowhere : (b : ℕ) (s : List ℕ) → ((k : ℕ) → k < length s → get_or s k 0 ≢ b) → [] ≡ from_first b s
unfolding from_first
first_nowhere b [] none = refl
first_nowhere b (x ∷ xs) none = rw (ne_eqb x b (none 0 (omega arith))) (first_nowhere b xs (λ k h. none (suc k) (omega arith)))

-- ---- digits alone

all_digits : (s : List ℕ) → ((k : ℕ) → k < length s → is_digit (get_or s k 0) ≡ true) → only_digits s ≡ true
unfolding only_digits
all_digits [] h = refl
all_digits (x ∷ xs) h = rw (h 0 (omega arith), all_digits xs (λ k l. h (suc k) (omega arith)))

one-other : (s : List ℕ) (k : ℕ) → k < length s → is_digit (get_or s k 0) ≡ false → only_digits s ≡ false
unfolding only_digits
one-other [] k l h = absurd (omega arith)
one-other (x ∷ xs) zero l h = rw h
one-other (x ∷ xs) (suc k) l h = rw (one-other xs k (omega arith) h) (none (is_digit x))
  where
    none : (b : Bool) → (b && false) ≡ false
    none true = refl
    none false = refl

pub settled : (s : List ℕ) (r : Bool)
    → MatchBool r (AllWithin (λ x. is_digit x ≡ true) s 0 (length s)) ((k : ℕ) × (k < length s) × HoldsAt (λ x. is_digit x ≡ false) s k) → r ≡ only_digits s
settled s true h = sym (all_digits s (λ k l. h k 0 (omega arith) l))
settled s false h = sym (one-other s h.0 h.1 (h.2 0))
