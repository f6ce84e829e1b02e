-- An entry is too long exactly if its first byte is not 0. Assumes nothing.
use Prim.Native.Nat.{ℕ, zero, suc, ◌+◌, ◌*◌, ◌/◌, ◌%◌, ◌^◌, ◌≤◌, ◌<◌, min}
use mathlib.Core.Path.{◌≡◌, refl, sym, ap, ◌∙◌}
use mathlib.Core.Bool.{Bool, true, false, ◌&&◌}
use mathlib.Core.List.{List}
use native.Mathlib.Numerals.{add-one}
use native.Mathlib.Omega.{arith}
use lib.Bits.{bit_or, or_zero_l, or_add_and, and_le_r, or_mod}
use lib.Dec.{leb, eqb}
use lib.ListN.{length, get_or}
use borrow.Author.Tests.{eqb-true, eqb-false, ne_eqb, le-leb, lt-leb}
use Rattle.rules.specs.Numbers.{longest_time, duration_bytes}
use Rattle.rules.specs.Words.{all_pass}
use Rattle.rules.specs.Image.{be}
use Rattle.rules.specs.Recording.{durations, short}
use Rattle.fields.proofs.Bytes.{Bytes, be-front, be-lt}
use Rattle.fields.proofs.Tabs.{getD-tab}

-- the first byte of entry k is 0
abbrev pub clear : List ℕ → ℕ → Bool
clear frame k = eqb (get_or frame (k * duration_bytes) 0) 0

or-none : (a b : ℕ) → eqb (bit_or a b) 0 ≡ eqb a 0 && eqb b 0
or-none a b = by (eqb a 0) refl
  where
    by : (p : Bool) → eqb a 0 ≡ p → eqb (bit_or a b) 0 ≡ p && eqb b 0
    by true e = ap (λ (x : ℕ). eqb x 0) (ap (λ (x : ℕ). bit_or x b) (eqb-true a 0 e) ∙ or_zero_l b)
    by false e = ne_eqb (bit_or a b) 0 (λ z. eqb-false a 0 e (omega (arith, or_add_and a b, and_le_r a b)))

-- the bits of the first k entries together, and of one more
pub clear-more : (frame : List ℕ) (k all next : ℕ) → all_pass (clear frame) k ≡ eqb (all % 256) 0 → next % 256 ≡ get_or frame (k * duration_bytes) 0
    → all_pass (clear frame) (k + 1) ≡ eqb (bit_or all next % 256) 0
unfolding all_pass
clear-more frame k all next h e =
    rw (add-one, h) (sym (
    ap (λ (x : ℕ). eqb x 0) (or_mod all next 8) ∙ or-none (all % 256) (next % 256)
    ∙ ap (λ (x : ℕ). eqb (all % 256) 0 && eqb x 0) e))

module _ (frame : List ℕ) (bytes : Bytes frame) where
  -- an entry is short exactly if its first byte is 0
  clear-short : (k : ℕ) → k < min (length frame / duration_bytes) 512 → clear frame k ≡ short (durations frame) k
  clear-short k l =
      by (eqb first 0) refl ∙ sym (ap (λ (x : ℕ). leb x longest_time) (getD-tab (λ j. be frame (j * duration_bytes) duration_bytes) _ k 0 l))
    where
      first : ℕ
      first = get_or frame (k * duration_bytes) 0

      said : ℕ
      said = be frame (k * duration_bytes) duration_bytes

      front : said ≡ first * 256 ^ 3 + be frame (suc (k * duration_bytes)) 3
      front = be-front frame (k * duration_bytes) 3

      by : (p : Bool) → eqb first 0 ≡ p → p ≡ leb said longest_time
      by true e = sym (le-leb said longest_time (omega (arith, eqb-true first 0 e, front, be-lt frame (suc (k * duration_bytes)) 3 bytes)))
      by false e = let some : (first ≡ 0 → ⊥) = eqb-false first 0 e in sym (lt-leb said longest_time (omega (arith, front)))

  pub all_clear : (cells : ℕ) → cells ≤ min (length frame / duration_bytes) 512 → all_pass (clear frame) cells ≡ all_pass (short (durations frame)) cells
  unfolding all_pass
  all_clear zero l = refl
  all_clear (suc k) l = rw (all_clear k (omega arith), clear-short k (omega arith))
