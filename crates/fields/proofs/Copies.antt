-- Writing over a copy: what stays before and behind need not be written, and what stands behind a write stays. Assumes nothing.
use Prim.Native.Nat.{ℕ, ◌+◌, ◌≤◌}
use mathlib.Core.Path.{◌≡◌, refl, sym, ap, ◌∙◌}
use mathlib.Core.List.{List, ◌++◌, append_assoc}
use native.Mathlib.Omega.{arith}
use lib.ListN.{length, take, drop, length-append}
use lib.Seq.{length-take-le, take_at, drop_at, take-append-le, drop-append-le}
use Rattle.fields.specs.Fields.{splice}
use Rattle.fields.proofs.Holds.{Holds}
use Rattle.fields.proofs.Splice.{length-splice}

module _ {A : Type 0} where
  -- y over x, which is as long
  over : {l : List A} {at : ℕ} (front x rest y : List A) → length front ≡ at → l ≡ front ++ (x ++ rest) → length y ≡ length x
      → splice l at y ≡ front ++ (y ++ rest)
  unfolding splice
  over {l} {at} front x rest y starts is same =
      let split : l ≡ (front ++ x) ++ rest = is ∙ sym (append_assoc front x rest) in
      let ends : length (front ++ x) ≡ at + length y = length-append front x ∙ omega arith in
      let before : take at l ≡ front = ap (take at) is ∙ take_at front (x ++ rest) at starts in
      let after : drop (at + length y) l ≡ rest = ap (drop (at + length y)) split ∙ drop_at (front ++ x) rest (at + length y) ends in
      rw (before, after)

  module _ {l : List A} {at : ℕ} where
    -- what is there already
    pub same-again : (x : List A) → Holds l at x → splice l at x ≡ l
    same-again x h = over h.front x h.rest x h.starts h.is refl ∙ sym h.is

    whole : (x y x' y' : List A) → length x ≡ length x' → length y ≡ length y' → (h : Holds l at (x' ++ y'))
        → splice l at (x ++ y) ≡ h.front ++ (x ++ (y ++ h.rest))
    whole x y x' y' e f h =
        over h.front (x' ++ y') h.rest (x ++ y) h.starts h.is (simp length-append (omega arith)) ∙ rw append_assoc

    -- x alone, where y stands behind it
    pub rest-stays : (x x' y : List A) → length x ≡ length x' → Holds l at (x' ++ y) → splice l at x ≡ splice l at (x ++ y)
    rest-stays x x' y same h =
        over h.front x' (y ++ h.rest) x h.starts (h.is ∙ rw append_assoc) same ∙ sym (whole x y x' y same refl h)

    -- y alone, where x stands before it
    pub front-stays : (x y y' : List A) (i : ℕ) → i ≡ at + length x → length y ≡ length y' → Holds l at (x ++ y')
        → splice l i y ≡ splice l at (x ++ y)
    front-stays x y y' i e same h =
        over (h.front ++ x) y' h.rest y (length-append h.front x ∙ omega (arith, h.starts)) (h.is ∙ simp append_assoc) same
        ∙ append_assoc h.front x (y ++ h.rest)
        ∙ sym (whole x y x y' refl same h)

  -- a write of as many over a write
  pub written_over : (l x y : List A) (at : ℕ) → at ≤ length l → length y ≡ length x → splice (splice l at x) at y ≡ splice l at y
  unfolding splice
  written_over l x y at h e =
      over (take at l) x (drop (at + length x) l) y (length-take-le at l h) refl e ∙ rw e

  -- what stands behind a write
  pub behind : {l : List A} (at : ℕ) (x : List A) {i : ℕ} {y : List A} → at + length x ≤ i → Holds l i y → Holds (splice l at x) i y
  unfolding splice
  behind {l} at x {i} {y} room h =
      let tail : List A = y ++ h.rest in
      let before = take-append-le at h.front tail (omega (arith, h.starts)) in
      let after = drop-append-le (at + length x) h.front tail (omega (arith, h.starts)) in
      record {
        front = splice h.front at x;
        rest = h.rest;
        starts = length-splice h.front at x (omega (arith, h.starts)) ∙ h.starts;
        is = rw h.is (rw (before, after) (simp append_assoc));
      }
