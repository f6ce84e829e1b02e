-- From a whole list down to what stands at a place in it. Assumes nothing.
use mathlib.Core.Path.{◌≡◌, refl, sym, ap, ◌∙◌}
use mathlib.Core.List.{List, [], ◌++◌, append_assoc, append-nil}
use Prim.Native.Nat.{ℕ, ◌+◌, ◌%◌, ◌^◌, ◌≤◌, ◌<◌}
use native.Mathlib.Nat.{mod-eq_of_lt}
use native.Mathlib.Omega.{arith}
use lib.ListN.{length, get_or, take, length-append, get_or-append}
use lib.Seq.{get_or-append-add, take_at, drop_at}
use Rattle.rules.specs.Image.{be, bytes}
use Rattle.fields.specs.Fields.{part}
use Rattle.fields.proofs.Bytes.{length-bytes, be_ext, be-bytes}

-- the list l has the elements of x from index at
pub record Holds {A : Type 0} (l : List A) (at : ℕ) (x : List A) : Type 0 where
  pub front : List A
  pub rest : List A
  pub starts : length front ≡ at
  pub is : l ≡ front ++ (x ++ rest)

module _ {A : Type 0} where
  pub whole : (x : List A) → Holds x 0 x
  whole x = record { front = []; rest = []; starts = refl; is = sym (append-nil x) }

  pub left : {l : List A} {at : ℕ} (x y : List A) → Holds l at (x ++ y) → Holds l at x
  left x y h = record { front = h.front; rest = y ++ h.rest; starts = h.starts; is = h.is ∙ rw append_assoc }

  pub right : {l : List A} {at : ℕ} (x y : List A) (i : ℕ) → i ≡ at + length x → Holds l at (x ++ y) → Holds l i y
  right x y i e h = record {
    front = h.front ++ x;
    rest = h.rest;
    starts = length-append h.front x ∙ ap (λ (k : ℕ). k + length x) h.starts ∙ sym e;
    is = h.is ∙ simp append_assoc;
  }

  pub getD-holds : {l : List A} {at : ℕ} {x : List A} → Holds l at x → (i k : ℕ) (d : A) → i ≡ at + k → k < length x → get_or l i d ≡ get_or x k d
  getD-holds {l} {at} {x} h i k d e b =
      let s : i ≡ length h.front + k = omega (arith, h.starts) in
      rw (s, h.is) (get_or-append-add h.front (x ++ h.rest) k d ∙ get_or-append x h.rest d k b)

  pub part-holds : {l : List A} {at : ℕ} {x : List A} → Holds l at x → part l at (length x) ≡ x
  part-holds {l} {at} {x} h =
      ap (λ (z : List A). part z at (length x)) h.is
      ∙ ap (take (length x)) (drop_at h.front (x ++ h.rest) at h.starts)
      ∙ take_at x h.rest (length x) refl

pub be-holds : {l : List ℕ} {at : ℕ} {x : List ℕ} → Holds l at x → (i k w : ℕ) → i ≡ at + k → k + w ≤ length x → be l i w ≡ be x k w
be-holds {l} {at} {x} h i k w e b = be_ext l x i k w (λ j c. getD-holds h (i + j) (k + j) 0 (omega arith) (omega arith))

-- a number that stands at a place is read there
pub reads : {l : List ℕ} {at : ℕ} (w v : ℕ) → Holds l at (bytes w v) → be l at w ≡ v % 256 ^ w
reads {l} {at} w v h = be-holds h at 0 w (omega arith) (omega (arith, length-bytes w v)) ∙ be-bytes w v

pub reads-lt : {l : List ℕ} {at : ℕ} (w v : ℕ) → v < 256 ^ w → Holds l at (bytes w v) → be l at w ≡ v
reads-lt w v b h = reads w v h ∙ mod-eq_of_lt b
