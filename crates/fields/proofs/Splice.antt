-- What is written to a list is read back, what is not written stays, and writes side by side are one write. Assumes nothing.
use mathlib.Core.Path.{◌≡◌, refl, sym, ap, ◌∙◌}
use mathlib.Core.List.{List, [], ◌∷◌, ◌++◌, append_assoc}
use Prim.Native.Nat.{ℕ, ◌+◌, ◌-◌, ◌≤◌, ◌<◌}
use native.Mathlib.Nat.{add-zero, add_assoc}
use native.Mathlib.Numerals.{add-one}
use native.Mathlib.Omega.{arith}
use lib.ListN.{length, get_or, take, drop, set, length-append, length-drop, take-append-drop, get_or-append}
use lib.Seq.{length-take-le, take_at, drop_at, take-append-le, take-take, drop-append-add, drop-drop}
use lib.Seq.{get_or-take, get_or-drop, get_or-append-add, set_split}
use Rattle.fields.specs.Fields.{splice}
use Rattle.fields.proofs.Holds.{Holds, getD-holds}

module _ {A : Type 0} where
  pub splice-nil : (l : List A) (at : ℕ) → splice l at [] ≡ l
  unfolding splice
  splice-nil l at = rw add-zero (take-append-drop at l)

  -- ---- what is read

  module _ (l : List A) (at : ℕ) (xs : List A) (h : at ≤ length l) where
    pub of-splice : Holds (splice l at xs) at xs
    unfolding splice
    of-splice = record { front = take at l; rest = drop (at + length xs) l; starts = length-take-le at l h; is = refl }

    pub getD-splice : (i k : ℕ) (d : A) → i ≡ at + k → k < length xs → get_or (splice l at xs) i d ≡ get_or xs k d
    getD-splice = getD-holds of-splice

    pub getD-splice-before : (k : ℕ) (d : A) → k < at → get_or (splice l at xs) k d ≡ get_or l k d
    unfolding splice
    getD-splice-before k d b =
        get_or-append (take at l) (xs ++ drop (at + length xs) l) d k (omega (arith, length-take-le at l h)) ∙ get_or-take at l k d b

  module _ (l : List A) (at : ℕ) (xs : List A) (h : at + length xs ≤ length l) where
    head : length (take at l ++ xs) ≡ at + length xs
    head = length-append (take at l) xs ∙ ap (λ (k : ℕ). k + length xs) (length-take-le at l (omega arith))

    pub getD-splice-after : (k : ℕ) (d : A) → at + length xs ≤ k → get_or (splice l at xs) k d ≡ get_or l k d
    unfolding splice
    getD-splice-after k d b =
        let n : ℕ = at + length xs in
        let e : k ≡ n + (k - n) = omega arith in
        let e' : k ≡ length (take at l ++ xs) + (k - n) = omega (arith, head) in
        ap (λ (z : List A). get_or z k d) (sym (append_assoc (take at l) xs (drop n l)))
        ∙ ap (λ (i : ℕ). get_or ((take at l ++ xs) ++ drop n l) i d) e'
        ∙ get_or-append-add (take at l ++ xs) (drop n l) (k - n) d
        ∙ get_or-drop n l (k - n) d
        ∙ ap (λ (i : ℕ). get_or l i d) (sym e)

    pub length-splice : length (splice l at xs) ≡ length l
    unfolding splice
    length-splice = simp (length-append, length-drop) (omega (arith, length-take-le at l (omega arith)))

    -- ---- writes side by side

    both : (ys : List A) → take at l ++ (xs ++ (ys ++ drop (at + length xs + length ys) l)) ≡ splice l at (xs ++ ys)
    unfolding splice
    both ys = simp (length-append, append_assoc, add_assoc)

    -- the second after the first
    pub splice-splice : (ys : List A) → splice (splice l at xs) (at + length xs) ys ≡ splice l at (xs ++ ys)
    unfolding splice
    splice-splice ys =
        let n : ℕ = at + length xs in
        let m : List A = (take at l ++ xs) ++ drop n l in
        let e : take at l ++ (xs ++ drop n l) ≡ m = sym (append_assoc (take at l) xs (drop n l)) in
        let t : take n m ≡ take at l ++ xs = take_at (take at l ++ xs) (drop n l) n head in
        let d : drop (n + length ys) m ≡ drop (n + length ys) l =
        ap (λ (k : ℕ). drop (k + length ys) m) (sym head) ∙ drop-append-add (take at l ++ xs) (drop n l) (length ys) ∙ drop-drop (length ys) n l in
        ap (λ (z : List A). take n z ++ (ys ++ drop (n + length ys) z)) e
        ∙ ap (λ (z : List A). z ++ (ys ++ drop (n + length ys) m)) t
        ∙ ap (λ (z : List A). (take at l ++ xs) ++ (ys ++ z)) d
        ∙ append_assoc (take at l) xs (ys ++ drop (n + length ys) l)
        ∙ both ys

    -- the second in front of the first
    pub splice_front : (ys : List A) → splice (splice l (at + length xs) ys) at xs ≡ splice l at (xs ++ ys)
    unfolding splice
    splice_front ys =
        let n : ℕ = at + length xs in
        let r : List A = ys ++ drop (n + length ys) l in
        let s : length (take n l) ≡ n = length-take-le n l h in
        let t : take at (take n l ++ r) ≡ take at l = take-append-le at (take n l) r (omega arith) ∙ take-take at n l (omega arith) in
        let d : drop n (take n l ++ r) ≡ r = drop_at (take n l) r n s in
        ap (λ (z : List A). z ++ (xs ++ drop n (take n l ++ r))) t ∙ ap (λ (z : List A). take at l ++ (xs ++ z)) d ∙ both ys

  -- a store is a write of one
  pub set-splice : (l : List A) (i : ℕ) (v : A) → i < length l → set l i v ≡ splice l i (v ∷ [])
  unfolding splice
  set-splice l i v h = set_split l i v h ∙ ap (λ (k : ℕ). take i l ++ v ∷ drop k l) (sym (add-one i))

  -- two writes, the second after the first
  pub splice-join : (l : List A) {l₁ l₂ : List A} (at : ℕ) (x y : List A) (i : ℕ) → at + length x ≤ length l → i ≡ at + length x
      → l₁ ≡ splice l at x → l₂ ≡ splice l₁ i y → l₂ ≡ splice l at (x ++ y)
  splice-join l at x y i h e was is = is ∙ rw (was, e) (splice-splice l at x h y)
