-- A line as the program puts it: its first word, each other after a space, the newline. Assumes nothing.
use Prim.Native.Nat.{ℕ, zero, suc, ◌+◌, ◌≤◌}
use mathlib.Core.Path.{◌≡◌, refl, sym, ap, ◌∙◌}
use native.Mathlib.Numerals.{add-one}
use mathlib.Core.List.{List, [], ◌∷◌, ◌++◌, append_assoc, append-nil}
use lib.IntN.{ℤ, pos}
use lib.ListN.{length, get_or}
use Rattle.rules.specs.Words.{cat, tab}
use Rattle.fields.specs.Fields.{part}
use Rattle.fields.proofs.Parts.{length_part, get_d_part}
use Rattle.fields.proofs.Cats.{cat_ext}
use Rattle.text.specs.Digits.{newline, space, decimal, signed, line}
use Rattle.text.specs.Put.{Puts}
use Rattle.text.proofs.Puts.{put_none, put_then, put_as}
use Rattle.print.specs.Plan.{position_line}

-- each word after a space
spaced : List (List ℕ) → List ℕ
spaced [] = []
spaced (w ∷ ws) = (space ∷ w) ++ spaced ws

line_spaced : (w : List ℕ) (ws : List (List ℕ)) → line (w ∷ ws) ≡ w ++ (spaced ws ++ (newline ∷ []))
unfolding line spaced
line_spaced w [] = refl
line_spaced w (v ∷ ws) = rw (line_spaced v ws, append_assoc)

spaced_append : (xs ys : List (List ℕ)) → spaced (xs ++ ys) ≡ spaced xs ++ spaced ys
unfolding spaced
spaced_append [] ys = refl
spaced_append (w ∷ ws) ys = rw (spaced_append ws ys, append_assoc)

spaced_tab : (f : ℕ → List ℕ) (n : ℕ) → spaced (tab f n) ≡ cat (λ q. space ∷ f q) n
unfolding spaced cat
spaced_tab f zero = refl
spaced_tab f (suc n) = spaced_append (tab f n) (f n ∷ []) ∙ rw (spaced_tab f n, append-nil)

-- the line of a position
pub position-is : (i action : ℕ) (limits : ℕ → ℤ) (L : ℕ)
    → ((decimal i ++ (space ∷ [])) ++ decimal action) ++ (cat (λ q. space ∷ signed (limits q)) L ++ (newline ∷ [])) ≡ position_line i action limits L
unfolding line position_line
position-is i action limits L =
    let f : ℕ → List ℕ = λ q. signed (limits q) in
    let rest : List ℕ = cat (λ q. space ∷ f q) L ++ (newline ∷ []) in
    let second : decimal action ++ rest ≡ line (decimal action ∷ tab f L) =
    sym (line_spaced (decimal action) (tab f L) ∙ ap (λ (x : List ℕ). decimal action ++ (x ++ (newline ∷ []))) (spaced_tab f L)) in
    append_assoc (decimal i ++ (space ∷ [])) (decimal action) rest
    ∙ append_assoc (decimal i) (space ∷ []) (decimal action ++ rest)
    ∙ ap (λ (x : List ℕ). decimal i ++ (space ∷ x)) second

-- the limits of a position are a part of the table
pub limits-part : (l : List ℤ) (at L m : ℕ) → at + L ≤ length l → m ≡ L
    → cat (λ q. space ∷ signed (get_or (part l at m) q (pos 0))) (length (part l at m)) ≡ cat (λ q. space ∷ signed (get_or l (at + q) (pos 0))) L
limits-part l at L m h e =
    rw (e, length_part l at L h) (cat_ext _ _ L (λ q b. ap (λ (z : ℤ). space ∷ signed z) (get_d_part l at L q (pos 0) b)))

-- ---- a loop that puts f 0, f 1, ..: before it, a turn of it, after it

module _ {out : List ℕ} {at : ℕ} (h : at ≤ length out) (f : ℕ → List ℕ) where
  pub loop-none : Puts out at (cat f 0) out at
  unfolding cat
  loop-none = put_none h

  pub loop_turn : (k : ℕ) {mid end : List ℕ} {m r : ℕ} → Puts out at (cat f k) mid m → Puts mid m (f k) end r → Puts out at (cat f (k + 1)) end r
  unfolding cat
  loop_turn k p q = put_as (sym (ap (cat f) (add-one k))) (put_then h p q)

  pub loop_done : (k n : ℕ) {end : List ℕ} {r : ℕ} → k ≡ n → Puts out at (cat f k) end r → Puts out at (cat f n) end r
  loop_done k n e p = put_as (ap (cat f) e) p
