-- Nothing put, one byte put, and two texts put one after the other. Assumes nothing.
use Prim.Native.Nat.{ℕ, ◌+◌, min, ◌≤◌, ◌<◌}
use mathlib.Core.Path.{◌≡◌, sym, ap, subst, ◌∙◌}
use mathlib.Core.List.{List, [], ◌∷◌, ◌++◌, append_assoc}
use native.Mathlib.Decide.{dec_lt}
use native.Mathlib.Omega.{arith}
use lib.ListN.{length, take, drop, set, length-append, length-take, length-drop}
use lib.Seq.{length-take-le, take_all, take-take, take-append-le}
use Rattle.fields.specs.Fields.{splice}
use Rattle.fields.proofs.Splice.{splice-nil, splice-splice, set-splice, length-splice}
use Rattle.text.specs.Put.{Puts}

-- the buffer after the text s
abbrev over : List ℕ → ℕ → List ℕ → List ℕ
over out at s = take (length out) (splice out at s)

length_over : (out : List ℕ) (at : ℕ) (s : List ℕ) → at ≤ length out → length (over out at s) ≡ length out
unfolding splice
length_over out at s h = simp (length-take, length-append, length-drop) (omega arith)

-- where all of it fits, and where it does not
fits : (out : List ℕ) (at : ℕ) (s : List ℕ) → at + length s ≤ length out → over out at s ≡ splice out at s
fits out at s h = take_all (length out) (splice out at s) (omega (arith, length-splice out at s h))

cut : (out : List ℕ) (at : ℕ) (s : List ℕ) → at ≤ length out → length out ≤ at + length s
    → over out at s ≡ take (length out) (take at out ++ s)
unfolding splice
cut out at s h l =
    ap (take (length out)) (sym (append_assoc (take at out) s (drop (at + length s) out)))
    ∙ take-append-le (length out) (take at out ++ s) (drop (at + length s) out)
    (omega (arith, length-append (take at out) s, length-take-le at out h))

over-over : (out : List ℕ) (at : ℕ) (s t : List ℕ) → at ≤ length out → {mid : List ℕ} {m : ℕ} → mid ≡ over out at s → m ≡ min (at + length s) (length out)
    → over mid m t ≡ over out at (s ++ t)
unfolding splice
over-over out at s t h {mid} {m} e c = go (dec_lt (length out) (at + length s))
  where
    same : length mid ≡ length out
    same = ap length e ∙ length_over out at s h

    go : Dec (length out < at + length s) → over mid m t ≡ over out at (s ++ t)
    go (no l) =
        let all : mid ≡ splice out at s = e ∙ fits out at s (omega arith) in
        let next : m ≡ at + length s = omega arith in
        ap (λ (k : ℕ). take k (splice mid m t)) same
        ∙ ap (take (length out)) (rw (all, next) (splice-splice out at s (omega arith) t))
    go (yes l) =
        let next : m ≡ length mid = omega (arith, same) in
        let joined : (take at out ++ s) ++ t ≡ take at out ++ (s ++ t) = append_assoc (take at out) s t in
        let long = length-append (take at out) s in
        let head = length-take-le at out h in
        cut mid m t (omega (arith, same)) (omega (arith, same))
        ∙ rw next (take-append-le (length mid) (take (length mid) mid) t (omega (arith, length-take-le (length mid) mid (omega arith))))
        ∙ take-take (length mid) (length mid) mid (omega arith)
        ∙ take_all (length mid) mid (omega arith)
        ∙ e
        ∙ cut out at s h (omega arith)
        ∙ sym (take-append-le (length out) (take at out ++ s) t (omega arith))
        ∙ ap (take (length out)) joined
        ∙ sym (cut out at (s ++ t) h (omega (arith, length-append s t)))

module _ {out : List ℕ} {at : ℕ} (h : at ≤ length out) where
  puts : {s out' : List ℕ} {r : ℕ} → out' ≡ over out at s → r ≡ min (at + length s) (length out) → Puts out at s out' r
  puts {s} {out'} {r} e c =
      let l : length out' ≡ length out = ap length e ∙ length_over out at s h in
      record { written = e; count = c; counts = (omega arith, simp length-take (omega arith)) }

  -- the buffer keeps its length
  pub same_length : {s out' : List ℕ} {r : ℕ} → Puts out at s out' r → length out' ≡ length out
  same_length {s} p = ap length p.written ∙ length_over out at s h

  pub put_none : Puts out at [] out at
  put_none = puts (sym (fits out at [] (omega arith) ∙ splice-nil out at)) (omega arith)

  pub put_one : (b : ℕ) → at < length out → Puts out at (b ∷ []) (set out at b) (at + 1)
  put_one b l = puts (set-splice out at b l ∙ sym (fits out at (b ∷ []) (omega arith))) (omega arith)

  -- there is no room for a byte
  pub put_full : (s : List ℕ) → length out ≤ at → Puts out at s out at
  put_full s l =
      let n : at ≡ length out = omega arith in
      puts
      (sym
      (cut out at s h (omega arith)
      ∙ take-append-le (length out) (take at out) s (omega (arith, length-take-le at out h))
      ∙ rw n (ap (take (length out)) (take_all (length out) out (omega arith)) ∙ take_all (length out) out (omega arith))))
      (omega arith)

  -- one text after another is both of them
  pub put_then : {s t mid end : List ℕ} {m r : ℕ} → Puts out at s mid m → Puts mid m t end r → Puts out at (s ++ t) end r
  put_then {s} {t} {mid} p q =
      puts (q.written ∙ over-over out at s t h p.written p.count)
      (omega (arith, p.count, q.count, same_length p, length-append s t))

-- the same text, said in another way
pub put_as : {out : List ℕ} {at : ℕ} {s t out' : List ℕ} {r : ℕ} → s ≡ t → Puts out at s out' r → Puts out at t out' r
put_as {out} {at} {out' = out'} {r} e p = subst (λ (x : List ℕ). Puts out at x out' r) e p

-- equal texts put into one buffer leave one buffer and one count
pub puts_one : {out : List ℕ} {at : ℕ} {s t out₁ out₂ : List ℕ} {r₁ r₂ : ℕ} → s ≡ t → Puts out at s out₁ r₁ → Puts out at t out₂ r₂
    → (out₁ ≡ out₂) × (r₁ ≡ r₂)
puts_one {out} {at} e p q = (
  p.written ∙ ap (over out at) e ∙ sym q.written,
  p.count ∙ ap (λ (x : List ℕ). min (at + length x) (length out)) e ∙ sym q.count,
)
