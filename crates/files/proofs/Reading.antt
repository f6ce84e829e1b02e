-- What one read after another takes of a reader's bytes, and where it puts them.
use Rattle.std.proofs.Common.{◌≡◌, ℕ, ◌+◌, ◌≤◌, List, ◌++◌, None, Some, sym, ap, ◌∙◌, append_assoc, length, take, drop, drop_at, length-take-le, le_refl}
use Rattle.std.proofs.lemmas.Slice.{take-put_mid_below}
use Rattle.std.specs.Io.KnownBytes.{Consumes}
use Rattle.std.specs.declared.option.Option.{Option}
use borrow.Rule.Slice.PartMut.{put_mid, post_of}
use lib.Seq.{take-add, take-append-le}

-- two reads are one of the bytes of both
pub Consumes_both : (a b c : Option (List ℕ)) (bs cs : List ℕ) → Consumes a b bs → Consumes b c cs → Consumes a c (bs ++ cs)
Consumes_both None b c bs cs p q = tt
Consumes_both (Some x) None c bs cs p q = absurd p
Consumes_both (Some x) (Some y) None bs cs p q = absurd q
Consumes_both (Some x) (Some y) (Some z) bs cs p q = p ∙ ap (λ l. bs ++ l) q ∙ sym (append_assoc bs cs z)

-- n bytes that a read put into a buffer from index a on stand after those before it
pub take_after : (a k n : ℕ) (xs ys : List ℕ) → a ≤ length xs → n ≤ length ys → take a xs ++ take n ys ≡ take (a + n) (put_mid a k xs ys)
take_after a k n xs ys within fits =
    let held = put_mid a k xs ys in
    let rest = ap (take n) (drop_at (take a xs) (ys ++ post_of a k xs) a (length-take-le a xs within)) ∙ take-append-le n ys (post_of a k xs) fits in
    let before = take-put_mid_below a k xs ys a (le_refl a) within in
    sym (take-add a n held ∙ ap (λ l. l ++ take n (drop a held)) before ∙ ap (λ l. take a xs ++ l) rest)
