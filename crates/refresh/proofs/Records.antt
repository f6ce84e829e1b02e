-- The records of a copy of an image, and their new averages. Assumes nothing.
use Prim.Native.Nat.{ℕ, ◌+◌, ◌*◌, ◌≤◌, ◌<◌, zero-le}
use mathlib.Core.Path.{◌≡◌, refl, sym, ap, subst, ◌∙◌}
use mathlib.Core.List.{List, ◌++◌}
use native.Mathlib.Omega.{arith}
use lib.ListN.{length, get_or, length-append}
use Rattle.rules.specs.Words.{cat, tab}
use Rattle.rules.specs.Numbers.{header_bytes}
use Rattle.rules.specs.Image.{Profile, bytes, levels, record_bytes, record_at}
use Rattle.rules.specs.Image.{profile, header_of, level_image, record_image, image}
use Rattle.rules.specs.Refusals.{Accepted}
use Rattle.rules.specs.Refresh.{new_average, refreshed, new_image}
use Rattle.fields.specs.Fields.{splice}
use Rattle.fields.proofs.Bytes.{Bytes}
use Rattle.fields.proofs.Holds.{Holds, right}
use Rattle.fields.proofs.Splice.{of-splice}
use Rattle.fields.proofs.Copies.{same-again, rest-stays, front-stays, written_over, behind}
use Rattle.fields.proofs.Tabs.{tab-is}
use Rattle.fields.proofs.Cats.{length-cat, nth, cat-more}
use Rattle.image_laws.proofs.Sizes.{length-level, length_record, length-image}
use Rattle.image_laws.proofs.Again.{read-written}
use Rattle.image_laws.proofs.Accepts.{accepted_formed}
use Rattle.refresh.specs.Refresh.{Copied}

-- ---- one record

-- A slice with a copy of it has it.
pub held : (s out : List ℕ) (a : ℕ) → record_at (levels s) a ≤ length out → Copied s out a
    → Holds out (record_at (levels s) a) (record_image (profile s) a)
held s out a room copied =
    subst (λ (l : List ℕ). Holds l (record_at (levels s) a) (record_image (profile s) a)) copied
    (of-splice out (record_at (levels s) a) (record_image (profile s) a) room)

module _ (F : Profile) (trace : List ℕ) (a : ℕ) {out : List ℕ} {at : ℕ} (has : Holds out at (record_image F a)) where
  abbrev old : ℕ → List ℕ
  old = level_image F a

  abbrev new : ℕ → List ℕ
  new = level_image (refreshed F trace) a

  abbrev deadline : List ℕ
  deadline = bytes 4 (F.deadline a * 4)

  length-old : (n : ℕ) → length (cat old n) ≡ n * 6
  length-old = length-cat old 6 (length-level F a)

  length-new : (n : ℕ) → length (cat new n) ≡ n * 6
  length-new = length-cat new 6 (length-level (refreshed F trace) a)

  deadline_on : Holds out (at + 8) (deadline ++ cat old F.levels)
  unfolding record_image
  deadline_on = right (bytes 8 (F.mask a)) _ _ refl has

  levels_on : Holds out (at + 12) (cat old F.levels)
  levels_on = right deadline (cat old F.levels) _ (omega arith) deadline_on

  -- a turn of the loop over the levels: the worst time stands behind the average already
  pub level-more : (q i v : ℕ) {out₁ out₂ : List ℕ} → q < F.levels → i ≡ at + 12 + q * 6 → v ≡ new_average F trace a q → i ≤ length out
      → out₁ ≡ splice out (at + 12) (cat new q) → out₂ ≡ splice out₁ i (bytes 3 v) → out₂ ≡ splice out (at + 12) (cat new (q + 1))
  unfolding refreshed level_image
  level-more q i v {out₁} l e average room was is =
      cat-more new 6 (length-level (refreshed F trace) a) out (at + 12) i q (omega arith) e was
      (is ∙ rw average (rest-stays _ (bytes 3 (F.average a q)) (bytes 3 (F.worst a q)) refl here))
    where
      here : Holds out₁ i (old q)
      here = rw was (behind (at + 12) (cat new q) (omega (arith, length-new q)) (nth old 6 (length-level F a) F.levels levels_on q i l e))

  -- after it: the mask and the deadline stand before the levels already
  pub levels_all : {out₁ : List ℕ} → out₁ ≡ splice out (at + 12) (cat new F.levels) → out₁ ≡ splice out at (record_image (refreshed F trace) a)
  unfolding refreshed record_image
  levels_all is =
      let same : length (cat new F.levels) ≡ length (cat old F.levels) = length-new F.levels ∙ sym (length-old F.levels) in
      is
      ∙ front-stays deadline (cat new F.levels) (cat old F.levels) (at + 12) (omega arith) same deadline_on
      ∙ front-stays (bytes 8 (F.mask a)) (deadline ++ cat new F.levels) (deadline ++ cat old F.levels) (at + 8) refl
      (simp length-append (omega (arith, same))) has

-- ---- all records

-- a turn of the loop over the actions: the record of action a is still the copy
pub record_more : (s trace : List ℕ) (a : ℕ) {out out₁ out₂ : List ℕ} → record_at (levels s) a ≤ length out → Copied s out a
    → out₁ ≡ splice out header_bytes (cat (record_image (refreshed (profile s) trace)) a)
    → (Copied s out₁ a → out₂ ≡ splice out₁ (record_at (levels s) a) (record_image (refreshed (profile s) trace) a))
    → out₂ ≡ splice out header_bytes (cat (record_image (refreshed (profile s) trace)) (a + 1))
unfolding refreshed profile record_at
record_more s trace a {out} {out₁} room copied was is =
    cat-more (record_image G) (record_bytes (levels s)) (length_record G) out header_bytes (record_at (levels s) a) a room refl was
    (is (same-again _ here))
  where
    G : Profile
    G = refreshed (profile s) trace

    here : Holds out₁ (record_at (levels s) a) (record_image (profile s) a)
    here =
        let size = length-cat (record_image G) (record_bytes (levels s)) (length_record G) a in
        rw was (behind header_bytes (cat (record_image G) a) (omega (arith, size)) (held s out a room copied))

-- ---- the image

-- A slice that begins with a copy of an accepted image.
module _ (s : List ℕ) (is-bytes : Bytes s) (accepted : Accepted s) (lent : List ℕ) {out : List ℕ}
    (is : out ≡ splice lent 0 (tab (λ k. get_or s k 0) (length s))) where
  copy : out ≡ splice lent 0 s
  copy = is ∙ ap (splice lent 0) (sym (tab-is (λ k. get_or s k 0) s 0 (length s) refl (λ k l. refl)))

  again : image (profile s) ≡ s
  again = read-written is-bytes (accepted_formed s accepted)

  on : Holds out 0 (image (profile s))
  on = rw (copy, again) (of-splice lent 0 s zero-le)

  pub copies : (n : ℕ) → n ≡ (profile s).n → (a : ℕ) → a < n → Copied s out a
  unfolding image profile record_at
  copies n e a l =
      let F : Profile = profile s in
      let records = right (bytes 6 (header_of F)) (cat (record_image F) F.n) 6 refl on in
      same-again _ (nth (record_image F) (record_bytes (levels s)) (length_record F) F.n records a (record_at (levels s) a) (omega arith) refl)

  -- with all records renewed it begins with the new image
  pub new-written : (trace : List ℕ) (n : ℕ) {after : List ℕ} → n ≡ (profile s).n
      → after ≡ splice out header_bytes (cat (record_image (refreshed (profile s) trace)) n) → after ≡ splice lent 0 (new_image s trace)
  unfolding new_image refreshed header_of image
  new-written trace n e new =
      new
      ∙ ap (λ (m : ℕ). splice out 6 (cat (record_image G) m)) e
      ∙ front-stays (bytes 6 (header_of F)) (cat (record_image G) F.n) (cat (record_image F) F.n) 6 refl records on
      ∙ ap (λ (l : List ℕ). splice l 0 (image G)) copy
      ∙ written_over lent s (image G) 0 zero-le (length-image G ∙ sym (length-image F) ∙ ap length again)
    where
      F : Profile
      F = profile s

      G : Profile
      G = refreshed F trace

      records : length (cat (record_image G) F.n) ≡ length (cat (record_image F) F.n)
      records =
          length-cat (record_image G) (record_bytes F.levels) (length_record G) F.n
          ∙ sym (length-cat (record_image F) (record_bytes F.levels) (length_record F) F.n)
