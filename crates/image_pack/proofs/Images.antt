-- An image and its records from their parts. Assumes nothing.
use Prim.Native.Nat.{ℕ, ◌+◌, ◌*◌, ◌≤◌}
use mathlib.Core.Path.{◌≡◌, refl, ◌∙◌}
use mathlib.Core.List.{List, ◌++◌}
use native.Mathlib.Omega.{arith}
use lib.ListN.{length}
use Rattle.rules.specs.Words.{cat}
use Rattle.rules.specs.Numbers.{header_bytes}
use Rattle.rules.specs.Image.{Profile, bytes, record_at, image_bytes, header_of, level_image, record_image, image}
use Rattle.fields.specs.Fields.{splice}
use Rattle.fields.proofs.Splice.{splice-join}
use Rattle.image_pack.proofs.Sizes.{record_end}

module _ (F : Profile) where
  pub record_written : (l : List ℕ) {l₁ l₂ l₃ : List ℕ} (a at : ℕ) → at ≡ record_at F.levels a
      → image_bytes (a + 1) F.levels ≤ length l
      → length l₁ ≡ length l
      → l₁ ≡ splice l at (bytes 8 (F.mask a))
      → l₂ ≡ splice l₁ (at + 8) (bytes 4 (F.deadline a * 4))
      → l₃ ≡ splice l₂ (at + 12) (cat (level_image F a) F.levels)
      → l₃ ≡ splice l (record_at F.levels a) (record_image F a)
  unfolding record_image
  record_written l {l₁} {l₂} {l₃} a at e room same mask deadline levels =
      let d : List ℕ = bytes 4 (F.deadline a * 4) in
      let t : List ℕ = cat (level_image F a) F.levels in
      let rest : l₃ ≡ splice l₁ (at + 8) (d ++ t) =
      splice-join l₁ (at + 8) d t (at + 12) (omega (arith, record_end F.levels a)) (omega arith) deadline levels in
      splice-join l at (bytes 8 (F.mask a)) (d ++ t) (at + 8) (omega (arith, record_end F.levels a)) refl mask rest ∙ rw e

  pub image-written : (l : List ℕ) {l₁ l₂ : List ℕ} → header_bytes ≤ length l
      → l₁ ≡ splice l 0 (bytes 6 (header_of F))
      → l₂ ≡ splice l₁ header_bytes (cat (record_image F) F.n)
      → l₂ ≡ splice l 0 (image F)
  unfolding image
  image-written l room header records = splice-join l 0 (bytes 6 (header_of F)) (cat (record_image F) F.n) 6 room refl header records
