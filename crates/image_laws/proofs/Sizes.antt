-- How long an image and its parts are.
use Prim.Native.Nat.{ℕ}
use mathlib.Core.Path.{◌≡◌, refl}
use native.Mathlib.Omega.{arith}
use lib.ListN.{length, length-append}
use Rattle.rules.specs.Image.{Profile, record_bytes, image_bytes, level_image, record_image, image}
use Rattle.fields.proofs.Cats.{length-cat}

module _ (F : Profile) where
  pub length-level : (a q : ℕ) → length (level_image F a q) ≡ 6
  unfolding level_image
  length-level a q = refl

  pub length_record : (a : ℕ) → length (record_image F a) ≡ record_bytes F.levels
  unfolding record_image record_bytes
  length_record a = simp length-append (omega (arith, length-cat (level_image F a) 6 (length-level a) F.levels))

  pub length-image : length (image F) ≡ image_bytes F.n F.levels
  unfolding image image_bytes
  length-image = simp length-append (omega (arith, length-cat (record_image F) (record_bytes F.levels) length_record F.n))
