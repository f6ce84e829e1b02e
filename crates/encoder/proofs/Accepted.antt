-- The encoder's profile is accepted: one test of its image, computed, and its order by name. Assumes nothing.
use Prim.Native.Nat.{ℕ}
use mathlib.Core.Path.{refl}
use mathlib.Core.Bool.{true}
use Rattle.rules.specs.Words.{all_pass, sum, greatest_of, least_of, cat}
use Rattle.rules.specs.Image.{has, due, header, version, actions, levels, cycle, header_spare, record_bytes, record_at, image_bytes, mask_of, deadline_of, spare_of, average_of, worst_of, profile, of_tables, header_of, level_image, record_image, image}
use Rattle.rules.specs.Limits.{margin, mixed, limit}
use Rattle.rules.specs.Refusals.{Accepted}
use Rattle.rules.proofs.Order.OfProfile.{action_at}
use Rattle.rules.proofs.Cases.{placed, named, named-is, orderly, plain, number}
use Rattle.encoder.specs.Times.{masks, deadlines, times, column, encoder}

abbrev chain : ℕ → ℕ
chain k = k

pub accepted : Accepted (image encoder)
unfolding placed action_at all_pass has due plain orderly
    cat image header_of record_image level_image profile of_tables header version actions levels cycle header_spare record_bytes record_at image_bytes mask_of deadline_of spare_of average_of worst_of
    sum greatest_of least_of margin mixed limit masks deadlines times column encoder
accepted = number (image encoder) refl (named (profile (image encoder)) chain refl) (named-is (profile (image encoder)) chain refl) true refl refl
