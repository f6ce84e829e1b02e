-- The first of n actions, and where the record of an action ends. Assumes nothing.
use Prim.Native.Nat.{ℕ, ◌+◌, ◌*◌, ◌≤◌}
use mathlib.Core.Path.{◌≡◌}
use native.Mathlib.Nat.{mul-le-mul_right}
use native.Mathlib.Omega.{arith}
use Rattle.rules.specs.Image.{record_bytes, record_at, image_bytes}
use Rattle.fields.proofs.Strides.{stride_more}
use Rattle.rules.specs.Image.{ProfileTables}
use Rattle.image_pack.specs.Packing.{Roomy}

pub roomy_first : {n L : ℕ} {T : ProfileTables} (m : ℕ) → m ≤ n → Roomy n L T
    → Roomy m L T
roomy_first {n} {L} m h x = record {
  few_actions = omega (arith, x.few_actions);
  few_levels = x.few_levels;
  masks_room = omega (arith, x.masks_room);
  deadlines_room = omega (arith, x.deadlines_room);
  averages_room = omega (arith, x.averages_room, mul-le-mul_right L h);
  worst_room = omega (arith, x.worst_room, mul-le-mul_right L h);
}

pub image-first : (m n L : ℕ) → m ≤ n → image_bytes m L ≤ image_bytes n L
unfolding image_bytes
image-first m n L h = omega (arith, mul-le-mul_right (record_bytes L) h)

pub record_end : (L a : ℕ) → record_at L a + (12 + L * 6) ≡ image_bytes (a + 1) L
unfolding record_at image_bytes record_bytes
record_end L a = omega (arith, stride_more a (12 + 6 * L))
