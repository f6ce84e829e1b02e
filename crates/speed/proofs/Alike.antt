-- The reading depends on nothing but the deadline of the last position and the times up to it. Assumes nothing.
use Prim.Native.Nat.{ℕ, ◌≤◌}
use mathlib.Core.Path.{◌≡◌, ap, ap₂}
use native.Mathlib.Nat.{le_refl}
use native.Mathlib.Omega.{arith}
use lib.IntN.{pos, ◌-ℤ◌}
use Rattle.rules.specs.Image.{Profile, due}
use Rattle.rules.specs.Limits.{Tables}
use Rattle.rules.specs.Speed.{room, reading_by, reading}
use Rattle.rules.proofs.Limits.Alike.{Same, average-same, margin-same, mixed-same}
use Rattle.speed.specs.Speed.{OnTime, by_position}

module _ {S T : Tables} {k q : ℕ} (same : Same S T k q) where
  room-same : (i t : ℕ) → i ≤ k → room S i k q t ≡ room T i k q t
  unfolding room
  room-same i t l = ap₂ (λ (d m : ℕ). pos d -ℤ pos m -ℤ pos t) same.deadline (margin-same same i l)

  pub reading-same : (i t : ℕ) → i ≤ k → reading S i k q t ≡ reading T i k q t
  unfolding reading
  reading-same i t l = ap₂ reading_by (average-same same i (omega arith)) (room-same i t l)

  pub on_time-same : (i t : ℕ) → i ≤ k → OnTime S i k q t → OnTime T i k q t
  on_time-same i t l (above, most) = (rw (room-same i t l) at above, rw (same.deadline, mixed-same same i l) at most)

-- so the same actions up to k
pub same-actions : (F : Profile) (f g : ℕ → ℕ) (k q : ℕ) → ((p : ℕ) → p ≤ k → f p ≡ g p) → Same (by_position F f) (by_position F g) k q
same-actions F f g k q h = record {
  deadline = ap (due F) (h k (le_refl k));
  average = λ p l. ap (λ (a : ℕ). F.average a q) (h p l);
  worst = λ p l. ap (λ (a : ℕ). F.worst a q) (h p l);
  worst0 = λ p l. ap (λ (a : ℕ). F.worst a 0) (h p l);
}
