-- Writing what was read: the image is back, byte by byte.
use Prim.Native.Nat.{ℕ, ◌+◌, ◌*◌, ◌/◌, ◌%◌, ◌^◌, ◌≤◌, ◌<◌}
use mathlib.Core.Path.{◌≡◌, refl, sym, ap, ◌∙◌}
use mathlib.Core.List.{List}
use native.Mathlib.Nat.{div-div-eq-div-mul, div-add-mod'}
use native.Mathlib.Omega.{arith}
use lib.ListN.{length}
use lib.Seq.{take_all}
use Rattle.rules.specs.Words.{cat}
use Rattle.rules.specs.Image.{bytes, be, header, version, actions, levels, cycle, header_spare, record_bytes, record_at, image_bytes}
use Rattle.rules.specs.Image.{mask_of, deadline_of, spare_of, average_of, worst_of, profile, header_of, level_image, record_image, image}
use Rattle.fields.specs.Fields.{part}
use Rattle.fields.proofs.Strides.{stride_fits}
use Rattle.fields.proofs.Bytes.{Bytes, bytes-be}
use Rattle.fields.proofs.Parts.{part_join, cat-part}

-- s is of version 1, no spare bit is set, and it has as many bytes as its counts say
pub record Formed (s : List ℕ) : Type 0 where
  pub version_one : version s ≡ 1
  pub whole : length s ≡ image_bytes (actions s) (levels s)
  pub header_spare_none : header_spare s ≡ 0
  pub spare_none : (a : ℕ) → a < actions s → spare_of s a ≡ 0

-- ---- the header

-- the quotient's own quotient and remainder
step : (h a b : ℕ) → h / (a * b) * b + h / a % b ≡ h / a
step h a b = ap (λ (x : ℕ). x * b + h / a % b) (sym (div-div-eq-div-mul h a b)) ∙ div-add-mod' (h / a) b

-- the fields side by side are the header
joined : (n L c : ℕ) {h q₀ q₁ q₂ q₃ : ℕ} → q₀ * 2 ^ 3 + 0 ≡ h → q₁ * 2 ^ 30 + c ≡ q₀ → q₂ * 2 ^ 4 + L ≡ q₁ → q₃ * 2 ^ 7 + n ≡ q₂ → q₃ ≡ 1
    → ((1 * 2 ^ 7 + n) * 2 ^ 4 + L) * 2 ^ 33 + c * 2 ^ 3 ≡ h
joined n L c e₀ e₁ e₂ e₃ v = omega arith

header-again : {s : List ℕ} → Formed s → header_of (profile s) ≡ header s
unfolding header_of profile version actions levels cycle header_spare
header-again {s} f =
    let h : ℕ = header s in
    joined _ _ _ (omega (arith, f.header_spare_none)) (step h (2 ^ 3) (2 ^ 30)) (step h (2 ^ 33) (2 ^ 4)) (step h (2 ^ 37) (2 ^ 7)) f.version_one

-- ---- the records

module _ {s : List ℕ} (is-bytes : Bytes s) (f : Formed s) where
  module _ (a : ℕ) (l : a < actions s) where
    abbrev at : ℕ
    at = record_at (levels s) a

    within : at + record_bytes (levels s) ≤ length s
    unfolding record_at image_bytes
    within = omega (arith, f.whole, stride_fits a (actions s) (record_bytes (levels s)) l)

    level-again : (q : ℕ) → q < levels s → level_image (profile s) a q ≡ part s (at + 12 + 6 * q) 6
    unfolding level_image profile average_of worst_of record_bytes
    level-again q m =
        let room : at + 18 + 6 * q ≤ length s = omega (arith, within) in
        part_join s (at + 12 + 6 * q) (at + 15 + 6 * q) 3 3 6 (omega arith) refl
        (bytes-be 3 s (at + 12 + 6 * q) is-bytes (omega arith)) (bytes-be 3 s (at + 15 + 6 * q) is-bytes (omega arith))

    levels-again : cat (level_image (profile s) a) (levels s) ≡ part s (at + 12) (levels s * 6)
    levels-again = cat-part s (at + 12) 6 (λ q. at + 12 + 6 * q) (λ q. omega arith) (level_image (profile s) a) (levels s) level-again

    deadline-again : bytes 4 (deadline_of s a * 2 ^ 2) ≡ part s (at + 8) 4
    unfolding deadline_of spare_of record_bytes
    deadline-again =
        let e : be s (at + 8) 4 / 2 ^ 2 * 2 ^ 2 ≡ be s (at + 8) 4 = omega (arith, f.spare_none a l) in
        ap (bytes 4) e ∙ bytes-be 4 s (at + 8) is-bytes (omega (arith, within))

    record_again : record_image (profile s) a ≡ part s at (record_bytes (levels s))
    unfolding record_image profile mask_of record_bytes
    record_again =
        part_join s at (at + 8) 8 (4 + levels s * 6) (12 + 6 * levels s) refl (omega arith)
        (bytes-be 8 s at is-bytes (omega (arith, within)))
        (part_join s (at + 8) (at + 12) 4 (levels s * 6) (4 + levels s * 6) (omega arith) refl deadline-again levels-again)

  -- Writing undoes reading.
  pub read-written : image (profile s) ≡ s
  unfolding image image_bytes record_at header profile actions
  read-written =
      part_join s 0 6 6 (actions s * record_bytes (levels s)) (length s) refl f.whole
      (ap (bytes 6) (header-again f) ∙ bytes-be 6 s 0 is-bytes (omega (arith, f.whole)))
      (cat-part s 6 (record_bytes (levels s)) (record_at (levels s)) (λ a. refl) (record_image (profile s)) (actions s) record_again)
      ∙ take_all (length s) s (omega arith)
