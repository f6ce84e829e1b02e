-- Reading what was written: every field is back.
use Prim.Native.Nat.{ℕ, zero, suc, ◌+◌, ◌*◌, ◌/◌, ◌%◌, ◌^◌, ◌≤◌, ◌<◌}
use mathlib.Core.Path.{◌≡◌, refl, sym, ap, ◌∙◌}
use mathlib.Core.Bool.{true}
use mathlib.Core.List.{◌++◌}
use mathlib.Core.Logic.{inl, inr}
use native.Mathlib.Nat.{le_refl, div-one, div-lt_iff_lt-mul, lt_of_le_of_lt as below, lt_of_lt_of_le as below-le}
use native.Mathlib.Omega.{arith}
use lib.Dec.{lit<}
use lib.Pow.{pow_mono, pow_pos, shr-shr}
use borrow.Author.Tests.{eq-eqb}
use Rattle.rules.specs.Words.{cat}
use Rattle.rules.specs.Image.{Profile, has, bytes, be, header, version, actions, levels, cycle, header_spare, record_bytes, record_at}
use Rattle.rules.specs.Image.{mask_of, deadline_of, spare_of, average_of, worst_of, profile, header_of, level_image, record_image, image}
use Rattle.rules.specs.Refusals.{Count, Range}
use Rattle.rules.proofs.Differences.{not-above}
use Rattle.rules.proofs.Faults.{TimeOut}
use Rattle.fields.proofs.Holds.{Holds, whole, left, right, reads-lt}
use Rattle.fields.proofs.Cats.{nth}
use Rattle.image_laws.proofs.Sizes.{length-level, length_record}
use Rattle.image_laws.proofs.Same.{Same}

-- ---- what an image has bits for

pub record InRange (F : Profile) : Type 0 where
  pub n : F.n < 2 ^ 7
  pub levels : F.levels < 2 ^ 4
  pub cycle : F.cycle < 2 ^ 30
  pub mask : (a : ℕ) → a < F.n → F.mask a < 2 ^ 64
  pub deadline : (a : ℕ) → a < F.n → F.deadline a < 2 ^ 30
  pub average : (a q : ℕ) → a < F.n → q < F.levels → F.average a q < 2 ^ 24
  pub worst : (a q : ℕ) → a < F.n → q < F.levels → F.worst a q < 2 ^ 24

-- a number with no bit set is 0
no_bits : (k x : ℕ) → x ≤ k → ((b : ℕ) → x / 2 ^ b % 2 ≡ 1 → ⊥) → x ≡ 0
no_bits zero x h none = omega arith
no_bits (suc k) x h none =
    let half : x / 2 ≡ 0 = no_bits k (x / 2) (omega arith) (λ b e. none (1 + b) (ap (λ (v : ℕ). v % 2) (sym (shr-shr x 1 b)) ∙ e)) in
    let low : x % 2 ≡ 1 → ⊥ = λ e. none 0 (ap (λ (v : ℕ). v % 2) (div-one x) ∙ e) in
    omega arith

-- a mask that names no action n or more is below 2 ^ n
mask_lt : (n s : ℕ) → ((b : ℕ) → n ≤ b → has s b ≡ true → ⊥) → s < 2 ^ n
unfolding has
mask_lt n s none =
    let bit : (b : ℕ) → s / 2 ^ n / 2 ^ b % 2 ≡ 1 → ⊥ =
    λ b e. none (n + b) (omega arith) (eq-eqb (s / 2 ^ (n + b) % 2) 1 (ap (λ (v : ℕ). v % 2) (sym (shr-shr s n b)) ∙ e)) in
    let high : s / 2 ^ n ≡ 0 = no_bits (s / 2 ^ n) (s / 2 ^ n) (le_refl _) bit in
    omega (arith, (div-lt_iff_lt-mul {x = s} {y = 1} (pow_pos n)).0 (omega arith))

-- A profile of which no ground of refusal 3 or 6 holds on writing is in range.
pub in_range : {F : Profile} → (Count F → ⊥) → (Range F → ⊥) → (TimeOut F → ⊥) → InRange F
in_range {F} count range time-out = record {
  n = below (not-above few) (lit< tt);
  levels = below (not-above (λ h. count (inl (inr (inr (inr h)))))) (lit< tt);
  cycle = cycle_in;
  mask = λ a l. below-le (mask_lt F.n (F.mask a) (λ b h e. range (a, l, inr (b, h, e)))) (pow_mono (not-above few));
  deadline = λ a l. below (not-above (λ h. range (a, l, inl h))) cycle_in;
  average = λ a q l m. below (not-above (λ h. time-out (a, l, (q, m, inl h)))) (lit< tt);
  worst = λ a q l m. below (not-above (λ h. time-out (a, l, (q, m, inr h)))) (lit< tt);
}
  where
    few : 64 < F.n → ⊥
    few h = count (inl (inr (inl h)))

    cycle_in : F.cycle < 2 ^ 30
    cycle_in = below (not-above (λ h. count (inr (inr h)))) (lit< tt)

-- ---- what stands where

module _ (F : Profile) where
  head_there : Holds (image F) 0 (bytes 6 (header_of F))
  unfolding image
  head_there = left (bytes 6 (header_of F)) (cat (record_image F) F.n) (whole (image F))

  records_there : Holds (image F) 6 (cat (record_image F) F.n)
  unfolding image
  records_there = right (bytes 6 (header_of F)) (cat (record_image F) F.n) 6 refl (whole (image F))

  module _ (a : ℕ) (l : a < F.n) where
    record_there : Holds (image F) (record_at F.levels a) (record_image F a)
    unfolding record_at
    record_there = nth (record_image F) (record_bytes F.levels) (length_record F) F.n records_there a _ l refl

    mask_there : Holds (image F) (record_at F.levels a) (bytes 8 (F.mask a))
    unfolding record_image
    mask_there = left (bytes 8 (F.mask a)) _ record_there

    rest_there : Holds (image F) (record_at F.levels a + 8) (bytes 4 (F.deadline a * 2 ^ 2) ++ cat (level_image F a) F.levels)
    unfolding record_image
    rest_there = right (bytes 8 (F.mask a)) _ _ refl record_there

    deadline_there : Holds (image F) (record_at F.levels a + 8) (bytes 4 (F.deadline a * 2 ^ 2))
    deadline_there = left (bytes 4 (F.deadline a * 2 ^ 2)) (cat (level_image F a) F.levels) rest_there

    module _ (q : ℕ) (m : q < F.levels) where
      level_there : Holds (image F) (record_at F.levels a + 12 + 6 * q) (level_image F a q)
      level_there =
          nth (level_image F a) 6 (length-level F a) F.levels
          (right (bytes 4 (F.deadline a * 2 ^ 2)) (cat (level_image F a) F.levels) (record_at F.levels a + 12) (omega arith) rest_there)
          q _ m (omega arith)

      average_there : Holds (image F) (record_at F.levels a + 12 + 6 * q) (bytes 3 (F.average a q))
      unfolding level_image
      average_there = left (bytes 3 (F.average a q)) (bytes 3 (F.worst a q)) level_there

      worst_there : Holds (image F) (record_at F.levels a + 15 + 6 * q) (bytes 3 (F.worst a q))
      unfolding level_image
      worst_there = right (bytes 3 (F.average a q)) (bytes 3 (F.worst a q)) _ (omega arith) level_there

-- ---- what is read

module _ {F : Profile} (r : InRange F) where
  header_back : header (image F) ≡ header_of F
  unfolding header header_of
  header_back = reads-lt 6 (header_of F) (omega (arith, r.n, r.levels, r.cycle)) (head_there F)

  pub version_back : version (image F) ≡ 1
  unfolding version header_of
  version_back = rw header_back (omega (arith, r.n, r.levels, r.cycle))

  pub actions_back : actions (image F) ≡ F.n
  unfolding actions header_of
  actions_back = rw header_back (omega (arith, r.n, r.levels, r.cycle))

  pub levels_back : levels (image F) ≡ F.levels
  unfolding levels header_of
  levels_back = rw header_back (omega (arith, r.n, r.levels, r.cycle))

  pub cycle_back : cycle (image F) ≡ F.cycle
  unfolding cycle header_of
  cycle_back = rw header_back (omega (arith, r.n, r.levels, r.cycle))

  pub header_spare_back : header_spare (image F) ≡ 0
  unfolding header_spare header_of
  header_spare_back = rw header_back (omega (arith, r.n, r.levels, r.cycle))

  -- the deadline's four bytes, with the two spare bits
  bits_back : (a : ℕ) → a < F.n → be (image F) (record_at (levels (image F)) a + 8) 4 ≡ F.deadline a * 2 ^ 2
  bits_back a l =
      ap (λ (L : ℕ). be (image F) (record_at L a + 8) 4) levels_back
      ∙ reads-lt 4 (F.deadline a * 2 ^ 2) (omega (arith, r.deadline a l)) (deadline_there F a l)

  pub spare_back : (a : ℕ) → a < F.n → spare_of (image F) a ≡ 0
  unfolding spare_of
  spare_back a l = ap (λ (v : ℕ). v % 2 ^ 2) (bits_back a l) ∙ omega arith

  -- Reading undoes writing.
  pub written_read : Same F (profile (image F))
  unfolding profile mask_of deadline_of average_of worst_of
  written_read = record {
    n = sym actions_back;
    levels = sym levels_back;
    cycle = sym cycle_back;
    mask = λ a l. sym (at (λ L. be (image F) (record_at L a) 8) (reads-lt 8 (F.mask a) (r.mask a l) (mask_there F a l)));
    deadline = λ a l. sym (ap (λ (v : ℕ). v / 2 ^ 2) (bits_back a l) ∙ omega arith);
    average = λ a q l m. sym
        (at (λ L. be (image F) (record_at L a + 12 + 6 * q) 3) (reads-lt 3 (F.average a q) (r.average a q l m) (average_there F a l q m)));
    worst = λ a q l m. sym
        (at (λ L. be (image F) (record_at L a + 15 + 6 * q) 3) (reads-lt 3 (F.worst a q) (r.worst a q l m) (worst_there F a l q m)));
  }
    where
      -- a field whose place goes by the image's own levels
      at : (field : ℕ → ℕ) {v : ℕ} → field F.levels ≡ v → field (levels (image F)) ≡ v
      at field e = ap field levels_back ∙ e
