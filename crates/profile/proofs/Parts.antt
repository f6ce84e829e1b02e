-- The record of an action as a part of its image. Assumes nothing.
use mathlib.Core.Path.{◌≡◌, refl, ap, ◌∙◌}
use mathlib.Core.List.{List, []}
use Prim.Native.Nat.{ℕ, ◌+◌, ◌*◌, ◌/◌, ◌^◌, ◌≤◌, ◌<◌}
use native.Mathlib.Omega.{arith}
use lib.Dec.{eqb, lit<}
use native.Mathlib.Decide.{ℕ_discrete}
use borrow.Author.Tests.{ne_eqb}
use lib.ListN.{length}
use Rattle.rules.specs.Numbers.{refused_name}
use Rattle.rules.specs.Image.{be, levels, record_bytes, record_at, mask_of, deadline_of, average_of, worst_of, profile}
use Rattle.std.specs.Prelude.{Err}
use mathlib.Core.Bool.{false}
use Rattle.rules.specs.Reasons.{number_of, fault_of}
use Rattle.rules.specs.declared.blame.Blame.{Blame}
use Rattle.rules.specs.Refusals.{First, Refuses, kept, lookup_call}
use Rattle.rules.proofs.Reasons.{some_number}
use Rattle.rules.proofs.Refusals.{Sound, accepted-sound}
use Rattle.fields.specs.Fields.{part}
use Rattle.fields.proofs.Strides.{stride_more}
use Rattle.fields.proofs.Parts.{be-part}
use Rattle.image_fields.specs.Reading.{HasRecord}
use Rattle.image_fields.proofs.Reading.{has-records, has_record}
use Rattle.profile.specs.Calls.{Places, placed, record_of}
use Rattle.profile.specs.declared.Place.{Place}
use Rattle.profile.proofs.Answers.{none-given}

-- ---- a lookup with no refusal

-- the image is sound and has the action
pub record Named (s : List ℕ) (a : ℕ) : Type 0 where
  pub sound : Sound s
  pub named : a < (profile s).n

pub named : (s : List ℕ) (a : ℕ) → First (lookup_call s a) 0 → Named s a
named s a p =
    let x = none-given s refused_name ((profile s).n ≤ a) (lit< tt) p in
    let present = x.1 in
    record { sound = (accepted-sound s).0 x.0; named = omega arith }

-- so the image has the action's record
pub has_named : {s : List ℕ} {a : ℕ} → Named s a → HasRecord s (profile s).levels a
has_named {s} {a} x = has_record a (has-records s refl refl x.sound.not_count x.sound.not_length) x.named

pub not_short : {s : List ℕ} → Sound s → 6 ≤ length s
not_short x = let long = x.not_short in omega arith

-- ---- from its start to the start of the next

pub record_next : (L a : ℕ) → record_at L (a + 1) ≡ record_at L a + record_bytes L
unfolding record_at
record_next L a = omega (arith, stride_more a (record_bytes L))

-- ---- the place of a lookup

pub refused-places : {s : List ℕ} {a : ℕ} (b : Blame) → Refuses (lookup_call s a) (fault_of b) → Places s a (placed (Err b))
refused-places b given =
    let some : eqb (number_of b.reason) 0 ≡ false = ne_eqb (number_of b.reason) 0 (some_number b.reason) in
    record { given = given; start = rw some; length = rw some }

module _ (s : List ℕ) (a : ℕ) {r : Place} (x : Places s a r) where
  -- with a refusal it is empty
  nowhere : (r.refusal.number ≡ 0 → ⊥) → (r.start ≡ 0) × (r.length ≡ 0)
  nowhere some =
      let e = ne_eqb r.refusal.number 0 some in
      (rw e at x.start, rw e at x.length)

  -- the part there ends within the image
  pub placed-within : r.start + r.length ≤ length s
  placed-within = by (ℕ_discrete r.refusal.number 0)
    where
      by : Dec (r.refusal.number ≡ 0) → r.start + r.length ≤ length s
      by (yes none) =
          let h = has_named (named s a (rw none at x.given.number)) in
          omega (arith, h.within, rw none at x.start, rw none at x.length)
      by (no some) =
          let (from, size) = nowhere some in
          omega (arith, from, size)

  -- and is what the lookup hands back
  pub placed-part : part s r.start r.length ≡ kept r.refusal.number (record_of s a) []
  placed-part = by (ℕ_discrete r.refusal.number 0)
    where
      by : Dec (r.refusal.number ≡ 0) → part s r.start r.length ≡ kept r.refusal.number (record_of s a) []
      by (yes none) = rw (x.length, x.start, none)
      by (no some) =
          let (from, size) = nowhere some in
          rw (size, ne_eqb r.refusal.number 0 some)

-- ---- the fields of the part

module _ (s : List ℕ) (a : ℕ) where
  pub part-mask : be (record_of s a) 0 8 ≡ mask_of s a
  unfolding profile mask_of record_bytes
  part-mask = be-part s (record_at (levels s) a) (record_bytes (levels s)) 0 8 (omega arith) ∙ ap (λ (at : ℕ). be s at 8) (omega arith)

  pub part-deadline : be (record_of s a) 8 4 / 2 ^ 2 ≡ deadline_of s a
  unfolding profile deadline_of record_bytes
  part-deadline = ap (λ (v : ℕ). v / 2 ^ 2) (be-part s (record_at (levels s) a) (record_bytes (levels s)) 8 4 (omega arith))

  pub part-average : (q : ℕ) → q < (profile s).levels → be (record_of s a) (12 + 6 * q) 3 ≡ average_of s a q
  unfolding profile average_of record_bytes
  part-average q l =
      be-part s (record_at (levels s) a) (record_bytes (levels s)) (12 + 6 * q) 3 (omega arith) ∙ ap (λ (at : ℕ). be s at 3) (omega arith)

  pub part-worst : (q : ℕ) → q < (profile s).levels → be (record_of s a) (15 + 6 * q) 3 ≡ worst_of s a q
  unfolding profile worst_of record_bytes
  part-worst q l =
      be-part s (record_at (levels s) a) (record_bytes (levels s)) (15 + 6 * q) 3 (omega arith) ∙ ap (λ (at : ℕ). be s at 3) (omega arith)
