-- The grounds of refusal 3 to 7 by what the parts of the check say of an image.
use mathlib.Core.Path.{◌≡◌, refl, subst, ◌∙◌}
use mathlib.Core.List.{List}
use mathlib.Core.Logic.{inl, inr, ⊎_elim, ◌↔◌, ◌≢◌}
use Prim.Native.Nat.{ℕ, ◌≤◌, ◌<◌}
use lib.Dec.{lit<}
use lib.ListN.{get_or}
use Rattle.rules.specs.Numbers.{most_actions, refused_spare}
use Rattle.rules.specs.Image.{header_spare, record_at, image_bytes, mask_of, deadline_of, average_of, worst_of, profile}
use Rattle.rules.specs.Refusals.{LowestFault, First, Refuses, CountOut, Count, OutOfRange, RangeFault, RowBreaks, TableFault, SpareFault}
use Rattle.rules.proofs.Refusals.{Numbered, first-none, refuses-none, refuses_on}
use Rattle.rules.proofs.Faults.{some-fault, no_fault, lowest-alike, named-below, named_none}
use Rattle.image_fields.specs.declared.Header.{Header}
use Rattle.image_fields.specs.Reading.{HeaderOf, Opened, Column}
use Rattle.image_fields.proofs.Reading.{has-records}
use Rattle.image_check.specs.Checks.{head_checks, spare_check, record_checks, rest_checks}

-- ---- the numbers of the parts

pub head_numbered : (s : List ℕ) → Numbered (head_checks s)
head_numbered s = (lit< tt, (lit< tt, (lit< tt, tt)))

pub spare-numbered : (s : List ℕ) → Numbered (spare_check s)
spare-numbered s = (lit< tt, tt)

pub record_numbered : (s : List ℕ) → Numbered (record_checks s)
record_numbered s = (lit< tt, (lit< tt, (lit< tt, tt)))

pub rest-numbered : (s : List ℕ) → Numbered (rest_checks s)
rest-numbered s = (lit< tt, (lit< tt, (lit< tt, (lit< tt, tt))))

-- ---- 5, by the lowest record with a spare bit set

module _ (s : List ℕ) {r : ℕ} (low : LowestFault (SpareFault s) (profile s).n r) where
  pub spare_blamed : (profile s).n ≤ most_actions → r < (profile s).n → Refuses (spare_check s) (record { number = refused_spare; action = r })
  spare_blamed few l =
      let some = inr ((some-fault low).0 l) in
      record { number = inl (some, refl); action = inl (some, named-below few low l) }

  module _ (l : (profile s).n ≤ r) where
    pub spare-header : header_spare s ≢ 0 → Refuses (spare_check s) (record { number = refused_spare; action = most_actions })
    spare-header k = record { number = inl (inl k, refl); action = inl (inl k, named_none low l) }

    pub spare_none : header_spare s ≡ 0 → Refuses (spare_check s) (record { number = 0; action = most_actions })
    spare_none e = refuses_on (⊎_elim (λ k. k e) (no_fault (some-fault low) l)) refuses-none

-- ---- by the header that was read

module _ {s : List ℕ} {h : Header} (x : HeaderOf s h) where
  pub count-is : CountOut h.n h.levels h.cycle ↔ Count (profile s)
  unfolding profile
  count-is = rw (x.n, x.levels, x.cycle) ((λ p. p), (λ p. p))

  -- the record after the last one would start where the image ends
  pub length-is : {r : ℕ} → r ≡ record_at h.levels h.n → r ≡ image_bytes (profile s).n (profile s).levels
  unfolding profile record_at image_bytes
  length-is e = e ∙ rw (x.n, x.levels)

  -- the lowest action at fault is the profile's
  lowest-says : (Faulty Faulty' : ℕ → Type 0) → ((a : ℕ) → a < h.n → Faulty a ↔ Faulty' a) → {r : ℕ} → LowestFault Faulty h.n r
      → LowestFault Faulty' (profile s).n r
  unfolding profile
  lowest-says Faulty Faulty' same {r} low = subst (λ (m : ℕ). LowestFault Faulty' m r) x.n (lowest-alike same low)

  pub spare-says : {r : ℕ} → LowestFault (SpareFault s) h.n r → LowestFault (SpareFault s) (profile s).n r
  spare-says = lowest-says (SpareFault s) (SpareFault s) (λ a l. ((λ p. p), (λ p. p)))

  pub range-says : {m d : List ℕ} → Column (mask_of s) h.n m → Column (deadline_of s) h.n d
      → {r : ℕ} → LowestFault (λ a. OutOfRange h.n h.cycle (get_or m a 0) (get_or d a 0)) h.n r → LowestFault (RangeFault (profile s)) (profile s).n r
  unfolding profile
  range-says {m} {d} masks deadlines = lowest-says
      (λ a. OutOfRange h.n h.cycle (get_or m a 0) (get_or d a 0))
      (RangeFault (profile s))
      (λ a l. rw (masks.each a l, deadlines.each a l, x.n, x.cycle) ((λ p. p), (λ p. p)))

  pub table-says : {r : ℕ} → LowestFault (λ a. RowBreaks h.levels (average_of s a) (worst_of s a)) h.n r
      → LowestFault (TableFault (profile s)) (profile s).n r
  unfolding profile
  table-says = lowest-says
      (λ a. RowBreaks h.levels (average_of s a) (worst_of s a))
      (TableFault (profile s))
      (λ a l. rw x.levels ((λ p. p), (λ p. p)))

  -- with none of 2 to 4 the records are there
  pub opened : First (head_checks s) 0 → Opened s h
  unfolding profile
  opened none =
      let (_, (not_count, (not_length, _))) = (first-none (head_checks s) (head_numbered s)).0 none in
      record { header = x; records = has-records s x.n x.levels not_count not_length }
