-- The records of an image: which are there, and how a loop reads a column of them.
use mathlib.Core.Path.{◌≡◌, subst, ◌∙◌}
use mathlib.Core.List.{List}
use mathlib.Core.Logic.{inl, inr}
use Prim.Native.Nat.{ℕ, ◌+◌, ◌≤◌, ◌<◌, zero-le}
use native.Mathlib.Nat.{le_of_suc-le-suc}
use native.Mathlib.Decide.{ℕ_discrete}
use native.Mathlib.Omega.{arith}
use lib.ListN.{length, get_or, set, length-set}
use lib.Seq.{get_or-set_same, get_or-set_other}
use borrow.Author.Count.{below_none, below_more}
use Rattle.rules.specs.Numbers.{longest_time}
use Rattle.rules.specs.Image.{record_bytes, record_at, image_bytes, worst_of, profile}
use Rattle.rules.specs.Refusals.{CountOut, Count, Length, Accepted}
use Rattle.rules.proofs.Differences.{not-above}
use Rattle.rules.proofs.Refusals.{accepted-sound}
use Rattle.fields.proofs.Bytes.{Bytes, be-lt}
use Rattle.fields.proofs.Strides.{stride_fits}
use Rattle.image_fields.specs.Reading.{HasRecord, HasRecords, Column}

-- ---- 3

pub record InRange (n L : ℕ) : Type 0 where
  pub few_actions : n ≤ 64
  pub some_level : 1 ≤ L
  pub few_levels : L ≤ 8

pub in_range : {n L cycle : ℕ} → (CountOut n L cycle → ⊥) → InRange n L
in_range h = record {
  few_actions = not-above (λ l. h (inl (inr (inl l))));
  some_level = not-above (λ l. h (inl (inr (inr (inl l)))));
  few_levels = not-above (λ l. h (inl (inr (inr (inr l)))));
}

-- ---- 3 and 4: without them the records are there

pub has-records : (s : List ℕ) {n L : ℕ} → n ≡ (profile s).n → L ≡ (profile s).levels → (Count (profile s) → ⊥) → (Length s → ⊥)
    → HasRecords s L n
unfolding profile
has-records s e f not_count not_length =
    let ranges : InRange (profile s).n (profile s).levels = in_range not_count in
    record {
      said = f;
      some_level = omega (arith, ranges.some_level);
      few_levels = omega (arith, ranges.few_levels);
      few_actions = omega (arith, ranges.few_actions);
      long = rw (e, f) (equal not_length);
    }
  where
    equal : {a b : ℕ} → ((a ≡ b → ⊥) → ⊥) → a ≡ b
    equal {a} {b} k = elim (ℕ_discrete a b) [ yes e ↦ e | no n ↦ absurd (k n) ]

-- so those of an accepted image are
pub has-accepted : (s : List ℕ) {n L : ℕ} → Accepted s → n ≡ (profile s).n → L ≡ (profile s).levels → HasRecords s L n
has-accepted s a e f =
    let sound = (accepted-sound s).0 a in
    has-records s e f sound.not_count sound.not_length

-- an image with its records has each of them
pub has_record : {s : List ℕ} {L n : ℕ} (a : ℕ) → HasRecords s L n → a < n → HasRecord s L a
unfolding record_at image_bytes
has_record {s} {L} {n} a h l = record {
  said = h.said;
  few_levels = h.few_levels;
  few_actions = omega (arith, h.few_actions);
  within = omega (arith, stride_fits a n (record_bytes L) l, h.long);
}

-- ---- the times

-- in an image of bytes a worst time has 24 bits
pub worst-short : (s : List ℕ) (a q : ℕ) → Bytes s → worst_of s a q ≤ longest_time
unfolding worst_of
worst-short s a q is-bytes = le_of_suc-le-suc (be-lt s _ 3 is-bytes)

-- ---- a loop that fills a column: before it, a turn of it, after it

pub column-none : (f : ℕ → ℕ) (column : List ℕ) → Column f 0 column
column-none f column = record { room = zero-le; each = below_none (λ a. get_or column a 0 ≡ f a) }

pub column-more : (f : ℕ → ℕ) (column : List ℕ) (a : ℕ) {v : ℕ} → a < length column → v ≡ f a → Column f a column
    → Column f (a + 1) (set column a v)
column-more f column a {v} l e was = record {
  room = simp length-set (omega arith);
  each = below_more (λ k. get_or (set column a v) k 0 ≡ f k) a
      (λ k b. get_or-set_other column a k v 0 (λ s. omega arith) ∙ was.each k b)
      (get_or-set_same column a v 0 l ∙ e);
}

pub column_done : {f : ℕ → ℕ} {column : List ℕ} {a n : ℕ} → a ≡ n → Column f a column → Column f n column
column_done {f} {column} e was = subst (λ (k : ℕ). Column f k column) e was
