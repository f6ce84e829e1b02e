-- The table of the first durations that are too long, action by action. Assumes nothing.
use Prim.Native.Nat.{ℕ, ◌+◌, ◌*◌, ◌≤◌, ◌<◌}
use mathlib.Core.Path.{◌≡◌, refl, ◌∙◌}
use mathlib.Core.List.{List}
use mathlib.Core.Logic.{◌⊎◌, inl, inr, ⊎_elim}
use native.Mathlib.Nat.{not-suc-le-zero}
use native.Mathlib.Decide.{dec_lt}
use native.Mathlib.Omega.{arith}
use borrow.Author.Count.{below_more}
use lib.ListN.{length, get_or, replicate}
use Rattle.rules.specs.Numbers.{most_actions, most_levels}
use Rattle.rules.specs.Words.{tab}
use Rattle.rules.specs.Image.{worst_of, profile}
use Rattle.fields.specs.Fields.{splice}
use Rattle.fields.proofs.Splice.{getD-splice, getD-splice-before, getD-splice-after, length-splice}
use Rattle.fields.proofs.Tabs.{length-tab, getD-tab}
use Rattle.trace.specs.Trace.{cells, cell_of, Ceilings}
use Rattle.trace.proofs.Tallies.{zeros}
use Rattle.refresh.specs.Refresh.{Ceiled}

pub none_ceiled : (s : List ℕ) (L : ℕ) → Ceiled s 0 L (replicate cells 0)
none_ceiled s L = record {
  size = zeros.size;
  present = λ a q l k. absurd (not-suc-le-zero l);
  absent = λ a q l k h. zeros.at a q l k;
}

-- A row more.
pub more_ceiled : (s table : List ℕ) {after : List ℕ} (a L : ℕ) → a < most_actions → L ≤ most_levels → after ≡ splice table (a * most_levels) (tab (λ q. worst_of s a q + 1) L)
    → Ceiled s a L table → Ceiled s (a + 1) L after
more_ceiled s table {after} a L action few is was = record {
  size = rw is (length-splice table (a * most_levels) row fits ∙ was.size);
  present = λ b q l k. below_more (λ b. (q : ℕ) → q < L → get_or after (cell_of b q) 0 ≡ worst_of s b q + 1) a earlier here b l q k;
  absent = λ b q l k h. other b q l k h (dec_lt b a);
}
  where
    row : List ℕ
    row = tab (λ q. worst_of s a q + 1) L

    long : length row ≡ L
    long = length-tab (λ q. worst_of s a q + 1) L

    fits : a * most_levels + length row ≤ length table
    fits = omega (arith, long, was.size)

    before : (b q : ℕ) → cell_of b q < a * most_levels → get_or after (cell_of b q) 0 ≡ get_or table (cell_of b q) 0
    before b q l = rw is (getD-splice-before table (a * most_levels) row (omega (arith, fits)) (cell_of b q) 0 l)

    earlier : (b : ℕ) → b < a → (q : ℕ) → q < L → get_or after (cell_of b q) 0 ≡ worst_of s b q + 1
    earlier b l q k = before b q (omega arith) ∙ was.present b q l k

    here : (q : ℕ) → q < L → get_or after (cell_of a q) 0 ≡ worst_of s a q + 1
    here q k =
        rw is (getD-splice table (a * most_levels) row (omega (arith, fits)) (cell_of a q) q 0 refl (omega (arith, long)))
        ∙ getD-tab (λ q. worst_of s a q + 1) L q 0 k

    other : (b q : ℕ) → b < most_actions → q < most_levels → (a + 1 ≤ b) ⊎ (L ≤ q) → Dec (b < a) → get_or after (cell_of b q) 0 ≡ 0
    other b q l k h (yes e) = before b q (omega arith) ∙ was.absent b q l k (⊎_elim (λ x. inl (omega arith)) inr h)
    other b q l k h (no e) =
        let behind : a * most_levels + length row ≤ cell_of b q = ⊎_elim (λ x. omega (arith, long)) (λ x. omega (arith, long)) h in
        rw is (getD-splice-after table (a * most_levels) row fits (cell_of b q) 0 behind) ∙ was.absent b q l k (inl (omega arith))

-- By it records are checked against the image.
pub ceilings : (s : List ℕ) (n L : ℕ) {table : List ℕ} → n ≡ (profile s).n → L ≡ (profile s).levels → Ceiled s n L table → Ceilings (profile s) table
unfolding profile
ceilings s n L e f is = record {
  present = λ a q l k. is.present a q (omega arith) (omega arith);
  absent = λ a q l k h. is.absent a q l k (⊎_elim (λ x. inl (omega arith)) (λ x. inr (omega arith)) h);
}
