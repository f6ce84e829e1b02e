-- Counts and sums by action and level, one record after another. Assumes nothing.
use Prim.Native.Nat.{ℕ, suc, ◌+◌, ◌*◌, ◌≤◌, ◌<◌}
use mathlib.Core.Path.{◌≡◌, sym, ◌∙◌}
use mathlib.Core.Bool.{Bool, true, false, cond}
use mathlib.Core.List.{List}
use mathlib.Core.Logic.{◌≢◌}
use native.Mathlib.Nat.{add-zero}
use native.Mathlib.Decide.{ℕ_discrete}
use native.Mathlib.Omega.{arith}
use lib.ListN.{get_or, set, replicate, length-set, length-replicate, get_or-replicate}
use lib.Seq.{get_or-set_same, get_or-set_other}
use Rattle.rules.specs.Numbers.{most_actions, most_levels, most_records}
use Rattle.rules.specs.Words.{sum}
use Rattle.rules.specs.Refresh.{records, action_of, level_of, duration_of, measures, counted, summed}
use Rattle.rules.proofs.Tests.{failed}
use Rattle.rules.proofs.Refresh.{measures-only, counted_step, summed-step, counted-most, summed-most}
use Rattle.trace.specs.Trace.{cells, cell_of, IsRecord, Cells, count_worth, tally, gain, Tallied, TallyRoom, Weighs}
use Rattle.trace.specs.declared.Entry.{Entry}
use Rattle.trace.proofs.Entries.{action-lt, level-lt, duration-lt, cell-lt}

-- ---- a table of cells

pub zeros : Cells (replicate cells 0) (λ a q. 0)
zeros = record {
  size = length-replicate {A = ℕ} cells 0;
  at = λ a q l k. get_or-replicate {A = ℕ} cells (cell_of a q) 0 0 (omega arith);
}

-- One entry stored: the table is the new one if nothing else changed.
stored : (f g : ℕ → ℕ → ℕ) (table : List ℕ) (a q v : ℕ) → a < most_actions → q < most_levels → g a q ≡ v
    → ((b p : ℕ) → cell_of b p ≢ cell_of a q → g b p ≡ f b p) → Cells table f → Cells (set table (cell_of a q) v) g
stored f g table a q v la lq here there was = record {
  size = length-set table (cell_of a q) v ∙ was.size;
  at = λ b p lb lp. go b p lb lp (ℕ_discrete (cell_of b p) (cell_of a q));
}
  where
    go : (b p : ℕ) → b < most_actions → p < most_levels → Dec (cell_of b p ≡ cell_of a q) → get_or (set table (cell_of a q) v) (cell_of b p) 0 ≡ g b p
    go b p lb lp (yes e) =
        let action : b ≡ a = omega arith in
        let level : p ≡ q = omega arith in
        rw (action, level) (get_or-set_same table (cell_of a q) v 0 (omega (arith, was.size)) ∙ sym here)
    go b p lb lp (no e) = get_or-set_other table (cell_of a q) (cell_of b p) v 0 e ∙ was.at b p lb lp ∙ sym (there b p e)

-- ---- one record

module _ (trace : List ℕ) (m : ℕ) (e : Entry) (is : IsRecord trace m e) where
  grows : (a q : ℕ) → tally trace (suc m) a q ≡ tally trace m a q + gain trace m a q
  grows a q = rw (counted_step trace a q m, summed-step trace a q m) (go (measures trace a q m))
    where
      go : (b : Bool) → (counted trace a q m + cond b 1 0) * count_worth + (summed trace a q m + cond b (duration_of trace m) 0)
          ≡ tally trace m a q + cond b (count_worth + duration_of trace m) 0
      go true = omega arith
      go false = omega arith

  -- A record measures nothing but its own action and level.
  elsewhere : (a q : ℕ) → cell_of a q ≢ cell_of (action_of trace m) (level_of trace m) → tally trace (suc m) a q ≡ tally trace m a q
  elsewhere a q other =
      let not-here : measures trace a q m ≡ false =
      failed (measures trace a q m) (λ t. let (_, action, level) = measures-only trace a q m t in other (omega arith)) in
      grows a q ∙ rw not-here (add-zero _)

  pub added : (tallies : List ℕ) (x : ℕ) → x ≡ gain trace m (action_of trace m) (level_of trace m) → Tallied trace m tallies
      → Tallied trace (suc m) (set tallies e.cell (get_or tallies e.cell 0 + x))
  added tallies x new was =
      rw is.in_cell
      (stored (tally trace m) (tally trace (suc m)) tallies (action_of trace m) (level_of trace m) _ (action-lt trace m) (level-lt trace m)
      (grows (action_of trace m) (level_of trace m) ∙ rw (new, was.at (action_of trace m) (level_of trace m) (action-lt trace m) (level-lt trace m)))
      elsewhere was)

  -- The tallies of all records that a trace can have fit.
  pub room : (tallies : List ℕ) → m ≤ most_records → Tallied trace m tallies → TallyRoom e tallies
  room tallies few was =
      let a = action_of trace m in
      let q = level_of trace m in
      let here = was.at a q (action-lt trace m) (level-lt trace m) in
      record {
        present = cell-lt is;
        fits = rw is.in_cell (omega (arith, here, is.duration, counted-most trace a q m, summed-most trace a q m, duration-lt trace m));
      }

-- Of no records.
pub none_tallied : (trace : List ℕ) → Tallied trace 0 (replicate cells 0)
unfolding summed counted sum
none_tallied trace = zeros

-- Of all records, if they are few: the sums stay below the counts.
pub weighs : (trace tallies : List ℕ) → records trace ≤ most_records → Tallied trace (records trace) tallies → Weighs trace tallies
weighs trace tallies few was a q l k =
    let here = was.at a q l k in
    let low = summed-most trace a q (records trace) in
    record { count = omega arith; sum = omega arith }
