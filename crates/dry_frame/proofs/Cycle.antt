-- The cycle that the dry run makes of the planner's tables, as they lie in memory, is the cycle of the rules, and keeps demand 3. Assumes nothing.
use Prim.Native.Nat.{ℕ, suc, ◌+◌, ◌≤◌, ◌<◌}
use mathlib.Core.Path.{◌≡◌, refl, ap, sym, subst, ◌∙◌}
use mathlib.Core.List.{List, []}
use native.Mathlib.Nat.{le_refl}
use native.Mathlib.Omega.{arith}
use lib.ListN.{get_or}
use Rattle.rules.specs.Numbers.{longest_coast}
use Rattle.rules.specs.Words.{sum, tab, one_if}
use Rattle.rules.specs.Image.{Profile, profile}
use Rattle.rules.specs.Order.{Order, TheOrder, Fit}
use Rattle.rules.specs.Limits.{tables, LentTables, planner_tables, planned}
use Rattle.rules.specs.Refusals.{Table}
use Rattle.rules.specs.Run.{Run, decides, lent}
use Rattle.rules.specs.Dry.{before, cell, dry_levels, dry_marks, dry_end}
use Rattle.rules.specs.Demand.{Kept}
use Rattle.rules.proofs.Sums.{sum_same}
use Rattle.rules.proofs.Accepted as accepted
use Rattle.rules.proofs.Demand.Record.{decisions_are}
use Rattle.rules.proofs.Demand.Alike.{before-alike}
use Rattle.rules.proofs.Demand.Along.{kept-alike}
use Rattle.fields.specs.Fields.{splice}
use Rattle.fields.proofs.Tabs.{tab_ext}
use Rattle.fields.proofs.Written.{tab-written}
use Rattle.planner.specs.Planning.{with_fronts}
use Rattle.planner.proofs.Reading.{reads-plan, reads-worst}
use Rattle.dry_frame.specs.declared.Framed.{Framed}
use Rattle.dry_frame.specs.Frame.{FrameLists, run_at, level_got, time_taken, Promised}

-- ---- the two cycles

-- the tables as the dry run takes them, without the order
abbrev pub unordered : LentTables → LentTables
unordered T = record { order = []; limits = T.limits; worst = T.worst; bounds = T.bounds }

module _ (s : List ℕ) (policy : ℕ) (durations : List ℕ) (o : Order (profile s).n) (old : LentTables) {T : LentTables}
    (e : T ≡ with_fronts old (planner_tables policy (profile s) o)) (some : 0 < (profile s).levels) where
  -- their records
  pub same-run : (i : ℕ) → i ≤ (profile s).n → let L = (profile s).levels in
      before longest_coast (lent (profile s).n L T) (cell T.worst L) (cell durations L) 0 i ≡ run_at s policy durations o i
  unfolding lent
  same-run = before-alike (reads-plan policy (profile s) o old e) some _ _ (cell durations (profile s).levels) (reads-worst policy (profile s) o old e) 0

  -- what the dry run writes and answers
  pub same_levels : dry_levels (profile s).n (profile s).levels (unordered T) durations
      ≡ tab (λ j. (run_at s policy durations o (suc j)).level) (profile s).n
  unfolding dry_levels lent
  same_levels = tab_ext _ _ (profile s).n (λ j l. ap (λ (r : Run). r.level) (same-run (suc j) l))

  pub same_marks : dry_marks (profile s).n (profile s).levels (unordered T) durations
      ≡ tab (λ j. one_if (decides (run_at s policy durations o j))) (profile s).n
  unfolding dry_marks lent
  same_marks = tab_ext _ _ (profile s).n (λ j l. ap (λ (r : Run). one_if (decides r)) (same-run j (omega arith)))

  pub same_end : dry_end (profile s).n (profile s).levels (unordered T) durations ≡ run_at s policy durations o (profile s).n
  unfolding dry_end lent
  same_end = same-run (profile s).n (le_refl _)

-- ---- the lists and the answer after the cycle of any profile in an order, a body unrolled too

-- the record before position i
abbrev pub cycle_at : (policy : ℕ) (F : Profile) (durations : List ℕ) → Order F.n → ℕ → Run
cycle_at policy F durations o i = before longest_coast (planned policy (tables F o)) (tables F o).worst (cell durations F.levels) 0 i

-- what the cycle wrote, and what is answered of its last record
pub record Cycled (policy : ℕ) (F : Profile) (durations : List ℕ) (o : Order F.n) (before after : FrameLists) (r : Framed) : Type 0 where
  pub levels : after.levels ≡ splice before.levels 0 (tab (λ j. (cycle_at policy F durations o (suc j)).level) F.n)
  pub decided : after.decided ≡ splice before.decided 0 (tab (λ j. one_if (decides (cycle_at policy F durations o j))) F.n)
  pub decisions : r.decisions ≡ (cycle_at policy F durations o F.n).decisions
  pub end : r.end ≡ (cycle_at policy F durations o F.n).clock
  pub overrun : r.overrun ≡ (cycle_at policy F durations o F.n).overrun
  pub late : r.late ≡ (cycle_at policy F durations o F.n).late

module _ {policy : ℕ} {F : Profile} {durations : List ℕ} {o : Order F.n} {before after : FrameLists} {r : Framed}
    (c : Cycled policy F durations o before after r) where
  got-is : (j : ℕ) → j < F.n → (cycle_at policy F durations o (suc j)).level ≡ level_got after j
  got-is j l = sym (tab-written (λ j. (cycle_at policy F durations o (suc j)).level) before.levels F.n 0 c.levels j l)

  took-is : (j : ℕ) → j < F.n → cell durations F.levels j (cycle_at policy F durations o (suc j)).level ≡ time_taken durations F.levels after j
  took-is j l = ap (cell durations F.levels j) (got-is j l)

  pub count-is : r.decisions ≡ sum F.n (λ j. get_or after.decided j 0)
  count-is =
      let S = tables F o in
      let mark : (ℕ → ℕ) = λ j. one_if (decides (cycle_at policy F durations o j)) in
      c.decisions
      ∙ decisions_are longest_coast (planned policy S) S.worst (cell durations F.levels) 0 F.n
      ∙ sum_same F.n _ _ (λ j l. sym (tab-written mark before.decided F.n 0 c.decided j l))

  -- Demand 3 of what was given and answered, where a fit profile has it of the record.
  pub promise : 0 < F.levels → (table : Table F → ⊥) → (x : TheOrder F o) → Fit F
      → ((j : ℕ) → j < F.n → time_taken durations F.levels after j ≤ (tables F o).worst j (level_got after j))
      → Promised policy (tables F o) (time_taken durations F.levels after) (level_got after) r
  promise level table x fit within =
      let P = accepted.policy x level table policy in
      let took = time_taken durations F.levels after in
      let three = accepted.fit_demand x level table policy 0 fit (cell durations F.levels) (λ j l. rw (got-is j l) (within j l)) in
      record {
        policy = P;
        chosen = refl;
        kept = subst (Kept longest_coast P 0 took (level_got after)) (sym c.decisions) (kept-alike _ _ took-is got-is three.kept);
        ends = c.end ∙ three.ends ∙ ap (λ (x : ℕ). 0 + x) (sum_same F.n _ _ took-is);
        no_overrun = c.overrun ∙ three.no_overrun;
        no_late = c.late ∙ three.no_late;
      }
