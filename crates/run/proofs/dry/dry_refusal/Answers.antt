-- The row of refusals, ground by ground. Assumes nothing.
use Prim.Native.Nat.{ℕ}
use mathlib.Core.Path.{refl, sym}
use mathlib.Core.List.{List, []}
use mathlib.Core.Logic.{inl, inr}
use native.Mathlib.Omega.{arith}
use Rattle.rules.specs.Limits.{LentTables}
use Rattle.rules.specs.Refusals.{Tight}
use Rattle.run.proofs.Ranges.{Counts, fit_counts}
use Rattle.run.specs.Dry.{DryLists, dry_rooms}
use Rattle.rules.proofs.Recording.{one-long, none-long}
use Rattle.run.proofs.dry.Refusing.{counts_in, unfit-counts-out, few-cells, tested_tight, tested_roomy}
use Rattle.run.proofs.dry.dry_refusal.Goals as goal
use Rattle.run.proofs.dry.dry_refusal.Goals.{Else-not-counts_fit, Else-limits-cells}

abbrev lent : Else-not-counts_fit → LentTables
lent c = record { order = []; limits = c.args.limits.now; worst = c.args.worst.now; bounds = c.args.bounds.now }

abbrev lists : Else-not-counts_fit → DryLists
lists c = record { levels = c.args.given.now; decided = c.args.marks.now }

abbrev durations : Else-not-counts_fit → List ℕ
durations c = c.args.durations.now

counted : (c : Else-not-counts_fit) → Counts c.args.n c.args.levels
counted c = fit_counts _ _ c.if-not-counts_fit.ensures

-- after the second, room
abbrev tables : Else-limits-cells → LentTables
tables c = record { order = []; limits = c.args.limits.now; worst = c.args.worst.now; bounds = c.args.bounds.now }

abbrev written : Else-limits-cells → DryLists
written c = record { levels = c.args.given.now; decided = c.args.marks.now }

roomy : (c : Else-limits-cells) → Tight (dry_rooms c.args.n c.args.levels (tables c) c.args.durations.now (written c)) → ⊥
roomy c = tested_roomy _ _ (tables c) c.args.durations.now (written c) c.if-limits-cells.false

pub returns-then-not-counts_fit : goal.returns-then-not-counts_fit
returns-then-not-counts_fit c = inl (unfit-counts-out _ _ c.if-not-counts_fit.ensures, refl)

pub overflow_mul-cells : goal.overflow_mul-cells
overflow_mul-cells c = omega (arith, few-cells (counted (goal.at.overflow_mul-cells c).Else-not-counts_fit))

pub overflow_mul-cells-2 : goal.overflow_mul-cells-2
overflow_mul-cells-2 c = omega (arith, few-cells (counted (goal.at.overflow_mul-cells-2 c).Else-not-counts_fit))

pub returns-then-limits-cells : goal.returns-then-limits-cells
returns-then-limits-cells c = inr (counts_in (counted (goal.at.returns-then-limits-cells c).Else-not-counts_fit), inl (tested_tight _ _ (lent (goal.at.returns-then-limits-cells c).Else-not-counts_fit) (durations (goal.at.returns-then-limits-cells c).Else-not-counts_fit) (lists (goal.at.returns-then-limits-cells c).Else-not-counts_fit) c.if-limits-cells.true, refl))

pub returns-then-all_short : goal.returns-then-all_short
returns-then-all_short c =
    inr (
      counts_in (counted (goal.at.returns-then-all_short c).Else-not-counts_fit),
      inr (roomy (goal.at.returns-then-all_short c).Else-limits-cells, inr (none-long _ (durations (goal.at.returns-then-all_short c).Else-not-counts_fit) (sym c.if-all_short.ensures), refl)),
    )

pub returns : goal.returns
returns c =
    inr (
      counts_in (counted (goal.at.returns c).Else-not-counts_fit),
      inr (roomy (goal.at.returns c).Else-limits-cells, inl (one-long _ (durations (goal.at.returns c).Else-not-counts_fit) (sym c.if-all_short.ensures), refl)),
    )
