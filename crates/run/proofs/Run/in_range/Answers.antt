-- Each return is judged by the ranges as a whole. Assumes nothing.
use mathlib.Core.Path.{sym}
use native.Mathlib.Omega.{arith}
use Rattle.rules.proofs.Calls.{facts_in_range}
use Rattle.run.proofs.Ranges.{Counts, fit_counts, unfit-counts, out_of_range, mark-number}
use Rattle.run.proofs.Run.in_range.Goals as goal
use Rattle.run.proofs.Run.in_range.Goals.{Else-not-counts_fit}

-- after the first test
counted : (c : Else-not-counts_fit) → let r = c.args.self in Counts r.n r.levels
counted c = fit_counts _ _ c.if-not-counts_fit.ensures

pub returns-then-not-counts_fit : goal.returns-then-not-counts_fit
returns-then-not-counts_fit c = out_of_range _ (λ f. unfit-counts _ _ c.if-not-counts_fit.ensures (record {
  some_action = f.some_action;
  few = f.few;
  some_level = f.some_level;
  few_levels = f.few_levels;
}))

pub returns-then-n-position : goal.returns-then-n-position
returns-then-n-position c = out_of_range _ (λ f. omega arith)

pub returns-then-left-ge-LONGEST_COAST : goal.returns-then-left-ge-LONGEST_COAST
returns-then-left-ge-LONGEST_COAST c = out_of_range _ (λ f. omega arith)

pub overflow_add-asked : goal.overflow_add-asked
overflow_add-asked c = omega (arith, mark-number c.args.self.running, counted (goal.at.overflow_add-asked c).Else-not-counts_fit)

pub overflow_add-left : goal.overflow_add-left
overflow_add-left c = omega (arith, mark-number c.args.self.running, counted (goal.at.overflow_add-left c).Else-not-counts_fit)

pub returns-then-n-left : goal.returns-then-n-left
returns-then-n-left c = out_of_range _ (λ f. omega (arith, mark-number c.args.self.running))

pub returns-then-levels-self : goal.returns-then-levels-self
returns-then-levels-self c = out_of_range _ (λ f. omega arith)

pub returns-then-self-gt-LAST_CLOCK : goal.returns-then-self-gt-LAST_CLOCK
returns-then-self-gt-LAST_CLOCK c = out_of_range _ (λ f. omega arith)

pub returns-then-asked-self : goal.returns-then-asked-self
returns-then-asked-self c = out_of_range _ (λ f. omega (arith, mark-number c.args.self.running))

pub returns : goal.returns
returns c =
    let k = counted (goal.at.returns c).Else-not-counts_fit in
    sym (facts_in_range _ (record {
      some_action = k.some_action;
      few = k.few;
      some_level = k.some_level;
      few_levels = k.few_levels;
      position = omega arith;
      clock = omega arith;
      running = omega (arith, mark-number c.args.self.running);
      level = omega arith;
      left = omega arith;
      room = omega (arith, mark-number c.args.self.running);
      decisions = omega (arith, mark-number c.args.self.running);
    }))
