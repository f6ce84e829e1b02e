-- `trace::pass` meets its contract.
use Rattle.std.proofs.Common.{arith, add-one}
use Rattle.std.specs.Prelude.{◌≤◌, ◌≡◌}
use Rattle.rules.specs.Numbers.{most_records}
use Rattle.rules.specs.Refresh.{records}
use Rattle.trace.proofs.Entries.{cell-lt}
use Rattle.std.proofs.lemmas.Result.{err_from_is_err_and}
use Rattle.rules.proofs.Reasons.{some_number}
use Rattle.trace.proofs.Faults.{stops, goes_on, passed}
use Rattle.trace.proofs.Tallies.{room, weighs}
use mathlib.Core.Path.{refl}
use Rattle.trace.proofs.pass.Goals as goal

pub fault-requires : goal.fault-requires
fault-requires c = cell-lt c.record_at-e.ensures

pub returns-in_err-fault : goal.returns-in_err-fault
unfolding records
returns-in_err-fault c =
    let (reason, is, same) = err_from_is_err_and c.from_residual.result c.from_residual.ensures.1 in
    rw (is, same)
    record {
      number = λ F has.
          stops F _ c.loop-r.r (c.loop-r.invariant.sound F has) c.loop-r-test.true _ (some_number c.in_err-fault.field-0.0)
          (c.in_err-fault.ensures F _ c.loop-r.r has c.record_at-e.ensures);
      weighs = λ none. absurd (some_number c.in_err-fault.field-0.0 none);
    }

pub add-requires : goal.add-requires
add-requires c =
    let few : c.loop-r.r ≤ most_records = omega (arith, c.loop-r.invariant.within, c.requires.0) in
    room _ c.loop-r.r _ c.record_at-e.ensures _ few c.loop-r.invariant.tallied

pub loop-r-preserved : goal.loop-r-preserved
unfolding records
loop-r-preserved c = record {
  within = omega (arith, c.loop-r-test.true);
  sound = λ F has.
      goes_on F _ c.loop-r.r (c.loop-r.invariant.sound F has) _ refl (c.in_ok-fault.ensures F _ c.loop-r.r has c.record_at-e.ensures);
  tallied = rw add-one (c.add.ensures _ c.loop-r.r c.record_at-e.ensures c.loop-r.invariant.tallied);
}

pub returns : goal.returns
unfolding records
returns c =
    let all : c.loop-r.r ≡ records c.args.trace.now = omega (arith, c.loop-r.invariant.within, c.loop-r-test.false) in
    record {
      number = λ F has. passed F _ (λ e l. c.loop-r.invariant.sound F has e (omega arith));
      weighs = λ none. weighs _ _ c.requires.0 (rw all at c.loop-r.invariant.tallied);
    }
