use Prim.Native.Nat.{◌≤◌}
use native.Mathlib.Omega.{arith}
use Rattle.rules.specs.Numbers.{most_actions, refused_range, refused_table}
use Rattle.rules.specs.Image.{profile}
use Rattle.rules.specs.Refusals.{Refuses}
use Rattle.rules.specs.declared.Fault.{Fault}
use Rattle.rules.proofs.Refusals.{refuses-none, refuses_blamed, refuses_unblamed, refuses-goes_on}
use Rattle.image_check.specs.Checks.{spare_check, row_checks, record_checks}
use Rattle.image_check.proofs.Checks.{spare-numbered, range-says, table-says}
use Rattle.image_check.proofs.whole.check_records.Goals as goal
use Rattle.image_check.proofs.whole.check_records.Goals.{After-range_fault}

-- as 5 is not given, it is 6 and 7 that give
then : (c : After-range_fault) (f : Fault) → let s = c.args.image.now in Refuses (row_checks s) f → Refuses (record_checks s) f
then c f = let s = c.args.image.now in refuses-goes_on (spare_check s) (row_checks s) f (spare-numbered s) c.in_ok-check_spare.ensures.number

few : (c : After-range_fault) → (profile c.args.image.now).n ≤ most_actions
unfolding profile
few c = let x = c.requires.opened in omega (arith, x.header.n, x.records.few_actions)

pub returns-in-Some : goal.returns-in-Some
unfolding profile
returns-in-Some c =
    let pre = c.requires in
    let low = range-says pre.opened.header pre.column.0 pre.column.1 c.in-Some.ensures.0 in
    rw (c.on.ensures.0, c.on.ensures.1) (then (goal.at.returns-in-Some c).After-range_fault _ (refuses_blamed refused_range low (few (goal.at.returns-in-Some c).After-range_fault) (omega (arith, pre.opened.header.n, c.in-Some.ensures.1))))

pub returns-in-Some-table_fault : goal.returns-in-Some-table_fault
unfolding profile
returns-in-Some-table_fault c =
    let pre = c.requires in
    let none = range-says pre.opened.header pre.column.0 pre.column.1 c.in_default.ensures in
    let low = table-says pre.opened.header c.in-Some-table_fault.ensures.0 in
    let here = refuses_blamed refused_table low (few (goal.at.returns-in-Some-table_fault c).After-range_fault) (omega (arith, pre.opened.header.n, c.in-Some-table_fault.ensures.1)) in
    rw (c.on-in-Some-table_fault.ensures.0, c.on-in-Some-table_fault.ensures.1) (then (goal.at.returns-in-Some-table_fault c).After-range_fault _ (refuses_unblamed refused_range none (omega (arith, pre.opened.header.n)) here))

pub returns : goal.returns
unfolding profile
returns c =
    let pre = c.requires in
    let out = range-says pre.opened.header pre.column.0 pre.column.1 c.in_default.ensures in
    let fallen = table-says pre.opened.header c.in_default-table_fault.ensures in
    let none = refuses_unblamed refused_table fallen (omega (arith, pre.opened.header.n)) refuses-none in
    then (goal.at.returns c).After-range_fault _ (refuses_unblamed refused_range out (omega (arith, pre.opened.header.n)) none)
