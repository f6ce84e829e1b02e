-- Before a turn the positions from i on are worked, by whichever order the actions are in. Assumes nothing.
use mathlib.Core.Path.{◌∙◌}
use Prim.Native.Nat.{◌-◌}
use native.Mathlib.Omega.{arith}
use borrow.Author.Rules.{rules}
use Rattle.fields.proofs.Strides.{stride_fits}
use Rattle.plan_entry.proofs.Limits.{due-small, row_small}
use Rattle.plan_entry.proofs.Sixteens.{sixteen_spares}
use Rattle.plan_tables.proofs.Working.{lawful, present, position, back_none, back_more, back_done}
use Rattle.plan_tables.proofs.work.Goals as goal

pub loop-i-init : goal.loop-i-init
loop-i-init c = (search rules, search rules, search rules, λ o g. back_none (lawful g (λ k. (c.type_inv.image k).fits)) _ _ c.after_last-next.ensures)

-- the record of the turn's action is there
pub due_at-due-requires : goal.due_at-due-requires
due_at-due-requires c =
    let given = c.requires.some_plan_input.1 in
    (present given (c.loop-i.i - 1) (omega arith), given.cycle_is)

pub held_to-held-requires : goal.held_to-held-requires
held_to-held-requires c =
    let given = c.requires.some_plan_input in
    let i = c.loop-i.i in
    due-small (lawful given.1 (λ k. (c.type_inv.image k).fits)) (i - 1) (omega arith) (position given.1 (i - 1) (omega arith) c.due_at-due.ensures)

pub work_row-here-requires : goal.work_row-here-requires
work_row-here-requires c =
    let room = c.requires.entries_fit in
    let given = c.requires.some_plan_input in
    let t = c.loop-i in
    let i = t.i in
    let S = lawful given.1 (λ k. (c.type_inv.image k).fits) in
    let at = position given.1 (i - 1) (omega arith) c.due_at-due.ensures in
    let was = t.invariant.3 given.0 given.1 in
    record {
      present = present given.1 (i - 1) (omega arith);
      small = row_small S _ (i - 1) i (omega arith) t.auto.i was.worked.row at c.held_to-held.ensures;
      spares = λ q k l. sixteen_spares S c.args.policy c.args.bounds.now room.bounds_room (i - 1) i (omega arith) t.auto.i was.bounded q l (at.worsts q l) k;
      inside = stride_fits (i - 1) c.args.n c.args.levels (omega arith);
      room = record {
        limits_room = omega (arith, room.limits_room, t.invariant.0);
        worst_room = omega (arith, room.worst_room, t.invariant.1);
        bounds_room = omega (arith, room.bounds_room, t.invariant.2);
      };
    }

pub loop-i-preserved : goal.loop-i-preserved
loop-i-preserved c =
    let done = c.work_row-here in
    let t = c.loop-i in
    let some = c.loop-i-test.true in
    let i = t.i in (
      done.auto.limits ∙ t.invariant.0,
      done.auto.worst ∙ t.invariant.1,
      done.auto.bounds ∙ t.invariant.2,
      λ o g. back_more (lawful g (λ k. (c.type_inv.image k).fits)) _ _ (i - 1) i (omega (arith, some)) t.auto.i c.requires.entries_fit (t.invariant.3 o g)
          (position g (i - 1) (omega (arith, some)) c.due_at-due.ensures) c.held_to-held.ensures done.ensures,
    )

pub returns : goal.returns
returns c o g =
    let t = c.loop-i in
    back_done _ o _ t.i (omega arith) (lawful g (λ k. (c.type_inv.image k).fits)) (t.invariant.3 o g)
