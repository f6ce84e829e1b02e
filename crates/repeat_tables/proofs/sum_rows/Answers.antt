-- Before a turn the positions from i on are worked, by whichever order the actions are in. Assumes nothing.
use mathlib.Core.Path.{◌≡◌, refl, ◌∙◌}
use Prim.Native.Nat.{◌-◌, ◌*◌, ◌+◌, ◌≤◌}
use native.Mathlib.Omega.{arith}
use lib.ListN.{get_or}
use Rattle.fields.proofs.Bytes.{Bytes}
use Rattle.fields.proofs.Strides.{stride_fits}
use Rattle.image_fields.specs.Reading.{HasRecord}
use Rattle.repeat_tables.proofs.Summing.{records, present, own_half, rest_half, back_none, back_more, back_done}
use Rattle.repeat_tables.proofs.sum_rows.Goals as goal
use Rattle.repeat_tables.proofs.sum_rows.Goals.{In-loop-i}

module _ (c : In-loop-i) where
  bytes : Bytes c.args.image.now
  bytes k = (c.type_inv.image k).fits

  -- the rows of a turn's position are within the tables
  inside : let a = c.args in (c.loop-i.i - 1) * a.levels + a.levels ≤ a.n * a.levels
  inside = let a = c.args in stride_fits (c.loop-i.i - 1) a.n a.levels (omega (arith, c.loop-i-test.true, c.loop-i.auto.i))

  -- the record of the turn's action is there
  action : let a = c.args in HasRecord a.image.now a.levels (get_or a.actions.now (c.loop-i.i - 1) 0)
  action = present c.requires.some_body_input.1 (c.loop-i.i - 1) (omega (arith, c.loop-i-test.true, c.loop-i.auto.i))

pub loop-i-init : goal.loop-i-init
loop-i-init c = (refl, refl, refl, refl, refl, λ o g. back_none g _ _)

pub sum_row-lowest-requires : goal.sum_row-lowest-requires
sum_row-lowest-requires c =
    let w = (goal.at.sum_row-lowest-requires c).In-loop-i in
    let given = c.requires.some_body_input in
    let room = c.requires.entries_fit in
    let t = c.loop-i in
    let i = t.i in
    let has = records given.1 in
    record {
      present = action w;
      some_level = has.some_level;
      own = own_half given.1 (i - 1) (omega (arith, c.loop-i-test.true, t.auto.i)) (bytes w);
      rest = λ q m. rest_half given.1 c.args.policy (bytes w) i q t.auto.i m ((t.invariant.5 given.0 given.1).carries q m);
      averages_room = omega (arith, has.few_levels, t.invariant.2);
      mixes_room = omega (arith, has.few_levels, t.invariant.3);
      worsts_room = omega (arith, has.few_levels, t.invariant.4);
      room = record {
        summaries_room = omega (arith, inside w, room.summaries_room, t.invariant.0);
        worst_room = omega (arith, inside w, room.worst_room, t.invariant.1);
      };
    }

pub loop-i-preserved : goal.loop-i-preserved
loop-i-preserved c =
    let t = c.loop-i in
    let done = c.sum_row-lowest in
    let one_less : t.i ≡ t.i - 1 + 1 = omega (arith, c.loop-i-test.true) in (
      done.auto.summaries ∙ t.invariant.0,
      done.auto.worst ∙ t.invariant.1,
      done.auto.averages ∙ t.invariant.2,
      done.auto.mixes ∙ t.invariant.3,
      done.auto.worsts ∙ t.invariant.4,
      λ o g. back_more g _ _ (t.i - 1) t.i one_less t.auto.i c.requires.entries_fit (t.invariant.5 o g) done.ensures,
    )

pub returns : goal.returns
returns c o g = back_done g _ _ c.loop-i.i (omega (arith, c.loop-i-test.false)) (c.loop-i.invariant.5 o g)
