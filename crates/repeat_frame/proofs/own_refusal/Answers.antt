-- Room, then the durations. Assumes nothing.
use mathlib.Core.Path.{refl, sym, ◌∙◌}
use mathlib.Core.Logic.{inl, inr}
use Rattle.rules.specs.Refusals.{Tight}
use Rattle.rules.proofs.Recording.{one-long, none-long}
use Rattle.repeat_frame.specs.BodyFrame.{body_frame_rooms}
use Rattle.repeat_frame.proofs.Rooms.{tested_roomy}
use Rattle.repeat_frame.proofs.own_refusal.Goals as goal
use Rattle.repeat_frame.proofs.own_refusal.Goals.{Else-durations-cells}

roomy : (c : Else-durations-cells) → let a = c.args in let b = a.body in
    Tight (body_frame_rooms b.n b.levels b.repeats a.durations.now (record { order = a.order.now; levels = a.given.now; decided = a.marks.now })) → ⊥
roomy c =
    let a = c.args in
    tested_roomy _ _ _ a.durations.now (record { order = a.order.now; levels = a.given.now; decided = a.marks.now }) c.if-durations-cells.false

pub returns-then-not-all_short : goal.returns-then-not-all_short
returns-then-not-all_short c =
    let d = c.args.durations.now in
    inr (roomy (goal.at.returns-then-not-all_short c).Else-durations-cells, inl (one-long _ d (sym c.all_short.ensures ∙ c.if-not-all_short.true), refl))

pub returns : goal.returns
returns c =
    let d = c.args.durations.now in
    inr (roomy (goal.at.returns c).Else-durations-cells, inr (none-long _ d (sym c.all_short.ensures ∙ c.if-not-all_short.false), refl))
