-- Refused by the totals or by the frame, and else counted. Assumes nothing.
use Prim.Native.Nat.{ℕ}
use mathlib.Core.Path.{refl}
use mathlib.Core.List.{[]}
use Rattle.std.proofs.lemmas.Result.{err_from_is_err_and}
use Rattle.rules.specs.Limits.{LentTables}
use Rattle.rules.specs.Refusals.{First}
use Rattle.rules.specs.Dry.{dry_call}
use Rattle.rules.specs.Recording.{durations}
use Rattle.rules.proofs.Reasons.{some_number}
use Rattle.recording.specs.Recording.{recorded_rooms}
use Rattle.recording.proofs.Rehearsing.{Judged, frame_refused, ready, countable, rehearsed}
use Rattle.recording.proofs.rehearse.Goals as goal
use Rattle.recording.proofs.rehearse.Goals.{After-frame_refusal}

abbrev lent : After-frame_refusal → LentTables
lent c = record { order = []; limits = c.args.limits.now; worst = c.args.worst.now; bounds = c.args.bounds.now }

-- the totals are taken, and the frame is judged
judged : (c : After-frame_refusal) {k : ℕ}
    → First (dry_call c.args.n c.args.levels (durations c.args.frame.now) (recorded_rooms c.args.n c.args.levels (lent c) c.args.frame.now)) k
    → Judged c.args.n c.args.levels (lent c) c.args.frame.now c.args.totals k
judged c given = record { taken = c.in_ok-totals_refusal.ensures; judged = given }

pub returns-in_err-frame_refusal : goal.returns-in_err-frame_refusal
returns-in_err-frame_refusal c =
    let made = c.from_residual-in_err-frame_refusal in
    let p = err_from_is_err_and made.result made.ensures.1 in
    let frame = judged (goal.at.returns-in_err-frame_refusal c).After-frame_refusal c.in_err-frame_refusal.ensures in
    rw (p.1, p.2) (frame_refused frame (some_number c.in_err-frame_refusal.field-0.0))

pub cycle-cycled-requires : goal.cycle-cycled-requires
cycle-cycled-requires c = ready (judged (goal.at.cycle-cycled-requires c).After-frame_refusal c.in_ok-frame_refusal.ensures) refl

pub with_ran-requires : goal.with_ran-requires
with_ran-requires c =
    countable (judged (goal.at.with_ran-requires c).After-frame_refusal c.in_ok-frame_refusal.ensures) refl c.cycle-cycled.ensures

pub returns : goal.returns
returns c =
    rehearsed (judged (goal.at.returns c).After-frame_refusal c.in_ok-frame_refusal.ensures) refl c.cycle-cycled.ensures
    c.with_ran.ensures
