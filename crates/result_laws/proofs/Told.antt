-- Each flat record that a contract speaks of tells the Result that it is made of. Assumes nothing.
use Prim.Native.Nat.{ℕ}
use mathlib.Core.Path.{refl}
use Rattle.rules.specs.declared.Fault.{Fault}
use Rattle.rules.specs.Reasons.{number, fault}
use Rattle.image_write.specs.Writing.{written}
use Rattle.image_write.specs.declared.Written.{Written}
use Rattle.profile.specs.Calls.{unpacked, placed}
use Rattle.profile.specs.declared.Unpacked.{Unpacked}
use Rattle.profile.specs.declared.Place.{Place}
use Rattle.planner.specs.Planning.{planned}
use Rattle.planner.specs.declared.Planned.{Planned}
use Rattle.run.specs.Dry.{dried}
use Rattle.run.specs.declared.dry.Dried.{Dried}
use Rattle.dry_frame.specs.Frame.{framed}
use Rattle.dry_frame.specs.declared.Framed.{Framed}
use Rattle.recording.specs.Recording.{opened, line_told, counted}
use Rattle.recording.specs.declared.Opened.{Opened}
use Rattle.recording.specs.declared.Line.{Line}
use Rattle.recording.specs.declared.Totals.{Totals}
use Rattle.recording.specs.declared.Counted.{Counted}
use Rattle.repeat_limits.specs.Limits.{limited}
use Rattle.repeat_limits.specs.declared.Limited.{Limited}
use Rattle.repeat_planner.specs.PlanningBody.{body_planned}
use Rattle.repeat_planner.specs.declared.BodyPlanned.{BodyPlanned}
use Rattle.repeat_frame.specs.BodyFrame.{body_framed}
use Rattle.repeat_frame.specs.declared.BodyFramed.{BodyFramed}
use Rattle.refresh.specs.Refresh.{flat}
use Rattle.refresh.specs.declared.Refreshed.{Refreshed}
use Rattle.result_laws.specs.Told.{TellsResult}
use Rattle.result_laws.proofs.Refusals.{reason_tells, blame_tells}

-- ---- of calls that answer a refusal or nothing

pub number_tells : TellsResult (number {A = Unit {0}})
number_tells = reason_tells number (λ (k : ℕ). k) (λ (k : ℕ). tt) (λ a. refl) (λ r. refl) (λ a. refl)

pub fault_tells : TellsResult (fault {A = Unit {0}})
fault_tells = blame_tells fault (λ (f : Fault). f) (λ (f : Fault). tt) (λ a. refl) (λ b. refl) (λ a. refl)

-- ---- the profile image

pub written_tells : TellsResult written
written_tells = blame_tells written (λ (w : Written). w.refusal) (λ (w : Written). w.bytes) (λ a. refl) (λ b. refl) (λ a. refl)

pub unpacked_tells : TellsResult unpacked
unpacked_tells =
    blame_tells unpacked (λ (u : Unpacked). u.refusal) (λ (u : Unpacked). record { n = u.n; levels = u.levels; cycle = u.cycle })
    (λ a. refl) (λ b. refl) (λ a. refl)

pub placed_tells : TellsResult placed
placed_tells =
    blame_tells placed (λ (p : Place). p.refusal) (λ (p : Place). record { start = p.start; length = p.length })
    (λ a. refl) (λ b. refl) (λ a. refl)

-- ---- planning, a cycle and a frame run dry

pub planned_tells : TellsResult planned
planned_tells =
    blame_tells planned (λ (p : Planned). p.refusal) (λ (p : Planned). record { n = p.n; levels = p.levels; cycle = p.cycle })
    (λ a. refl) (λ b. refl) (λ a. refl)

pub dried_tells : TellsResult dried
dried_tells =
    reason_tells dried (λ (d : Dried). d.refusal.number)
    (λ (d : Dried). record { decisions = d.decisions; end = d.end; overrun = d.overrun; late = d.late })
    (λ a. refl) (λ r. refl) (λ a. refl)

pub framed_tells : TellsResult framed
framed_tells =
    blame_tells framed (λ (f : Framed). f.refusal)
    (λ (f : Framed). record { n = f.n; dry = record { decisions = f.decisions; end = f.end; overrun = f.overrun; late = f.late } })
    (λ a. refl) (λ b. refl) (λ a. refl)

-- ---- a recording

pub opened_tells : TellsResult opened
opened_tells =
    blame_tells opened (λ (o : Opened). o.refusal)
    (λ (o : Opened). record { n = o.n; levels = o.levels; frame_bytes = o.frame_bytes; frames = o.frames })
    (λ a. refl) (λ b. refl) (λ a. refl)

pub line_tells : TellsResult line_told
line_tells =
    reason_tells line_told (λ (l : Line). l.refusal.number)
    (λ (l : Line). record { decisions = l.decisions; lowest = l.lowest; end = l.end; overrun = l.overrun; late = l.late })
    (λ a. refl) (λ r. refl) (λ a. refl)

pub counted_tells : (before : Totals) → TellsResult (counted before)
counted_tells before =
    reason_tells (counted before) (λ (c : Counted). c.line.refusal.number)
    (λ (c : Counted). record {
      totals = c.totals;
      ran = record { decisions = c.line.decisions; lowest = c.line.lowest; end = c.line.end; overrun = c.line.overrun; late = c.line.late };
    })
    (λ a. refl) (λ r. refl) (λ a. refl)

-- ---- a body repeated

pub limited_tells : TellsResult limited
limited_tells = reason_tells limited (λ (l : Limited). l.refusal.number) (λ (l : Limited). l.limit) (λ a. refl) (λ r. refl) (λ a. refl)

pub body_planned_tells : TellsResult body_planned
body_planned_tells =
    blame_tells body_planned (λ (p : BodyPlanned). p.refusal) (λ (p : BodyPlanned). p.body) (λ a. refl) (λ b. refl) (λ a. refl)

pub body_framed_tells : TellsResult body_framed
body_framed_tells =
    blame_tells body_framed (λ (f : BodyFramed). f.refusal)
    (λ (f : BodyFramed). record { decisions = f.decisions; end = f.end; positions = f.positions; overrun = f.overrun; late = f.late })
    (λ a. refl) (λ b. refl) (λ a. refl)

-- ---- a refresh

pub refreshed_tells : TellsResult flat
refreshed_tells = blame_tells flat (λ (x : Refreshed). x.refusal) (λ (x : Refreshed). x.bytes) (λ a. refl) (λ b. refl) (λ a. refl)
