-- What a decision makes of a record, and what it needs of it. Assumes nothing.
use Prim.Native.Nat.{ℕ, ◌+◌, ◌-◌}
use mathlib.Core.Path.{◌≡◌, sym, ap, ◌∙◌}
use mathlib.Core.Bool.{Bool, true, false, cond, ◌||◌, or-true, or-false}
use native.Mathlib.Numerals.{add-one}
use lib.Dec.{ltb}
use Rattle.rules.specs.Numbers.{longest_coast}
use Rattle.rules.specs.Limits.{Plan}
use Rattle.rules.specs.Run.{Run, decide, ended}
use Rattle.rules.specs.Repeat.{LentBody}
use Rattle.rules.specs.declared.Body.{Body}
use Rattle.repeat_laws.specs.Standing.{Standing}
use Rattle.repeat_laws.proofs.Standing.{place_in, fewer}
use Rattle.repeat_decision.specs.Decision.{MayChoose, Chooses}
use Rattle.repeat_decision.specs.declared.Choice.{Choice}
use Rattle.repeat_run.specs.Calls.{steps_of, passed_by, cut_short, MayDecide}
use Rattle.repeat_run.specs.declared.BodyRun.{BodyRun}

-- where the position stands
pub may_choose : {T : LentBody} {b : Body} {r : Run} → MayDecide T b r → {place after : ℕ} → Standing b r.position place after
    → MayChoose b T place after r.clock
may_choose m s = record {
  summarised = record {
    counts = m.counts;
    summed = m.summed;
    inside = place_in m.counts.some_action s;
    fewer = fewer m.counts.some_action s;
  };
  timed = m.timed;
  early = m.early;
}

pub decided-is : (P : Plan) (r : Run) (c : Choice) → Chooses P r.clock r.position c
    → record {
      n = r.n;
      levels = r.levels;
      position = r.position;
      clock = r.clock;
      running = true;
      level = c.level;
      left = c.left;
      decisions = r.decisions + 1;
      overrun = r.overrun;
      late = r.late || c.late;
    } ≡ decide longest_coast P r
decided-is P r c C = rw (C.left, C.late, C.level, add-one)

-- an end by its worst time w: cut short above it
pub ends-over : (w t : ℕ) (r : Run) → ltb w (t - r.clock) ≡ true → cut_short (passed_by t r) ≡ ended w t r
unfolding ended
ends-over w t r e = rw (e, or-true r.overrun)

pub ends-within : (w t : ℕ) (r : Run) → ltb w (t - r.clock) ≡ false → passed_by t r ≡ ended w t r
unfolding ended
ends-within w t r e = rw (e, or-false r.overrun)

-- and of the record that is left, one of two
pub left_ended : (self run cut : BodyRun) (w t : ℕ) (over : Bool) → over ≡ ltb w (t - self.clock) → steps_of run ≡ passed_by t (steps_of self)
    → steps_of cut ≡ cut_short (steps_of run) → steps_of (cond over cut run) ≡ ended w t (steps_of self)
left_ended self run cut w t true e p q = q ∙ ap cut_short p ∙ ends-over w t (steps_of self) (sym e)
left_ended self run cut w t false e p q = p ∙ ends-within w t (steps_of self) (sym e)
