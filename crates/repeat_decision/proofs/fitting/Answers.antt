-- From the top level down: those from q on do not fit. Assumes nothing.
use Prim.Native.Nat.{ℕ, ◌+◌, ◌-◌, ◌*◌}
use mathlib.Core.Path.{◌≡◌, sym, ap, ◌∙◌}
use mathlib.Core.Bool.{true, false}
use mathlib.Core.List.{List, []}
use native.Mathlib.Omega.{arith}
use lib.IntN.{pos}
use lib.Signed.{le_z}
use Rattle.rules.specs.Numbers.{summary_numbers}
use Rattle.rules.specs.Words.{last_passing}
use Rattle.rules.specs.Limits.{Plan}
use Rattle.rules.specs.Run.{level_given, fits}
use Rattle.rules.specs.Repeat.{LentBody, stretch_at, lent_plan}
use Rattle.rules.proofs.Tests.{last-here, last-past}
use Rattle.repeat_laws.specs.Standing.{Standing}
use Rattle.repeat_limits.specs.Limits.{fits_in}
use Rattle.repeat_decision.proofs.Going.{fit, reads-room}
use Rattle.repeat_decision.proofs.fitting.Goals as goal
use Rattle.repeat_decision.proofs.fitting.Goals.{After-has_room, After-loop-level}

abbrev alone : List ℕ → LentBody
alone s = record { order = []; summaries = s; worst = [] }

-- by the level given, which fits or not
level-fits : (P : Plan) (t x q : ℕ) → level_given P t x ≡ q → le_z (pos t) (P.limit x q) ≡ true → fits P t x ≡ true
unfolding fits
level-fits P t x q e h = rw (e, h)

none-fits : (P : Plan) (t x q : ℕ) → level_given P t x ≡ q → le_z (pos t) (P.limit x q) ≡ false → fits P t x ≡ false
unfolding fits
none-fits P t x q e h = rw (e, h)

-- what is told of the level tested
reads : (c : After-has_room) → let a = c.args in
    (x : ℕ) → Standing a.body x a.place a.after → c.has_room.result ≡ fit a.body a.summaries.now a.t x (c.loop-level.level - 1)
reads c x s =
    let a = c.args in
    let entry : ℕ = a.place * a.body.levels + (c.loop-level.level - 1) in
    c.has_room.ensures ∙ ap (fits_in (stretch_at a.summaries.now entry)) c.room_before-own.ensures
    ∙ reads-room (alone a.summaries.now) a.t (c.loop-level.level - 1) entry
    (omega (arith, c.type_inv.summaries (entry * summary_numbers))) (omega (arith, c.requires.1)) (omega arith) s

-- it is the level given, whichever position stands there
level_is : (c : After-has_room) → c.has_room.result ≡ true → let a = c.args in
    (x : ℕ) → Standing a.body x a.place a.after → level_given (lent_plan a.body (alone a.summaries.now)) a.t x ≡ c.loop-level.level - 1
unfolding level_given lent_plan
level_is c fits x s =
    let a = c.args in
    let l = c.loop-level in
    l.invariant.0 x s ∙ last-here (fit a.body a.summaries.now a.t x) (l.level - 1) l.level (omega arith) (sym (reads c x s) ∙ fits)

level-there : (c : After-has_room) → c.has_room.result ≡ true → let a = c.args in
    (x : ℕ) → Standing a.body x a.place a.after → fits (lent_plan a.body (alone a.summaries.now)) a.t x ≡ true
unfolding lent_plan
level-there c fits x s =
    let a = c.args in
    level-fits (lent_plan a.body (alone a.summaries.now)) a.t x (c.loop-level.level - 1) (level_is c fits x s) (sym (reads c x s) ∙ fits)

pub returns-then-has_room : goal.returns-then-has_room
returns-then-has_room c =
    let tested = (goal.at.returns-then-has_room c).After-has_room in
    record {
      fits = level-there tested c.if-has_room.true;
      level = λ x s. sym (level_is tested c.if-has_room.true x s);
      own = c.room_before-own.ensures;
    }

pub loop-level-preserved : goal.loop-level-preserved
loop-level-preserved c =
    let a = c.args in
    let l = c.loop-level in
    let tested = (goal.at.loop-level-preserved c).After-has_room in (
      (λ x s.
          let h = sym (reads tested x s) ∙ c.if-has_room.false in
          l.invariant.0 x s ∙ last-past (fit a.body a.summaries.now a.t x) (l.level - 1) l.level (omega arith) h),
      λ x s low. sym (reads tested x s) ∙ c.if-has_room.false,
    )

no-levels : (c : After-loop-level) → c.loop-level.level ≡ 0 → let a = c.args in
    (x : ℕ) → Standing a.body x a.place a.after → fits (lent_plan a.body (alone a.summaries.now)) a.t x ≡ false
unfolding level_given lent_plan last_passing
no-levels c e x s =
    let a = c.args in
    none-fits (lent_plan a.body (alone a.summaries.now)) a.t x 0 (rw e at (c.loop-level.invariant.0 x s))
    (rw e at (c.loop-level.invariant.1 x s (omega (arith, c.requires.0.counts.some_level))))

pub returns : goal.returns
returns c = no-levels (goal.at.returns c).After-loop-level (omega arith)
