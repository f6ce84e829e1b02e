-- Where it stands, or the room before one body fewer, at both levels. Assumes nothing.
use Prim.Native.Nat.{ℕ, suc, ◌+◌, ◌-◌, ◌*◌, ◌≤◌, ◌<◌}
use mathlib.Core.Path.{◌≡◌, refl, ◌∙◌}
use mathlib.Core.Logic.{inr}
use native.Mathlib.Omega.{arith}
use Rattle.rules.specs.Repeat.{stretch_at}
use Rattle.repeat_limits.specs.Limits.{later_of, room_left}
use Rattle.repeat_decision.proofs.in_body.Goals as goal
use Rattle.repeat_decision.proofs.in_body.Goals.{Joined-level-levels, Else-here-cells, then-level-levels, else-level-levels}

past : (c : Else-here-cells) → let a = c.args in a.body.n * a.body.levels ≤ a.here.entry
past c = omega (arith, c.if-here-cells.false)

-- the level above, where there is one
above-nearer : (c : Joined-level-levels) → let a = c.args in let y = stretch_at a.summaries.now (suc a.level) in
    suc a.level < a.body.levels → (cycle begins : ℕ) → a.here.above ≡ room_left cycle begins (later_of a.body.policy y a.here.after)
    → c.if-level-levels.above ≡ room_left cycle begins (later_of a.body.policy y (a.here.after - 1))
above-nearer c top cycle begins is =
    let a = c.args in
    elim c.if-level-levels.branch [
      | then-level-levels w ↦
          let one : a.level + 1 ≡ suc a.level = omega arith in
          let nearer = w.room_nearer-above.ensures cycle begins (rw one is) in
          w.above-is ∙ rw one at nearer
      | else-level-levels w ↦ absurd (omega (arith, top, w.if-level-levels.false))
    ]

pub returns : goal.returns
returns c =
    inr (
      past (goal.at.returns c).Else-here-cells,
      record {
        entry = refl;
        rest = refl;
        after = refl;
        own = c.room_nearer-own.ensures;
        above = above-nearer (goal.at.returns c).Joined-level-levels;
      },
    )
