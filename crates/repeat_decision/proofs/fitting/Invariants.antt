use Prim.Native.Nat.{ℕ, ◌<◌}
use mathlib.Core.Path.{◌≡◌}
use mathlib.Core.Bool.{false}
use Rattle.rules.specs.Words.{last_passing}
use Rattle.repeat_laws.specs.Standing.{Standing}
use Rattle.repeat_decision.proofs.Going.{fit}
use Rattle.repeat_decision.proofs.fitting.Given as goal

abbrev pub invariant-loop-level : goal.invariant-loop-level
invariant-loop-level l =
    ((x : ℕ) → Standing l.body x l.place l.after → last_passing (fit l.body l.summaries l.t x) l.body.levels ≡ last_passing (fit l.body l.summaries l.t x) l.level)
    × ((x : ℕ) → Standing l.body x l.place l.after → l.level < l.body.levels → fit l.body l.summaries l.t x l.level ≡ false)
