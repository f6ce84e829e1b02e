use Prim.Native.Nat.{ℕ, ◌+◌, ◌-◌, ◌*◌, ◌≤◌}
use mathlib.Core.List.{[]}
use Rattle.repeat_laws.specs.Standing.{Standing}
use Rattle.repeat_limits.specs.Limits.{BodiesAfter}
use Rattle.repeat_limits.proofs.Reaching.{Reaching}
use Rattle.repeat_limits.proofs.reach.Given as goal

abbrev pub invariant-loop-k : goal.invariant-loop-k
invariant-loop-k l =
    (l.spent ≤ (l._k - 1) * 4294967295)
    × (l.most ≤ 6957847017900 + (l._k - 1) * 4294967295)
    × ((i : ℕ) → Standing l.body i l.place l.after
    → Reaching l.body (record { order = []; summaries = l.summaries; worst = l.worst }) i l.level l._k l.spot.place l.spot.after l.spent l.most)
    × BodiesAfter l.body.policy l.summaries l.level l.spot.after l.later
