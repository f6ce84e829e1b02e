-- The sixteen of the position after it are what the table says. Assumes nothing.
use mathlib.Core.Path.{◌≡◌, refl}
use Prim.Native.Nat.{ℕ, ◌+◌, ◌*◌, ◌<◌}
use native.Mathlib.Omega.{arith}
use borrow.Author.Tests.{le-ltb, lt-ltb}
use lib.IntN.{pos}
use lib.ListN.{get_or, replicate, get_or-replicate}
use mir.Facts.{to_z-of_z}
use Rattle.rules.specs.Limits.{absent}
use Rattle.plan_entry.specs.Bounds.{bound_in}
use Rattle.plan_entry.proofs.Coast.{bounds-stored}
use Rattle.plan_entry.proofs.bounds_of.Goals as goal
use Rattle.plan_entry.proofs.bounds_of.Goals.{After-sixteen-after, Then-entries-next}

-- past the last position
past : (c : Then-entries-next) → let a = c.args in
    (k : ℕ) → k < 15 → get_or (replicate 16 absent) k (pos 0) ≡ bound_in a.out.now a.entries (a.x + a.levels) k
past c k h = let a = c.args in rw (le-ltb (a.x + a.levels) a.entries c.if-entries-next.true) (get_or-replicate 16 k absent (pos 0) (omega arith))

-- before it
held : (c : After-sixteen-after) → let a = c.args in
    (k : ℕ) → k < 15 → get_or c.sixteen-after.result k (pos 0) ≡ bound_in a.out.now a.entries (a.x + a.levels) k
held c k h =
    let a = c.args in
    rw (lt-ltb (a.x + a.levels) a.entries (omega arith)) (c.sixteen-after.ensures k (omega arith))

pub returns-then-entries-next : goal.returns-then-entries-next
returns-then-entries-next c =
    let a = c.args in
    bounds-stored a.out.now (a.x * 16) {v = a.worst} (to_z-of_z c.ranges.limit) refl (past (goal.at.returns-then-entries-next c).Then-entries-next) c.bounds_by.ensures

pub returns : goal.returns
returns c =
    bounds-stored c.args.out.now (c.args.x * 16) {v = c.args.worst} (to_z-of_z c.ranges.limit) refl (held (goal.at.returns c).After-sixteen-after) c.bounds_by-2.ensures
