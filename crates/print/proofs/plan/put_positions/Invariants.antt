use Prim.Native.Nat.{◌≤◌}
use mathlib.Core.Path.{◌≡◌}
use lib.ListN.{length}
use Rattle.rules.specs.Words.{cat}
use Rattle.text.specs.Put.{Puts}
use Rattle.print.proofs.Plans.{told}
use Rattle.print.proofs.plan.put_positions.Given as goal

abbrev pub invariant-loop-i : goal.invariant-loop-i
invariant-loop-i l =
    (l.i ≤ l.n) × (length l.out ≡ length l.initial.out) × Puts l.initial.out l.at (cat (told l.order l.limits l.levels) l.i) l.out l.to
