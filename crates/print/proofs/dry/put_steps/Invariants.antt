use Prim.Native.Nat.{◌≤◌}
use mathlib.Core.Path.{◌≡◌}
use lib.ListN.{length}
use Rattle.rules.specs.Words.{cat}
use Rattle.text.specs.Put.{Puts}
use Rattle.print.proofs.Frames.{step}
use Rattle.print.proofs.dry.put_steps.Given as goal

abbrev pub invariant-loop-i : goal.invariant-loop-i
invariant-loop-i l = (l.i ≤ l.n) × (length l.out ≡ length l.initial.out) × Puts l.initial.out 0 (cat (step l.order l.given l.marks) l.i) l.out l.to
