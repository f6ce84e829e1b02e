use mathlib.Core.List.{List}
use Prim.Native.Nat.{ℕ}
use Rattle.order_loops.specs.Looped.{Rows}
use Rattle.order_loops.proofs.Closing.{Mixed}
use Rattle.order_loops.proofs.through.Given as goal

abbrev pub invariant-loop-b : goal.invariant-loop-b
invariant-loop-b l = ((masks : List ℕ) → Rows masks l.n l.k l.initial.all → Mixed masks l.n l.k l.b l.all)
