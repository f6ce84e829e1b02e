use Prim.Native.Nat.{◌*◌, ◌≤◌}
use mathlib.Core.Path.{◌≡◌}
use lib.ListN.{length}
use Rattle.repeat_text.proofs.Loop.{Lined}
use Rattle.repeat_text.proofs.put_lines.Given as goal

abbrev pub invariant-loop-next : goal.invariant-loop-next
invariant-loop-next l =
    (l.last ≡ l.body.repeats * l.body.n) × (length l.out ≡ length l.initial.out) × (l.next ≤ l.last) × Lined l.body l.order l.summaries l.initial.out l.at l.from l.out l.to l.next
