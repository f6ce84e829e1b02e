use Prim.Native.Nat.{◌≤◌}
use mathlib.Core.Path.{◌≡◌}
use lib.ListN.{length}
use Rattle.rules.specs.Words.{cat}
use Rattle.text.specs.Put.{Puts}
use Rattle.repeat_text.proofs.Lines.{entry}
use Rattle.repeat_text.proofs.put_limits.Given as goal

abbrev pub invariant-loop-q : goal.invariant-loop-q
invariant-loop-q l =
    (l.q ≤ l.body.levels) × (length l.out ≡ length l.initial.out) × Puts l.initial.out l.at (cat (entry l.body l.summaries l.position) l.q) l.out l.to
