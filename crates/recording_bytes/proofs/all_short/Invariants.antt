use Prim.Native.Nat.{◌%◌}
use mathlib.Core.Path.{◌≡◌}
use lib.Dec.{eqb}
use Rattle.rules.specs.Words.{all_pass}
use Rattle.recording_bytes.proofs.Entries.{clear}
use Rattle.recording_bytes.proofs.all_short.Given as goal

abbrev pub invariant-loop-k : goal.invariant-loop-k
invariant-loop-k l = all_pass (clear l.frame) l.k ≡ eqb (l.all % 256) 0
