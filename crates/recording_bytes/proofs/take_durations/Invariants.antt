use mathlib.Core.List.{List}
use Rattle.rules.specs.Image.{be}
use Prim.Native.Nat.{ℕ, ◌*◌}
use mathlib.Core.Path.{◌≡◌}
use Rattle.rules.specs.Words.{tab}
use Rattle.fields.specs.Fields.{splice}
use Rattle.recording_bytes.proofs.take_durations.Given as goal

abbrev pub duration : List ℕ → ℕ → ℕ
duration bytes k = be bytes (k * 4) 4

abbrev pub invariant-loop-k : goal.invariant-loop-k
invariant-loop-k l = l.durations ≡ splice l.initial.durations 0 (tab (duration l.bytes) l.k)
