use Prim.Native.Nat.{◌-◌, ◌≤◌}
use mathlib.Core.Path.{◌≡◌}
use lib.ListN.{length, drop}
use Rattle.text.specs.Words.{from_word}
use Rattle.text.proofs.words.word.Given as goal

abbrev pub invariant-loop-word : goal.invariant-loop-word
invariant-loop-word l = (l.at ≤ length l.line) × (from_word l.k l.line ≡ from_word (l.k - l._word) (drop l.at l.line))
