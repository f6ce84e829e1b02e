use Prim.Native.Nat.{◌≤◌}
use mathlib.Core.Path.{◌≡◌}
use lib.ListN.{drop}
use Rattle.text.specs.Words.{from_word, digits_say, capped}
use Rattle.text.proofs.words.number.Given as goal

abbrev pub invariant-loop-at : goal.invariant-loop-at
invariant-loop-at l = (l.value ≤ 4294967295) × (capped (digits_say 0 (from_word l.k l.line)) ≡ capped (digits_say l.value (drop l.at l.line)))
