-- From the index on the words that are left stand. Assumes nothing.
use Prim.Native.Nat.{◌+◌, ◌-◌}
use mathlib.Core.Path.{◌≡◌, sym, ap, ◌∙◌}
use native.Mathlib.Omega.{arith}
use Rattle.text.specs.Words.{from_word}
use Rattle.text.proofs.Passed.{word_after}
use Rattle.text.proofs.words.word.Goals as goal

pub loop-word-preserved : goal.loop-word-preserved
loop-word-preserved c =
    let turn = c.loop-word in
    let next = ap (from_word (c.args.k - (turn._word + 1))) (sym c.next-at.ensures.text_value) in
    (omega arith, turn.invariant.1 ∙ word_after c.args.k turn._word _ (omega arith) ∙ next)

pub returns-clause-line_value : goal.returns-clause-line_value
unfolding from_word
returns-clause-line_value c =
    let none : c.args.k - c.loop-word._word ≡ 0 = omega arith in
    sym (rw none at c.loop-word.invariant.1)
