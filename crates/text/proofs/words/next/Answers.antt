-- One more is dropped where the byte stands; where it does not, nothing is left.
use mathlib.Core.Path.{sym, ap, ◌∙◌}
use native.Mathlib.Omega.{arith}
use lib.ListN.{drop, drop_of_length-le}
use lib.Seq.{drop-drop}
use Rattle.text.proofs.words.next.Goals as goal

pub returns-then-at-text-clause-text_value : goal.returns-then-at-text-clause-text_value
returns-then-at-text-clause-text_value c = sym (drop-drop 1 c.find-at.result _) ∙ ap (drop 1) c.find-at.ensures.text_value

pub returns-clause-text_value : goal.returns-clause-text_value
returns-clause-text_value c =
    let nothing = drop_of_length-le c.args.text.now {i = c.find-at.result} (omega arith) in
    nothing ∙ ap (drop 1) (sym nothing ∙ c.find-at.ensures.text_value)
