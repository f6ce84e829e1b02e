-- Assumes nothing.
use borrow.Author.Rules.{rules}
use borrow.Author.Tests.{tests}
use mathlib.Core.Path.{◌≡◌}
use mathlib.Core.Bool.{true, false}
use Rattle.std.proofs.lemmas.Iterator.{cases_from_all, YieldsList-from_slice}
use Rattle.text.proofs.Passed.{is_digit, settled}
use Rattle.text.proofs.words.only_digits.Goals as goal

pub returns : goal.returns
returns c =
    settled c.args.text.now _
    (cases_from_all _ _ _ (λ x. is_digit x ≡ true) (λ x. is_digit x ≡ false) c.all.ensures.ran (YieldsList-from_slice c.args.text.now cc)
    (λ x q k. search (rules, tests)) (λ x q k. search (rules, tests)))
