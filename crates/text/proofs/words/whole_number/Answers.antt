-- Where there are digits alone, the number is that of the first word. Assumes nothing.
use mathlib.Core.Path.{sym, ap, ◌∙◌}
use mathlib.Core.Bool.{Bool, cond}
use Rattle.text.specs.Words.{from_word, digits_say, capped}
use Rattle.text.proofs.words.whole_number.Goals as goal

pub returns-then-only_digits : goal.returns-then-only_digits
unfolding from_word
returns-then-only_digits c =
    let text = c.args.text.now in
    c.number.ensures ∙ sym (ap (λ (t : Bool). cond t (capped (digits_say 0 text)) 0) (sym c.only_digits.ensures ∙ c.if-only_digits.true))
