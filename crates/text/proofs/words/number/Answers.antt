-- What the digits so far and those that are left say stays the same. Assumes nothing.
use Prim.Native.Nat.{ℕ, ◌+◌, ◌*◌}
use mathlib.Core.Path.{◌≡◌, sym, ap, ◌∙◌}
use native.Mathlib.Omega.{arith}
use lib.ListN.{drop}
use Rattle.text.specs.Words.{digits_say, capped}
use Rattle.text.proofs.Passed.{digit-here, digits_end, text-end, capped-once}
use Rattle.text.proofs.words.number.Goals as goal

pub returns-then-not-is_ascii_digit : goal.returns-then-not-is_ascii_digit
returns-then-not-is_ascii_digit c =
    omega (arith, c.loop-at.invariant.1, ap capped (digits_end c.args.line.now c.loop-at.at c.loop-at.value (omega arith) (sym c.is_ascii_digit.ensures.value ∙ c.if-not-is_ascii_digit.true)))

pub loop-at-preserved : goal.loop-at-preserved
loop-at-preserved c =
    let was = c.loop-at in
    let line = c.args.line.now in
    let rest = drop (was.at + 1) line in
    let here = digit-here line was.at was.value c.from.result (omega arith) (sym c.is_ascii_digit.ensures.value ∙ c.if-not-is_ascii_digit.false) (omega arith) in
    let once = capped-once (was.value * 10 + c.from.result) rest in
    let more : c.saturating_add-value.result ≡ capped (was.value * 10 + c.from.result) = omega arith in
    (omega arith, was.invariant.1 ∙ ap capped here ∙ sym once ∙ ap (λ (v : ℕ). capped (digits_say v rest)) (sym more))

pub returns : goal.returns
returns c =
    omega (arith, c.loop-at.invariant.1, ap capped (text-end c.args.line.now c.loop-at.at c.loop-at.value (omega arith)))
