-- Refused, decided or coasted. Assumes nothing.
use mathlib.Core.Path.{sym, ◌∙◌}
use native.Mathlib.Omega.{arith}
use Rattle.rules.proofs.Reasons.{some_number}
use Rattle.run.proofs.Refusing.{askable}
use Rattle.run.proofs.Turns.{ask-refuses, ask-decides, ask-coasts}
use Rattle.run.proofs.Run.ask.Goals as goal

pub returns-in-Err : goal.returns-in-Err
returns-in-Err c = ask-refuses _ _ _ (c.from.ensures ∙ c.in-Err.ensures) (λ z. some_number c.in-Err.reason (sym c.from.ensures ∙ z))

pub bounds-order-position : goal.bounds-order-position
bounds-order-position c = let may = askable _ _ c.in_default.ensures in omega (arith, may, may.is_open.more)

pub decided-made-requires : goal.decided-made-requires
decided-made-requires c = (askable _ _ c.in_default.ensures).is_open

pub returns-then-self-eq0 : goal.returns-then-self-eq0
returns-then-self-eq0 c =
    let d = c.decided-made.ensures in
    rw c.from-action.ensures (ask-decides _ _ c.in_default.ensures _ _ c.if-self-eq0.true d.run d.late)

pub returns : goal.returns
returns c = rw c.from-action.ensures (ask-coasts _ _ c.in_default.ensures _ c.if-self-eq0.false c.coasted.ensures)
