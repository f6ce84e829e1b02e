-- A start by the ranges of the body. Assumes nothing.
use Prim.Native.Nat.{ℕ}
use mathlib.Core.Path.{◌≡◌, sym, ◌∙◌}
use mathlib.Core.Bool.{Bool, true, false, cond}
use lib.Dec.{eqb}
use borrow.Author.Tests.{eqb-true}
use Rattle.rules.specs.Run.{begun}
use Rattle.rules.specs.Repeat.{positions, no_body, body_start}
use Rattle.rules.specs.declared.Body.{Body}
use Rattle.repeat_run.specs.Calls.{steps_of, begins_of}
use Rattle.repeat_run.specs.declared.BodyRun.{BodyRun}
use Rattle.repeat_run.proofs.Ranges.{ok-number}
use Rattle.repeat_run.proofs.BodyRun.begins.Goals as goal

-- whichever is left: a record of a body, or one of none
begun-either : (b : Body) (k : ℕ) (t : Bool) → eqb k 0 ≡ t → (x y : BodyRun)
    → (x.body ≡ b) × (steps_of x ≡ begun (positions b) b.levels 0) → (y.body ≡ no_body) × (steps_of y ≡ begun 0 0 0)
    → begins_of (record { run = y; refusal = record { number = k }; begun = x; begins = t })
    ≡ cond t (b, record { number = 0; run = begun (positions b) b.levels 0 }) (no_body, record { number = k; run = begun 0 0 0 })
begun-either b k true e x y p q = λ i. (p.0 i, record { number = eqb-true k 0 e i; run = p.1 i })
begun-either b k false e x y p q = λ i. (q.0 i, record { number = k; run = q.1 i })

pub returns : goal.returns
unfolding body_start
returns c =
    let refused = c.known_refusal-refused in
    let begins = ok-number refused.result ∙ sym c.is_ok.ensures.value in
    rw (sym refused.ensures, c.of.ensures, begins)
    (begun-either _ _ _ begins c.begun-2.result c.begun.result c.begun-2.ensures c.begun.ensures)
