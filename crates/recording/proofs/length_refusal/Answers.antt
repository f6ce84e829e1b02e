-- The image's refusal, and where it has none 20, else 14. Assumes nothing.
use mathlib.Core.Path.{refl}
use mathlib.Core.List.{List, [], ◌∷◌, ◌++◌}
use mathlib.Core.Logic.{inl}
use Prim.Native.Nat.{ℕ}
use native.Mathlib.Omega.{arith}
use Rattle.rules.specs.Numbers.{most_actions, refused_trace, refused_policy}
use Rattle.rules.specs.Refusals.{Ground, ◌when◌, First, Refuses, UnknownPolicy, image_checks}
use Rattle.rules.proofs.Reasons.{some_number}
use Rattle.rules.proofs.Refusals.{blameless, first_stops, first-goes_on, refuses-stops, refuses-goes_on, image-numbered}
use Rattle.recording.proofs.length_refusal.Goals as goal

abbrev known : ℕ → List Ground
known policy = refused_policy when UnknownPolicy policy ∷ []

abbrev trace : List Ground
trace = refused_trace when Unit {0} ∷ []

abbrev own : ℕ → List Ground
own policy = refused_policy when UnknownPolicy policy ∷ trace

-- of an accepted image
after : (s : List ℕ) (policy k : ℕ) → First (image_checks s) 0 → First (own policy) k
    → Refuses (image_checks s ++ own policy) (record { number = k; action = most_actions })
after s policy k accepted given =
    refuses-goes_on (image_checks s) (own policy) _ (image-numbered s) accepted
    (blameless (own policy) k ((λ a z. z), ((λ a z. z), tt)) given)

pub returns-in-Err : goal.returns-in-Err
returns-in-Err c =
    refuses-stops (image_checks c.args.image.now) (own c.args.policy) _ c.in-Err.ensures (some_number c.in-Err.blame.reason)

pub returns-in-Err-policy_refusal : goal.returns-in-Err-policy_refusal
returns-in-Err-policy_refusal c =
    let unknown = c.in-Err-policy_refusal in
    let policy = c.args.policy in
    rw (c.from.ensures.0, c.from.ensures.1)
    (after c.args.image.now policy _ c.in_default.ensures.number
    (first_stops (known policy) trace _ unknown.ensures (some_number unknown.reason)))

pub returns : goal.returns
returns c =
    let policy = c.args.policy in
    rw (c.from-2.ensures.0, c.from-2.ensures.1)
    (after c.args.image.now policy refused_trace c.in_default.ensures.number
    (first-goes_on (known policy) trace _ (omega arith, tt) c.in_default-policy_refusal.ensures (inl (tt, refl))))
