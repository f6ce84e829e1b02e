-- The Result that a call answers, and the flat record of it that the call's contract speaks of.
use Rattle.std.specs.Prelude.{ℕ, ◌-◌, ◌≡◌, cond, List, [], ◌∷◌, ltb, get_or, Option, Some, None, Result}
use Rattle.rules.specs.Numbers.{most_actions}
use Rattle.rules.specs.declared.Reason.{Reason}
use Rattle.rules.specs.declared.Reason.TheVariants.{Short, Version, Count, Length, Spare, Range, Table, Loop, Unfit, Finished, Turn, Back, Clock, Trace, Name, Duration, Room, Reading, Repeats, Policy}

-- A flat record tells the Result that it is made of: two Results that make one record are one, both accepted with one value, or both refused for one
-- reason with one action at fault.
abbrev pub TellsResult : {A E F : Type 0} → (Result A E → F) → Type 0
TellsResult {A} {E} flat = (r t : Result A E) → flat r ≡ flat t → r ≡ t

-- the reasons by their numbers, from 1 on
abbrev pub reasons : List Reason
reasons =
    Short
    ∷ Version
    ∷ Count
    ∷ Length
    ∷ Spare
    ∷ Range
    ∷ Table
    ∷ Loop
    ∷ Unfit
    ∷ Finished
    ∷ Turn
    ∷ Back
    ∷ Clock
    ∷ Trace
    ∷ Name
    ∷ Duration
    ∷ Room
    ∷ Reading
    ∷ Repeats
    ∷ Policy
    ∷ []

-- the reason that a number of refusal stands for
abbrev pub reason_by : ℕ → Reason
reason_by k = get_or reasons (k - 1) Short

-- the action at fault that a number stands for, none where it is no action of a profile
abbrev pub action_by : ℕ → Option ℕ
action_by k = cond (ltb k most_actions) (Some k) None
