-- What the grounds of a refresh give: room, and after an accepted image its own refusal. Assumes nothing.
use Prim.Native.Nat.{ℕ, ◌≤◌, ◌<◌}
use mathlib.Core.List.{List}
use mathlib.Core.Logic.{inl}
use native.Mathlib.Omega.{arith}
use lib.Dec.{lit<}
use lib.ListN.{length}
use Rattle.rules.specs.Numbers.{most_actions}
use Rattle.rules.specs.Image.{Profile, profile}
use Rattle.rules.specs.Refusals.{First, Refuses, image_checks, Accepted}
use Rattle.rules.proofs.Refusals.{first-none, blameless, refuses-goes_on, image-numbered}
use Rattle.refresh.specs.Refresh.{refreshing, own_grounds}

-- Without a refusal of its own the call has room.
pub enough : (F : Profile) (trace : List ℕ) (needed room : ℕ) → First (own_grounds F trace needed room) 0 → needed ≤ room
enough F trace needed room p =
    let none = (first-none (own_grounds F trace needed room) (lit< tt, (lit< tt, (lit< tt, (lit< tt, tt))))).0 p in
    let not_tight : room < needed → ⊥ = λ h. none.1.1.1.0 (inl h) in
    omega arith

-- Of an accepted image the call's own grounds give, which blame no action.
pub after-image : (s trace out : List ℕ) (k : ℕ) → Accepted s → First (own_grounds (profile s) trace (length s) (length out)) k
    → Refuses (refreshing s trace out) (record { number = k; action = most_actions })
after-image s trace out k a p =
    let own = own_grounds (profile s) trace (length s) (length out) in
    refuses-goes_on (image_checks s) own _ (image-numbered s) a
    (blameless own k ((λ a z. z), ((λ a z. z), ((λ a z. z), ((λ a z. z), tt)))) p)
