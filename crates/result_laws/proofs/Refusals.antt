-- A refusal is told by the number of its reason and the action at fault. Assumes nothing.
use Prim.Native.Nat.{ℕ, ◌<◌}
use mathlib.Core.Path.{◌≡◌, refl, sym, ap, ◌∙◌, subst}
use native.Mathlib.Bridge.{le_prop}
use Rattle.std.specs.Prelude.{Option, Some, None, Result, Ok, Err}
use Rattle.std.specs.Option.{unwrap_or}
use Rattle.std.proofs.lemmas.Bool.{lt-ltb}
use Rattle.rules.specs.Numbers.{most_actions}
use Rattle.rules.specs.Reasons.{number_of, blamed_action, fault_of, number, fault}
use Rattle.rules.specs.declared.Reason.{Reason}
use Rattle.rules.specs.declared.Reason.TheVariants.{Short, Version, Count, Length, Spare, Range, Table, Loop, Unfit, Finished, Turn, Back, Clock, Trace, Name, Duration, Room, Reading, Repeats, Policy}
use Rattle.rules.specs.declared.blame.Blame.{Blame}
use Rattle.rules.specs.declared.Fault.{Fault}
use Rattle.rules.proofs.Reasons.{some_number}
use Rattle.result_laws.specs.Told.{TellsResult, reason_by, action_by}

-- ---- a reason

pub reason_by-number_of : (r : Reason) → reason_by (number_of r) ≡ r
reason_by-number_of Short = refl
reason_by-number_of Version = refl
reason_by-number_of Count = refl
reason_by-number_of Length = refl
reason_by-number_of Spare = refl
reason_by-number_of Range = refl
reason_by-number_of Table = refl
reason_by-number_of Loop = refl
reason_by-number_of Unfit = refl
reason_by-number_of Finished = refl
reason_by-number_of Turn = refl
reason_by-number_of Back = refl
reason_by-number_of Clock = refl
reason_by-number_of Trace = refl
reason_by-number_of Name = refl
reason_by-number_of Duration = refl
reason_by-number_of Room = refl
reason_by-number_of Reading = refl
reason_by-number_of Repeats = refl
reason_by-number_of Policy = refl

-- Reasons of one number are one.
pub one_reason : (r t : Reason) → number_of r ≡ number_of t → r ≡ t
one_reason r t e = sym (reason_by-number_of r) ∙ ap reason_by e ∙ reason_by-number_of t

-- ---- who is at fault

pub action_by-blamed_action : (a : Option ℕ) → unwrap_or a 0 < most_actions → action_by (blamed_action a) ≡ a
action_by-blamed_action None x = refl
action_by-blamed_action (Some a) x = rw (lt-ltb a most_actions x)

-- Actions of a profile, or none, that are told by one number are one.
one_action : (a b : Option ℕ) → unwrap_or a 0 < most_actions → unwrap_or b 0 < most_actions → blamed_action a ≡ blamed_action b → a ≡ b
one_action a b x y e = sym (action_by-blamed_action a x) ∙ ap action_by e ∙ action_by-blamed_action b y

-- Blames of one reason and one action are one, however it was shown that a profile has the action.
abbrev blame : (r : Reason) (a : Option ℕ) → unwrap_or a 0 < most_actions → Blame
blame r a named = record { reason = r; action = a; named = named }

same : {r t : Reason} {a b : Option ℕ} → r ≡ t → a ≡ b → (x : unwrap_or a 0 < most_actions) (y : unwrap_or b 0 < most_actions) → blame r a x ≡ blame t b y
same {r} {t} {a} {b} p q x y =
    subst (λ (s : Reason). blame r a x ≡ blame s b y) p
    (subst (λ (c : Option ℕ). (z : unwrap_or c 0 < most_actions) → blame r a x ≡ blame r c z) q (λ z. ap (blame r a) (le_prop x z)) y)

-- Blames of one fault are one.
pub one_blame : (b c : Blame) → fault_of b ≡ fault_of c → b ≡ c
one_blame b c e =
    same (one_reason b.reason c.reason (ap (λ (f : Fault). f.number) e)) (one_action b.action c.action b.named c.named (ap (λ (f : Fault). f.action) e))
    b.named c.named

-- ---- a record made of a Result

-- It tells the Result where the refusal can be read off it, and where there is none the value.
module _ {A E F K : Type 0} (refused : Result A E → K) (apart : (a : A) (e : E) → refused (Ok a) ≡ refused (Err e) → ⊥)
    (one : (e d : E) → refused (Err e) ≡ refused (Err d) → e ≡ d)
    (flat : Result A E → F) (refusal : F → K) (value : F → A)
    (ok : (a : A) → refusal (flat (Ok a)) ≡ refused (Ok a))
    (err : (e : E) → refusal (flat (Err e)) ≡ refused (Err e))
    (back : (a : A) → value (flat (Ok a)) ≡ a) where
  told : TellsResult flat
  told (Ok a) (Ok b) e = ap Ok (sym (back a) ∙ ap value e ∙ back b)
  told (Ok a) (Err d) e = absurd (apart a d (sym (ok a) ∙ ap refusal e ∙ err d))
  told (Err d) (Ok a) e = absurd (apart a d (sym (sym (err d) ∙ ap refusal e ∙ ok a)))
  told (Err d) (Err c) e = ap Err (one d c (sym (err d) ∙ ap refusal e ∙ err c))

-- The same of a Result of a reason,
pub reason_tells : {A F : Type 0} (flat : Result A Reason → F) (refusal : F → ℕ) (value : F → A)
    → ((a : A) → refusal (flat (Ok a)) ≡ 0)
    → ((r : Reason) → refusal (flat (Err r)) ≡ number_of r)
    → ((a : A) → value (flat (Ok a)) ≡ a) → TellsResult flat
reason_tells {A} = told (number {A = A}) (λ a r e. some_number r (sym e)) one_reason

-- and of one of a blame.
pub blame_tells : {A F : Type 0} (flat : Result A Blame → F) (refusal : F → Fault) (value : F → A)
    → ((a : A) → refusal (flat (Ok a)) ≡ record { number = 0; action = most_actions })
    → ((b : Blame) → refusal (flat (Err b)) ≡ fault_of b)
    → ((a : A) → value (flat (Ok a)) ≡ a) → TellsResult flat
blame_tells {A} = told (fault {A = A}) (λ a b e. some_number b.reason (sym (ap (λ (f : Fault). f.number) e))) one_blame
