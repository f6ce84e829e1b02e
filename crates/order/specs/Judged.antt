-- The order of a profile, and refusals 8 and 9.
use Rattle.std.specs.Prelude.{ℕ, ◌<◌, ◌≡◌, Bool, true, false, ◌↔◌, ◌≢◌, List, [], ◌∷◌, replicate, cond, Result, Ok, Err}
use Rattle.rules.specs.Numbers.{most_actions, refused_loop, refused_unfit}
use Rattle.rules.specs.Image.{Profile}
use Rattle.rules.specs.Order.{Order, TheOrder, Fit}
use Rattle.rules.specs.Refusals.{Ground, ◌when◌, ◌blames◌below◌, Refuses, LoopFault, Looped, Unfit}
use Rattle.rules.specs.Reasons.{fault_of}
use Rattle.rules.specs.declared.blame.Blame.{Blame}
use Rattle.rules.specs.declared.Fault.{Fault}
use Rattle.sets.specs.Sets.{Below}
use Rattle.order_urgency.specs.Spread.{OneDeadline}
use Rattle.order.specs.declared.Judgement.{Judgement}
use Rattle.order.specs.Arranged.{Lists, ZeroFrom}

-- All deadlines are one, and each mask names lower numbers alone.
pub record ByNumber (F : Profile) : Type 0 where
  pub one : OneDeadline F
  pub lower : (a : ℕ) → a < F.n → Below (F.mask a) a

-- The list has the actions in the order of F and then 0, unless the masks contain a loop; looped tells, and then the list has 0 alone.
pub record Ordered (F : Profile) (looped : Bool) (l : List ℕ) : Type 0 where
  pub loop : (looped ≡ true) ↔ Looped F
  pub whole : looped ≡ false → (o : Order F.n) × TheOrder F o × Lists l o
  pub rest : ZeroFrom F.n l
  pub none : looped ≡ true → l ≡ replicate most_actions 0

-- r tells whether F is fit, where the list has the actions in the order of F.
abbrev pub TellsFit : Profile → List ℕ → Bool → Type 0
TellsFit F l r = (o : Order F.n) → TheOrder F o → Lists l o → (r ≡ true) ↔ Fit F

-- 8 and 9 of a profile
abbrev pub order_checks : Profile → List Ground
order_checks F = refused_loop blames LoopFault F below F.n ∷ refused_unfit when Unfit F ∷ []

-- The refusal that a judgement says, and the list that it has: for 8 it has 0 alone.
abbrev pub verdict : Result Judgement Blame → Fault
verdict (Ok j) = record { number = cond j.unfit refused_unfit 0; action = most_actions }
verdict (Err b) = fault_of b

abbrev pub judged_order : Result Judgement Blame → List ℕ
judged_order (Ok j) = j.order
judged_order (Err _) = replicate most_actions 0

-- f is the refusal of F by 8 and 9, or none; but for 8 the list has the actions in the order of F and then 0, for 8 it has 0 alone.
pub record Verdict (F : Profile) (f : Fault) (l : List ℕ) : Type 0 where
  pub given : Refuses (order_checks F) f
  pub order : f.number ≢ refused_loop → (o : Order F.n) × TheOrder F o × Lists l o
  pub rest : ZeroFrom F.n l
  pub looped : f.number ≡ refused_loop → l ≡ replicate most_actions 0
