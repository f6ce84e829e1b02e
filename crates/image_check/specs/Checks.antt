-- What the whole check answers.
use Rattle.std.specs.Prelude.{ℕ, ◌≡◌, true, ◌≢◌, ◌↔◌, List, [], ◌∷◌, ◌++◌, Result, IfOk}
use Rattle.rules.specs.Numbers.{refused_version, refused_count, refused_length, refused_spare, refused_range, refused_table, refused_loop}
use Rattle.rules.specs.Image.{header_spare, profile}
use Rattle.rules.specs.Order.{Order, TheOrder}
use Rattle.rules.specs.Reasons.{fault}
use Rattle.rules.specs.declared.blame.Blame.{Blame}
use Rattle.rules.specs.Refusals.{Ground, ◌when◌, ◌blames◌below◌, ◌or_when◌, Refuses, Count, SpareFault, RangeFault, TableFault, LoopFault, Unfit, Version, Length, image_checks}
use Rattle.order.specs.Arranged.{Lists, ZeroFrom}
use Rattle.image_check.specs.declared.Checked.{Checked}

-- the image checks in parts: after 1 those of the header, of the records, of the order
abbrev pub head_checks : List ℕ → List Ground
head_checks s = refused_version when Version s ∷ refused_count when Count (profile s) ∷ refused_length when Length s ∷ []

abbrev pub spare_check : List ℕ → List Ground
spare_check s = refused_spare blames SpareFault s below (profile s).n or_when (header_spare s ≢ 0) ∷ []

abbrev pub row_checks : List ℕ → List Ground
row_checks s = refused_range blames RangeFault (profile s) below (profile s).n ∷ refused_table blames TableFault (profile s) below (profile s).n ∷ []

abbrev pub record_checks : List ℕ → List Ground
record_checks s = spare_check s ++ row_checks s

abbrev pub loop_check : List ℕ → List Ground
loop_check s = refused_loop blames LoopFault (profile s) below (profile s).n ∷ []

abbrev pub rest_checks : List ℕ → List Ground
rest_checks s = record_checks s ++ loop_check s

-- what the image says of itself: the profile's n, levels and cycle, and its actions in order, then 0
pub record Found (s : List ℕ) (r : Checked) : Type 0 where
  pub n : r.n ≡ (profile s).n
  pub levels : r.levels ≡ (profile s).levels
  pub cycle : r.cycle ≡ (profile s).cycle
  pub order : (o : Order (profile s).n) × TheOrder (profile s) o × Lists r.order o
  pub rest : ZeroFrom (profile s).n r.order

-- r is what the checks in the row answer of the image s
pub record CheckAnswers (row : List Ground) (s : List ℕ) (r : Result Checked Blame) : Type 0 where
  pub given : Refuses row (fault r)
  pub accepted : IfOk r (Found s)

-- and without a refusal whether the profile is unfit
pub record BodyAnswers (row : List Ground) (s : List ℕ) (r : Result Checked Blame) : Type 0 where
  pub answers : CheckAnswers row s r
  pub unfit : IfOk r (λ c. (c.unfit ≡ true) ↔ Unfit (profile s))

-- r is what the whole check answers
abbrev pub Judged : List ℕ → Result Checked Blame → Type 0
Judged s r = CheckAnswers (image_checks s) s r
