-- What the plan program prints of an image, by a policy.
use Rattle.std.specs.Prelude.{ℕ, ◌≡◌, List, [], ◌∷◌, ◌++◌, ℤ}
use Rattle.rules.specs.Numbers.{refused_policy}
use Rattle.rules.specs.Words.{cat, tab}
use Rattle.rules.specs.Image.{profile}
use Rattle.rules.specs.Order.{Order, TheOrder}
use Rattle.rules.specs.Limits.{tables, limit_by}
use Rattle.rules.specs.Refusals.{Ground, ◌when◌, Refuses, UnknownPolicy, kept, image_checks}
use Rattle.rules.specs.declared.Fault.{Fault}
use Rattle.text.specs.Digits.{decimal, signed, line}
use Rattle.text.specs.Put.{Puts}
use Rattle.print_lines.specs.Lines.{fault_text}

-- actions, levels, cycle
unfoldable pub counts_line : ℕ → ℕ → ℕ → List ℕ
counts_line n L cycle = line (decimal n ∷ decimal L ∷ decimal cycle ∷ [])

-- position, action and limits by level
unfoldable pub position_line : ℕ → ℕ → (ℕ → ℤ) → ℕ → List ℕ
position_line i action limits L = line (decimal i ∷ decimal action ∷ tab (λ q. signed (limits q)) L)

-- The counts, then a line for each position.
abbrev pub plan_text : ℕ → ℕ → ℕ → (ℕ → ℕ) → (ℕ → ℕ → ℤ) → List ℕ
plan_text n L cycle action limits = counts_line n L cycle ++ cat (λ i. position_line i (action i) (limits i) L) n

-- The image's refusals, then 20. The program's own tables have room for every profile, so that there is no 17.
abbrev pub told_call : List ℕ → ℕ → List Ground
told_call s policy = image_checks s ++ (refused_policy when UnknownPolicy policy ∷ [])

-- That text of the image s by the limits of the policy, or its refusal, is put into the buffer from its start on. Without a refusal the order is the
-- profile's; with one there need not be any, and o counts for nothing.
pub record TellsPlan (s : List ℕ) (policy : ℕ) (out out' : List ℕ) (r : ℕ) : Type 0 where
  pub refusal : Fault
  pub given : Refuses (told_call s policy) refusal
  pub o : Order (profile s).n
  pub the_order : refusal.number ≡ 0 → TheOrder (profile s) o
  pub text : Puts out 0
      (kept refusal.number
      (plan_text (profile s).n (profile s).levels (profile s).cycle o.at (limit_by policy (tables (profile s) o)))
      (fault_text refusal))
      out' r
