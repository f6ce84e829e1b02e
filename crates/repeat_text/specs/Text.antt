-- What is printed of a body repeated: n, L, the cycle and N; then a line for each unrolled position.
use Rattle.std.specs.Prelude.{ℕ, ◌+◌, ◌-◌, ◌*◌, ◌≤◌, ◌<◌, ◌≡◌, List, [], length}
use Rattle.rules.specs.Numbers.{summary_numbers}
use Rattle.rules.specs.Words.{cat}
use Rattle.rules.specs.Image.{Profile, profile}
use Rattle.rules.specs.Order.{Order, TheOrder}
use Rattle.rules.specs.Limits.{tables, limit_by}
use Rattle.rules.specs.Refusals.{kept, UnknownPolicy}
use Rattle.rules.specs.Repeat.{unrolled, LentBody, positions, lent_plan, PlannedBody, action_at}
use Rattle.rules.specs.declared.Body.{Body}
use Rattle.rules.specs.declared.Fault.{Fault}
use Rattle.text.specs.Put.{Puts}
use Rattle.print_lines.specs.Lines.{four_line, fault_text}
use Rattle.print.specs.Plan.{position_line}
use Rattle.repeat_limits.specs.Limits.{CountsIn}
use Rattle.repeat_planner.specs.PlanningBody.{PlansBody}
use Rattle.repeat_text.specs.declared.Begun.{Begun}
use Rattle.repeat_text.specs.declared.Told.{Told}

abbrev pub longest_line : ℕ
longest_line = 218

-- ---- the lines

-- that of an unrolled position by lent tables, whoever wrote them: position, action and limits by level
unfoldable pub lent_line : Body → List ℕ → List ℕ → ℕ → List ℕ
lent_line b order summaries i =
    position_line i (action_at b.n order i) ((lent_plan b (record { order = []; summaries = summaries; worst = [] })).limit i) b.levels

abbrev pub lent_lines : Body → List ℕ → List ℕ → ℕ → ℕ → List ℕ
lent_lines b order summaries from to = cat (λ k. lent_line b order summaries (from + k)) (to - from)

-- that of the unrolled system, which the plan program would print of it by the policy, in its order
abbrev pub unrolled_line : ℕ → (F : Profile) → Order F.n → ℕ → List ℕ
unrolled_line policy F p i = position_line i (p.at i) (limit_by policy (tables F p) i) F.levels

-- ---- the calls

-- tables lent for a body in its ranges, of a policy that is known
pub record Lent (b : Body) (order summaries : List ℕ) : Type 0 where
  pub counts : CountsIn b
  pub known : UnknownPolicy b.policy → ⊥
  pub ordered : b.n ≤ length order
  pub summed : b.n * b.levels * summary_numbers ≤ length summaries

-- The lines of the positions from one on are put into the buffer, each of them whole, up to the last or as many as there is room for; at least
-- one. Where planning wrote the tables they are those of the unrolled system, by whatever order is its own.
pub record TellsLines (b : Body) (order summaries out : List ℕ) (at from : ℕ) (out' : List ℕ) (r : Told) : Type 0 where
  pub onward : from < r.next
  pub most : r.next ≤ positions b
  pub text : Puts out at (lent_lines b order summaries from r.next) out' r.at
  pub whole : r.at ≡ at + length (lent_lines b order summaries from r.next)
  pub unrolled_lines : {F : Profile} {o : Order F.n} {T : LentBody} → T.order ≡ order → T.summaries ≡ summaries → PlannedBody F o b T
      → {p : Order (b.repeats * F.n)} → TheOrder (unrolled F b.repeats) p
      → lent_lines b order summaries from r.next ≡ cat (λ k. unrolled_line b.policy (unrolled F b.repeats) p (from + k)) (r.next - from)

-- n, L, the cycle and N; or the refusal
abbrev pub first_text : List ℕ → ℕ → Fault → List ℕ
first_text s N refusal = kept refusal.number (four_line (profile s).n (profile s).levels (profile s).cycle N) (fault_text refusal)

-- The body is planned, and that line is put into the buffer from its start on. Without a refusal the tables are lent for the lines.
pub record TellsFirst (s : List ℕ) (N policy : ℕ) (before after : LentBody) (out out' : List ℕ) (r : Begun) : Type 0 where
  pub plans : PlansBody s N policy before after r.planned
  pub lent : r.planned.refusal.number ≡ 0 → Lent r.planned.body after.order after.summaries
  pub text : Puts out 0 (first_text s N r.planned.refusal) out' r.at
