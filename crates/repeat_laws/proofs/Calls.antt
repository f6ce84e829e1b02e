-- The calls over a body repeated: a frame by them, whoever wrote the lent tables, and what they answer on planning's. Assumes nothing.
use Prim.Native.Nat.{ℕ, ◌*◌, ◌%◌, ◌≤◌, ◌<◌}
use mathlib.Core.Path.{◌≡◌, ap, sym, ◌∙◌}
use mathlib.Core.Bool.{Bool, true, false, not, cond, ◌&&◌, ◌||◌}
use native.Mathlib.Omega.{arith}
use lib.Dec.{eqb}
use lib.ListN.{length}
use borrow.Author.Tests.{le-ltb, eq-eqb}
use Rattle.rules.specs.Numbers.{last_clock, longest_coast, summary_numbers}
use Rattle.rules.specs.Words.{every}
use Rattle.rules.specs.Image.{Profile}
use Rattle.rules.specs.Order.{Order, TheOrder}
use Rattle.rules.specs.Limits.{tables, planned}
use Rattle.rules.specs.Refusals.{first}
use Rattle.rules.specs.Run.{Run, begun, decides, given, fits, in_cycle, Answer, asked_by, reported_by}
use Rattle.rules.specs.Dry.{before, cell}
use Rattle.rules.specs.Repeat.{unrolled, LentBody, positions, lent_plan, worst_lent, PlannedBody, body_tests, body_in_range, action_at, body_ask_refusal, body_ask, body_report_refusal, body_report}
use Rattle.rules.specs.declared.Body.{Body}
use Rattle.rules.proofs.Tests.{and-true}
use Rattle.rules.proofs.Calls.{InCycle, facts_in_cycle, ask_row-none, report_row-none, Called, Accepting, steps_called}
use Rattle.rules.proofs.Demand.Alike.{given-alike, fits-alike}
use Rattle.repeat_laws.proofs.Lent.{lent_alike, lent-action, some_level}

-- ---- a frame by the calls

neither : (a b c : Bool) → a ≡ false → b ≡ false → c ≡ false → a || b || c ≡ false
neither a b c p q s = ap (λ (x : Bool). x || b || c) p ∙ ap (λ (x : Bool). x || c) q ∙ s

-- A body that is not refused, with tables lent as long as it says.
pub record Lends (b : Body) (T : LentBody) : Type 0 where
  pub counts : first (body_tests b) ≡ 0
  pub some_level : 1 ≤ b.levels
  pub ordered : b.n ≤ length T.order
  pub summed : b.n * b.levels * summary_numbers ≤ length T.summaries
  pub timed : b.n * b.levels ≤ length T.worst

module _ {b : Body} {T : LentBody} (l : Lends b T) where
  in_range : (r : Run) → InCycle r → body_in_range b r ≡ true
  unfolding body_in_range
  in_range r C = (and-true (eqb (first (body_tests b)) 0) (every (in_cycle r))).1 (eq-eqb _ _ l.counts, facts_in_cycle r C)

  accepting : Accepting (lent_plan b T) (worst_lent b T) (body_ask b T) (body_report b T.worst)
  unfolding lent_plan body_ask body_report body_ask_refusal body_report_refusal
  accepting = record {
    action = action_at b.n T.order;
    asked = λ r n levels C waits more.
        ap (λ (k : ℕ). asked_by k (action_at b.n T.order r.position) (lent_plan b T) r)
        (ask_row-none _ _ r (in_range r C) (neither _ _ _ (le-ltb _ _ l.ordered) (le-ltb _ _ l.summed) (le-ltb _ _ l.timed)) waits more);
    reported = λ t r n levels C runs low high.
        ap (λ (k : ℕ). reported_by k (cell T.worst b.levels (r.position % b.n) r.level) t r)
        (report_row-none _ _ t r (in_range r C) (le-ltb _ _ l.timed) runs low high);
  }

  -- A frame stepped by the rules over the lent tables is asking and reporting through it, where it ends within the latest clock.
  pub body_called : (d : ℕ → ℕ → ℕ) → (before longest_coast (lent_plan b T) (worst_lent b T) d 0 (positions b)).clock ≤ last_clock
      → (i : ℕ) → i ≤ positions b
      → Called (body_ask b T) (body_report b T.worst) d (begun (positions b) b.levels 0) i (before longest_coast (lent_plan b T) (worst_lent b T) d 0 i)
  unfolding lent_plan
  body_called d in_time i h = steps_called accepting d l.some_level in_time i h

-- ---- on planning's tables

-- An asking, accepted or refused, answers by the order and the plan of the unrolled system.
pub asks-unrolled : {F : Profile} {o : Order F.n} {b : Body} {T : LentBody} → PlannedBody F o b T → {p : Order (b.repeats * F.n)}
    → TheOrder (unrolled F b.repeats) p → (r : Run) → r.position < b.repeats * F.n
    → body_ask b T r ≡ asked_by (body_ask_refusal b T r) (p.at r.position) (planned b.policy (tables (unrolled F b.repeats) p)) r
unfolding body_ask
asks-unrolled {F} {o} {b} {T} P {p} y r l =
    let A = lent_alike P y longest_coast in
    let gives : (ℕ → Run → Bool → Answer) = λ a s f. cond (eqb (body_ask_refusal b T r) 0)
    (Answer.gives a s.level (decides r) (decides r && not f) s) (Answer.refused (body_ask_refusal b T r) r) in
    ap (λ (a : ℕ). gives a (given longest_coast (lent_plan b T) r) (fits (lent_plan b T) r.clock r.position))
    (ap (λ (x : Body). action_at x.n T.order r.position) P.body_is ∙ lent-action P y r.position l)
    ∙ ap (λ (s : Run). gives (p.at r.position) s (fits (lent_plan b T) r.clock r.position)) (sym (given-alike A (some_level P) r l))
    ∙ ap (gives (p.at r.position) (given longest_coast (planned b.policy (tables (unrolled F b.repeats) p)) r))
    (sym (fits-alike A (some_level P) r.clock r.position l))
