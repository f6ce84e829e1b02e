-- What planning answers without a refusal: a body in its ranges, tables with room for it, and the numbers that its image says. Assumes nothing.
use Prim.Native.Nat.{ℕ}
use mathlib.Core.Path.{◌≡◌, ap}
use mathlib.Core.List.{List}
use mathlib.Core.Logic.{inl, inr}
use lib.ListN.{length}
use Rattle.rules.specs.Image.{profile}
use Rattle.rules.specs.Repeat.{LentBody, body_of}
use Rattle.rules.specs.declared.Body.{Body}
use Rattle.rules.proofs.Differences.{not-above}
use Rattle.print_lines.specs.Lines.{four_line}
use Rattle.repeat_limits.specs.Limits.{CountsIn}
use Rattle.repeat_planner.specs.PlanningBody.{body_rooms, PlansBody}
use Rattle.repeat_planner.specs.declared.BodyPlanned.{BodyPlanned}
use Rattle.repeat_planner.proofs.Answers.{Clear, clear}
use Rattle.repeat_text.specs.Text.{Lent}

module _ {s : List ℕ} {N policy : ℕ} {before after : LentBody} {r : BodyPlanned} (p : PlansBody s N policy before after r) (none : r.refusal.number ≡ 0) where
  body_is : r.body ≡ body_of (profile s) N policy
  body_is = rw none at p.body

  nothing : Clear s N policy (body_rooms (profile s).n (profile s).levels before)
  nothing = clear s N policy _ (rw none at p.number)

  in_ranges : CountsIn (body_of (profile s) N policy)
  in_ranges = record {
    some_action = not-above (λ l. nothing.body.not_count (inl (inl l)));
    few = not-above (λ l. nothing.body.not_count (inl (inr (inl l))));
    some_level = not-above (λ l. nothing.body.not_count (inl (inr (inr (inl l)))));
    few_levels = not-above (λ l. nothing.body.not_count (inl (inr (inr (inr l)))));
    some_cycle = not-above (λ l. nothing.body.not_count (inr (inl l)));
    cycle_in = not-above (λ l. nothing.body.not_count (inr (inr l)));
    some_repeat = not-above (λ l. nothing.repeats (inl (inl l)));
    few_repeats = not-above (λ l. nothing.repeats (inl (inr l)));
  }

  pub lent_of : length after.order ≡ length before.order → length after.summaries ≡ length before.summaries
      → Lent r.body after.order after.summaries
  lent_of same-o same_s = rw body_is (record {
    counts = in_ranges;
    known = nothing.known;
    ordered = rw same-o (not-above (λ l. nothing.room (inl l)));
    summed = rw same_s (not-above (λ l. nothing.room (inr (inl l))));
  })

  -- the body's four numbers
  pub said : four_line r.body.n r.body.levels r.body.cycle r.body.repeats
      ≡ four_line (profile s).n (profile s).levels (profile s).cycle N
  said = ap (λ (b : Body). four_line b.n b.levels b.cycle b.repeats) body_is
