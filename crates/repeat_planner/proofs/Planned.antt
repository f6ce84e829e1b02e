-- A body that was planned without a refusal: what it is, and how the tables at the fronts of the lent ones read. Assumes nothing.
use Prim.Native.Nat.{ℕ, ◌+◌, ◌*◌, ◌<◌}
use mathlib.Core.Path.{◌≡◌, refl, sym, ap, ap₂, subst, ◌∙◌}
use mathlib.Core.List.{List}
use native.Mathlib.Omega.{arith}
use lib.ListN.{get_or}
use Rattle.rules.specs.Numbers.{summary_numbers}
use Rattle.rules.specs.Words.{cat, tab, rows}
use Rattle.rules.specs.Image.{Profile, profile}
use Rattle.rules.specs.Order.{Order}
use Rattle.rules.specs.Limits.{tables}
use Rattle.rules.specs.Refusals.{Unfit, UnknownPolicy}
use Rattle.rules.specs.Repeat.{unrolled, Repeats, Sums, LentBody, numbers_of, rest_of, body_tables, body_of, stretch_at, PlannedBody}
use Rattle.rules.specs.declared.Body.{Body}
use Rattle.fields.specs.Fields.{splice}
use Rattle.fields.proofs.Cats.{cat_ext}
use Rattle.fields.proofs.Written.{tab-written, rows_written, blocks_written}
use Rattle.repeat_laws.proofs.Joins.{same}
use Rattle.repeat_planner.specs.declared.BodyPlanned.{BodyPlanned}
use Rattle.repeat_planner.specs.PlanningBody.{body_rooms, with_body_fronts, PlansBody}
use Rattle.repeat_planner.proofs.Answers.{Clear, clear}

-- a summary by its four numbers
four : (x : Sums) → numbers_of x ≡ tab (λ r. get_or (numbers_of x) r 0) summary_numbers
unfolding cat
four x = refl

-- ---- the tables

module _ (policy : ℕ) (F : Profile) (o : Order F.n) (before : LentBody) {after : LentBody} (e : after ≡ with_body_fronts before (body_tables policy F o)) where
  pub reads-order : (i : ℕ) → i < F.n → get_or after.order i 0 ≡ o.at i
  reads-order i l = tab-written o.at before.order F.n 0 (ap (λ (x : LentBody). x.order) e) i l

  pub reads-worst : (i q : ℕ) → i < F.n → q < F.levels → get_or after.worst (i * F.levels + q) 0 ≡ F.worst (o.at i) q
  reads-worst i q l m = rows_written (tables F o).worst before.worst F.n F.levels 0 (ap (λ (x : LentBody). x.worst) e) i q l m

  -- the summaries, number by number
  abbrev number : ℕ → ℕ → ℕ → ℕ
  number i q r = get_or (numbers_of (rest_of policy (tables F o) i q)) r 0

  stored : after.summaries ≡ splice before.summaries 0 (cat (λ i. rows (number i) F.levels summary_numbers) F.n)
  stored =
      ap (λ (x : LentBody). x.summaries) e
      ∙ ap (splice before.summaries 0) (cat_ext _ _ F.n (λ i _. cat_ext _ _ F.levels (λ q _. four (rest_of policy (tables F o) i q))))

  pub reads-summaries : (i q : ℕ) → i < F.n → q < F.levels → stretch_at after.summaries (i * F.levels + q) ≡ rest_of policy (tables F o) i q
  reads-summaries i q l m =
      let first : (i * F.levels + q) * summary_numbers ≡ (i * F.levels + q) * summary_numbers + 0 = omega arith in
      same (ap (λ (k : ℕ). get_or after.summaries k 0) first ∙ part 0 (omega arith)) (part 1 (omega arith)) (part 2 (omega arith)) (part 3 (omega arith))
    where
      part : (r : ℕ) → r < summary_numbers → get_or after.summaries ((i * F.levels + q) * summary_numbers + r) 0 ≡ number i q r
      part r h = blocks_written number before.summaries F.n F.levels summary_numbers 0 stored i q r l m h

-- ---- all of it

pub planned-body : {s : List ℕ} {N policy : ℕ} {before after : LentBody} {r : BodyPlanned} (p : PlansBody s N policy before after r) → r.refusal.number ≡ 0
    → PlannedBody (profile s) p.o r.body after
planned-body {s} {N} {policy} {before} {after} {r} p none = record {
  counts = nothing.body.not_count;
  range = nothing.body.not_range;
  table = nothing.body.not_table;
  repeats = λ h. nothing.repeats (subst (Repeats (profile s)) often h);
  fits = λ h. nothing.fits (subst (λ (m : ℕ). Unfit (unrolled (profile s) m)) often h);
  known = λ h. nothing.known (subst UnknownPolicy by h);
  the_order = p.the_order none;
  body_is = body_is ∙ ap₂ (body_of (profile s)) (sym often) (sym by);
  order_is = reads-order policy (profile s) p.o before written;
  summaries_are = λ i q l m. reads-summaries policy (profile s) p.o before written i q l m ∙ ap (λ (y : ℕ). rest_of y (tables (profile s) p.o) i q) (sym by);
  worst_is = reads-worst policy (profile s) p.o before written;
}
  where
    nothing : Clear s N policy (body_rooms (profile s).n (profile s).levels before)
    nothing = clear s N policy _ (rw none at p.number)

    body_is : r.body ≡ body_of (profile s) N policy
    body_is = rw none at p.body

    often : r.body.repeats ≡ N
    often = ap (λ (b : Body). b.repeats) body_is

    by : r.body.policy ≡ policy
    by = ap (λ (b : Body). b.policy) body_is

    written : after ≡ with_body_fronts before (body_tables policy (profile s) p.o)
    written = rw none at p.tables_are
