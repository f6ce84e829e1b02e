-- What the programs print is settled by the image, the policy and the durations. Assumes nothing.
use Prim.Native.Nat.{ℕ, suc, ◌+◌, ◌*◌, ◌-◌, ◌≤◌, ◌<◌}
use mathlib.Core.Path.{◌≡◌, refl, sym, ap, ◌∙◌}
use mathlib.Core.List.{List, [], ◌∷◌, ◌++◌}
use mathlib.Core.Logic.{⊎_elim}
use native.Mathlib.Nat.{le_refl}
use native.Mathlib.Omega.{arith}
use lib.IntN.{ℤ, pos}
use lib.ListN.{length, get_or}
use Rattle.rules.specs.Numbers.{refused_duration, refused_room, refused_policy}
use Rattle.rules.specs.Words.{cat, one_if}
use Rattle.rules.specs.Image.{profile}
use Rattle.rules.specs.Order.{Order, TheOrder}
use Rattle.rules.specs.Limits.{tables, limit_by, coast_bound, coast_bounds, planned}
use Rattle.rules.specs.Run.{Run, decides}
use Rattle.rules.specs.Dry.{LongEntry, cell}
use Rattle.rules.specs.Refusals.{Ground, ◌when◌, Tight, UnknownPolicy, kept, image_checks}
use Rattle.rules.specs.declared.Fault.{Fault}
use Rattle.rules.proofs.Refusals.{Sound, refuses-one, accepted_parts}
use Rattle.rules.proofs.Accepted.{some_level}
use Rattle.rules.proofs.Limits.Years.{alike_by}
use Rattle.rules.proofs.Demand.Alike.{Alike, before-alike}
use Rattle.rules.proofs.Order.OfProfile.{order_settled}
use Rattle.fields.proofs.Cats.{cat_ext}
use Rattle.fields.proofs.Rows.{getD_blocks}
use Rattle.planner.proofs.Alike.{bounds-alike}
use Rattle.planner.proofs.Settled.{settled_alike, kept-one}
use Rattle.dry_frame.specs.Frame.{run_at}
use Rattle.text.proofs.Puts.{puts_one}
use Rattle.print.specs.Plan.{counts_line, plan_text, told_call, TellsPlan}
use Rattle.print_lines.specs.Lines.{four_line, fault_text}
use Rattle.print.specs.Dry.{TellsDry}
use Rattle.print.proofs.Plans.{position_ext}

-- what is told of a dry run by an order
abbrev end_line : Run → List ℕ
end_line z = four_line z.decisions z.clock (one_if z.overrun) (one_if z.late)

abbrev told_dry : (s : List ℕ) (policy : ℕ) (d : List ℕ) → Order (profile s).n → List ℕ
told_dry s policy d o =
    cat (λ i. four_line i (o.at i) (run_at s policy d o (suc i)).level (one_if (decides (run_at s policy d o i)))) (profile s).n
    ++ end_line (run_at s policy d o (profile s).n)

-- ---- the plan

module _ {s : List ℕ} {policy : ℕ} {out out₁ out₂ : List ℕ} {r t : ℕ} (x : TellsPlan s policy out out₁ r) (y : TellsPlan s policy out out₂ t) where
  refusal : x.refusal ≡ y.refusal
  refusal = refuses-one (told_call s policy) x.refusal y.refusal x.given y.given

  number : x.refusal.number ≡ y.refusal.number
  number = ap (λ (f : Fault). f.number) refusal

  -- the text by an order
  abbrev text : Order (profile s).n → List ℕ
  text o = plan_text (profile s).n (profile s).levels (profile s).cycle o.at (limit_by policy (tables (profile s) o))

  same_text : x.refusal.number ≡ 0 → text x.o ≡ text y.o
  same_text none =
      let a = x.the_order none in
      let b = y.the_order (sym number ∙ none) in
      let own = refused_policy when UnknownPolicy policy ∷ [] in
      let sound = ⊎_elim (λ p. absurd (p.1 none)) (λ p. p.0) (accepted_parts s own x.refusal.number x.given.number) in
      let alike = settled_alike sound.not_count a b in
      ap (λ (z : List ℕ). counts_line (profile s).n (profile s).levels (profile s).cycle ++ z)
      (cat_ext _ _ (profile s).n
      (λ i l. position_ext i _ _ (profile s).levels (order_settled a b i l) (λ q m. alike_by alike policy i q l m)))

  texts_one : kept x.refusal.number (text x.o) (fault_text x.refusal) ≡ kept y.refusal.number (text y.o) (fault_text y.refusal)
  texts_one =
      kept-one x.refusal.number y.refusal.number (text x.o) (text y.o) (fault_text x.refusal) number same_text refl
      (ap (λ (f : Fault). kept y.refusal.number (text y.o) (fault_text f)) (sym refusal))

  -- Two results that satisfy the contract on the same input are equal.
  pub plan_text_settled : (out₁ ≡ out₂) × (r ≡ t)
  plan_text_settled = puts_one texts_one x.text y.text

-- ---- the dry run

module _ {s : List ℕ} {policy : ℕ} {d out out₁ out₂ : List ℕ} {r t : ℕ} (x : TellsDry s policy d out out₁ r) (y : TellsDry s policy d out out₂ t) where
  abbrev own : List Ground
  own =
      refused_policy when UnknownPolicy policy
      ∷ refused_room when Tight ((length d, (profile s).n * (profile s).levels) ∷ [])
      ∷ refused_duration when LongEntry ((profile s).n * (profile s).levels) d
      ∷ []

  dry-refusal : x.refusal ≡ y.refusal
  dry-refusal = refuses-one (image_checks s ++ own) x.refusal y.refusal x.given y.given

  dry-number : x.refusal.number ≡ y.refusal.number
  dry-number = ap (λ (f : Fault). f.number) dry-refusal

  module _ (none : x.refusal.number ≡ 0) where
    first : TheOrder (profile s) x.o
    first = x.the_order none

    second : TheOrder (profile s) y.o
    second = y.the_order (sym dry-number ∙ none)

    sound : Sound s
    sound = ⊎_elim (λ p. absurd (p.1 none)) (λ p. p.0) (accepted_parts s own x.refusal.number x.given.number)

    -- two orders of one profile give one plan, and so one cycle
    same-plan : Alike 16 (planned policy (tables (profile s) x.o)) (planned policy (tables (profile s) y.o))
    same-plan =
        let alike = settled_alike sound.not_count first second in
        record {
          n = refl;
          levels = refl;
          limit = λ i q l m. alike_by alike policy i q l m;
          bound = λ i q r m a b c.
              let one_less : suc (r - 1) ≡ r = omega arith in
              rw (← one_less) (entry x.o i q (r - 1) (omega arith) m (omega arith)
              ∙ ap (λ (l : List ℤ). get_or l ((i * (profile s).levels + q) * 16 + (r - 1)) (pos 0)) (bounds-alike alike policy)
              ∙ sym (entry y.o i q (r - 1) (omega arith) m (omega arith)));
        }
      where
        entry : (o : Order (profile s).n) (i q r : ℕ) → i < (profile s).n → q < (profile s).levels → r < 16
            → coast_bound (tables (profile s) o) (limit_by policy (tables (profile s) o)) i q (suc r)
            ≡ get_or (coast_bounds (tables (profile s) o) (limit_by policy (tables (profile s) o)) (profile s).n (profile s).levels) ((i * (profile s).levels + q) * 16 + r) (pos 0)
        entry o i q r l m b =
            let S = tables (profile s) o in
            sym (getD_blocks (λ i q x. coast_bound S (limit_by policy S) i q (suc x)) (profile s).levels 16 (profile s).n i q r (pos 0) l m b)

    run-one : (i : ℕ) → i ≤ (profile s).n → run_at s policy d x.o i ≡ run_at s policy d y.o i
    run-one =
        let alike = settled_alike sound.not_count first second in
        before-alike same-plan (some_level (profile s) x.o sound.not_count) (tables (profile s) x.o).worst (tables (profile s) y.o).worst
        (cell d (profile s).levels) (λ i q l m. alike.worst i q l m) 0

    same-dry : told_dry s policy d x.o ≡ told_dry s policy d y.o
    same-dry =
        let n : ℕ = (profile s).n in
        rw (run-one n (le_refl n))
        (ap (λ (z : List ℕ). z ++ end_line (run_at s policy d y.o n))
        (cat_ext _ _ n (λ i l. rw (order_settled first second i l, run-one i (omega arith), run-one (suc i) l))))

  -- Two results that satisfy the contract on the same input are equal.
  pub dry_text_settled : (out₁ ≡ out₂) × (r ≡ t)
  dry_text_settled = puts_one dry_texts_one x.text y.text
    where
      dry_texts_one : kept x.refusal.number (told_dry s policy d x.o) (fault_text x.refusal)
          ≡ kept y.refusal.number (told_dry s policy d y.o) (fault_text y.refusal)
      dry_texts_one =
          kept-one x.refusal.number y.refusal.number (told_dry s policy d x.o) (told_dry s policy d y.o) (fault_text x.refusal) dry-number same-dry refl
          (ap (λ (f : Fault). kept y.refusal.number (told_dry s policy d y.o) (fault_text f)) (sym dry-refusal))
