use mathlib.Core.Path.{refl, ap}
use Rattle.rules.specs.Reasons.{number_of}
use Rattle.rules.proofs.Reasons.{some_number, handed_up}
use Rattle.rules.proofs.Refusals.{refuses-stops, refuses-goes_on, first-goes_on, none-at_fault}
use Rattle.fields.proofs.Bytes.{Bytes}
use Rattle.image_check.specs.Checks.{record_checks, loop_check, rest_checks, BodyAnswers}
use Rattle.image_check.proofs.Checks.{record_numbered, rest-numbered}
use Rattle.image_check.proofs.Ordering.{masked, timed, verdict as on_profile, found, loop-given, none-given, unfit-told, no_loop, nine_if}
use Rattle.image_check.proofs.Answers.{refused_body}
use Rattle.image_check.proofs.whole.checked_columns.Goals as goal

pub returns-in_err-check_records : goal.returns-in_err-check_records
returns-in_err-check_records c =
    let s = c.args.image.now in
    let given = refuses-stops (record_checks s) (loop_check s) _ c.in_err-check_records.ensures (some_number _) in
    handed_up (BodyAnswers (rest_checks s) s) c.from_residual.result c.from_residual.ensures.1 (λ b e. refused_body b (rw (← e) at given))

pub judge-requires : goal.judge-requires
judge-requires c =
    let bytes : Bytes c.args.image.now = λ k. (c.type_inv.image k).fits in
    (masked c.requires.0 c.requires.1 c.in_ok-check_records.ensures.number, timed c.requires.0 c.requires.1 bytes)

pub returns-in_err-order : goal.returns-in_err-order
returns-in_err-order c =
    let s = c.args.image.now in
    let eight = loop-given (on_profile c.requires.0 c.requires.1 c.in_err-order.ensures.verdict) (ap number_of c.in_err-order.ensures.looped) in
    let given = refuses-goes_on (record_checks s) (loop_check s) _ (record_numbered s) c.in_ok-check_records.ensures.number eight in
    handed_up (BodyAnswers (rest_checks s) s) c.from_residual-in_err-order.result c.from_residual-in_err-order.ensures.1 (λ b e. refused_body b (rw (← e) at given))

pub returns : goal.returns
returns c =
    let s = c.args.image.now in
    let judged = on_profile c.requires.0 c.requires.1 c.in_ok-order.ensures.verdict in
    let told = nine_if c.in_ok-order.field-0.unfit in
    let loopless = no_loop c.in_ok-order.field-0.unfit in
    let passed = first-goes_on (record_checks s) (loop_check s) 0 (record_numbered s) c.in_ok-check_records.ensures.number (none-given judged loopless) in
    record {
      answers = record {
        given = record { number = passed; action = none-at_fault (rest_checks s) (rest-numbered s) passed };
        accepted = found c.requires.0.header judged loopless refl refl refl;
      };
      unfit = ((λ e. (unfit-told judged loopless).0 (told.0 e)), (λ u. told.1 ((unfit-told judged loopless).1 u)));
    }
