-- What the whole check answers, part by part.
use mathlib.Core.Path.{◌≡◌, refl, sym, ◌∙◌}
use mathlib.Core.Bool.{true, false, true≢false}
use mathlib.Core.List.{List, [], ◌∷◌, ◌++◌}
use mathlib.Core.Logic.{inr}
use Prim.Native.Nat.{ℕ}
use Rattle.std.specs.Prelude.{Result, Ok, Err}
use Rattle.rules.specs.Numbers.{most_actions, refused_unfit}
use Rattle.rules.specs.Image.{profile}
use Rattle.rules.specs.Reasons.{fault, fault_of}
use Rattle.rules.specs.Refusals.{Ground, ◌when◌, First, Refuses, Unfit, loop_checks, image_checks}
use Rattle.rules.specs.declared.blame.Blame.{Blame}
use Rattle.rules.proofs.Reasons.{some_number}
use Rattle.rules.proofs.Refusals.{Numbered, refuses-stops, refuses-goes_on, refuses_when, loop-numbered}
use Rattle.image_fields.specs.Reading.{HasRecords}
use Rattle.image_fields.proofs.Reading.{has-accepted}
use Rattle.image_check.specs.declared.Checked.{Checked}
use Rattle.image_check.specs.Checks.{CheckAnswers, BodyAnswers, Judged}

-- a refused image
pub refused_body : {row : List Ground} {s : List ℕ} (b : Blame) → Refuses row (fault_of b) → BodyAnswers row s (Err b)
refused_body b p = record { answers = record { given = p; accepted = tt }; unfit = tt }

-- what the rest answers after a row that gives none
answers_on : (row rest : List Ground) {s : List ℕ} (r : Result Checked Blame) → Numbered row → First row 0 → CheckAnswers rest s r
    → CheckAnswers (row ++ rest) s r
answers_on row rest r m none a = record { given = refuses-goes_on row rest (fault r) m none a.given; accepted = a.accepted }

-- the same with the verdict on 9
pub body_on : (row rest : List Ground) {s : List ℕ} (r : Result Checked Blame) → Numbered row → First row 0 → BodyAnswers rest s r
    → BodyAnswers (row ++ rest) s r
body_on row rest r m none a = record { answers = answers_on row rest r m none a.answers; unfit = a.unfit }

-- ---- 9

module _ (s : List ℕ) where
  abbrev nine : List Ground
  nine = refused_unfit when Unfit (profile s) ∷ []

  -- what the checks up to 8 refuse with
  pub refused_judged : (b : Blame) → BodyAnswers (loop_checks s) s (Err b) → Judged s (Err b)
  refused_judged b a = record { given = refuses-stops (loop_checks s) nine (fault_of b) a.answers.given (some_number b.reason); accepted = tt }

  module _ (r : Checked) (a : BodyAnswers (loop_checks s) s (Ok r)) where
    pub unfit_judged : r.unfit ≡ true → Refuses (image_checks s) (record { number = refused_unfit; action = most_actions })
    unfit_judged e =
        refuses-goes_on (loop_checks s) nine (record { number = refused_unfit; action = most_actions }) (loop-numbered s)
        a.answers.given.number (refuses_when refused_unfit (a.unfit.0 e))

    pub fit_judged : r.unfit ≡ false → Judged s (Ok r)
    fit_judged e = record {
      given = refuses-goes_on (loop_checks s) nine (record { number = 0; action = most_actions }) (loop-numbered s) a.answers.given.number
          (record { number = inr (fit, refl); action = inr (fit, refl) });
      accepted = a.answers.accepted;
    }
      where
        fit : Unfit (profile s) → ⊥
        fit u = true≢false (sym (a.unfit.1 u) ∙ e)

-- the records of an accepted image are there, to be read by what the check answers
pub accepted-records : {s : List ℕ} (r : Checked) → Judged s (Ok r) → HasRecords s r.levels r.n
accepted-records {s} r a = has-accepted s a.given.number a.accepted.n a.accepted.levels
