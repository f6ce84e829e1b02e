-- The dry run's call: what it writes and answers.
use Rattle.std.specs.Prelude.{ℕ, ◌*◌, ◌≡◌, false, List, [], ◌∷◌, length, Result, Ok, Err}
use Rattle.rules.specs.Numbers.{longest_coast}
use Rattle.rules.specs.Limits.{LentTables}
use Rattle.rules.specs.Reasons.{number_of}
use Rattle.rules.specs.Refusals.{First, kept}
use Rattle.rules.specs.Dry.{dry_levels, dry_marks, dry_end, dry_call}
use Rattle.rules.specs.declared.Reason.{Reason}
use Rattle.fields.specs.Fields.{splice}
use Rattle.run.specs.declared.dry.Dry.{Dry}
use Rattle.run.specs.declared.dry.Dried.{Dried}

-- The two lists that the dry run writes, as they are lent: a level and a decided mark (1 or 0) for each position.
pub record DryLists : Type 0 where
  pub levels : List ℕ
  pub decided : List ℕ

-- The lengths of the lent slices, each with what is needed of it. The dry run takes no order.
abbrev pub dry_rooms : ℕ → ℕ → LentTables → List ℕ → DryLists → List (ℕ × ℕ)
dry_rooms n L T durations lists =
    (length T.limits, n * L)
    ∷ (length T.worst, n * L)
    ∷ (length T.bounds, n * L * longest_coast)
    ∷ (length durations, n * L)
    ∷ (length lists.levels, n)
    ∷ (length lists.decided, n)
    ∷ []

-- What is told of a dry run, laid flat: its number of refusal, 0 for none, and with a refusal 0 and no.
abbrev pub dried : Result Dry Reason → Dried
dried (Ok d) = record { refusal = record { number = 0 }; decisions = d.decisions; end = d.end; overrun = d.overrun; late = d.late }
dried (Err reason) = record { refusal = record { number = number_of reason }; decisions = 0; end = 0; overrun = false; late = false }

-- The answer r, and what the two lists hold before and after: n levels and n decided marks, their tails kept, and with a refusal all of it.
pub record Dries (n L : ℕ) (T : LentTables) (durations : List ℕ) (before after : DryLists) (r : Dried) : Type 0 where
  pub refused : First (dry_call n L durations (dry_rooms n L T durations before)) r.refusal.number
  pub levels : after.levels ≡ kept r.refusal.number (splice before.levels 0 (dry_levels n L T durations)) before.levels
  pub decided : after.decided ≡ kept r.refusal.number (splice before.decided 0 (dry_marks n L T durations)) before.decided
  pub decisions : r.decisions ≡ kept r.refusal.number (dry_end n L T durations).decisions 0
  pub end : r.end ≡ kept r.refusal.number (dry_end n L T durations).clock 0
  pub overrun : r.overrun ≡ kept r.refusal.number (dry_end n L T durations).overrun false
  pub late : r.late ≡ kept r.refusal.number (dry_end n L T durations).late false
