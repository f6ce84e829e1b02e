-- What a record that may be asked gives, and what the steps of a decision and of an end make of it. Assumes nothing.
use Prim.Native.Nat.{ℕ, suc, ◌+◌, ◌*◌, ◌≤◌, ◌<◌}
use mathlib.Core.Path.{◌≡◌, refl, sym, ap, ◌∙◌}
use mathlib.Core.Bool.{Bool, true, false, not, ◌||◌}
use mathlib.Core.List.{List}
use mathlib.Core.Logic.{◌≢◌}
use native.Mathlib.Nat.{mul-le-mul, mul-le-mul_right}
use native.Mathlib.Numerals.{add-one}
use native.Mathlib.Omega.{arith}
use lib.IntN.{pos}
use lib.ListN.{get_or}
use lib.Signed.{le_z}
use borrow.Author.Tests.{eq-eqb, ne_eqb}
use Rattle.rules.specs.Words.{last_passing, one_if}
use Rattle.rules.specs.Limits.{LentTables, Plan}
use Rattle.rules.specs.Run.{Run, level_given, fits, left_granted, lent, decide, coast, decides, given, ended}
use Rattle.rules.specs.Run.{asked_by, ask_refusal, ask, reported_by, report_refusal, report}
use Rattle.rules.specs.Run.Answer.{refused, gives}
use Rattle.rules.proofs.Tests.{failed, last_is}
use Rattle.rules.proofs.Calls.{InRange, in_range_facts}
use Rattle.run_decision.proofs.Rows.{into, past}
use Rattle.run.specs.Calls.{Open}
use Rattle.run.proofs.Refusing.{read, read-alone}

-- ---- a decision

module _ {T : LentTables} {r : Run} (o : Open T r) where
  pub record Opened : Type 0 where
    pub ranges : InRange r
    pub row : r.position * r.levels + r.levels ≤ r.n * r.levels
    pub few : r.n * r.levels ≤ 512
    pub counted : r.decisions ≤ r.position

  pub opened : Opened
  opened =
      let ranges = in_range_facts r o.ranged in
      record {
        ranges = ranges;
        row = omega (arith, mul-le-mul_right r.levels o.more);
        few = mul-le-mul ranges.few ranges.few_levels;
        counted = omega (arith, ranges.decisions, ap one_if o.waits);
      }

  pub level-low : (level : ℕ) (test : ℕ → Bool) → level ≡ last_passing test r.levels → level < r.levels
  level-low level test e = omega (arith, (last_is test r.levels).below opened.ranges.some_level)

-- no level above the one given fits
pub none_above : (levels level : ℕ) (test : ℕ → Bool) → level ≡ last_passing test levels → suc level < levels → test (suc level) ≡ false
none_above levels level test e below = failed (test (suc level)) ((last_is test levels).none_above (suc level) (omega (arith, e)) below)

module _ (T : LentTables) (r : Run) where
  pub decided-is : (level left : ℕ) (fit : Bool)
      → level ≡ last_passing (λ q. le_z (pos r.clock) (get_or T.limits (r.position * r.levels + q) (pos 0))) r.levels
      → fit ≡ le_z (pos r.clock) (get_or T.limits (r.position * r.levels + level) (pos 0))
      → left ≡ left_granted 16 (lent r.n r.levels T) r.clock r.position level
      → let P = lent r.n r.levels T in
      (record {
        n = r.n;
        levels = r.levels;
        position = r.position;
        clock = r.clock;
        running = true;
        level = level;
        left = left;
        decisions = r.decisions + 1;
        overrun = r.overrun;
        late = r.late || not fit;
      } ≡ decide 16 P r) × (not fit ≡ not (fits P r.clock r.position))
  unfolding level_given fits lent
  decided-is level left fit level_is fit_is left_is = (rw (left_is, fit_is, level_is, add-one), rw (fit_is, level_is))

-- ---- the answers, on any plan

module _ (k action : ℕ) (P : Plan) (r : Run) where
  pub asked-refused : k ≢ 0 → refused k r ≡ asked_by k action P r
  asked-refused some = past _ _ _ (ne_eqb _ _ some) refl

  module _ (none : 0 ≡ k) where
    pub asked-decided : (next : Run) (late : Bool) → r.left ≡ 0 → next ≡ decide 16 P r → late ≡ not (fits P r.clock r.position)
        → gives action next.level true late next ≡ asked_by k action P r
    unfolding given decides
    asked-decided next late z e l = into _ _ _ (eq-eqb _ _ (sym none)) (rw (eq-eqb r.left 0 z, e, l))

    pub asked_coasted : (next : Run) → r.left ≢ 0 → next ≡ coast r → gives action r.level false false next ≡ asked_by k action P r
    unfolding given decides
    asked_coasted next z e = into _ _ _ (eq-eqb _ _ (sym none)) (rw (ne_eqb r.left 0 z, e))

module _ (k w t : ℕ) (r : Run) where
  pub reported-refused : k ≢ 0 → record { number = k; run = r } ≡ reported_by k w t r
  reported-refused some = past _ _ _ (ne_eqb _ _ some) refl

  pub reported-ended : (next : Run) → 0 ≡ k → next ≡ ended w t r → record { number = 0; run = next } ≡ reported_by k w t r
  reported-ended next none e = into _ _ _ (eq-eqb _ _ (sym none)) (ap (λ (x : Run). record { number = 0; run = x }) e)

-- ---- on the tables of a plain cycle

module _ (T : LentTables) (r : Run) where
  abbrev P : Plan
  P = lent r.n r.levels T

  pub ask-refuses : (k : ℕ) → k ≡ ask_refusal T r → k ≢ 0 → refused k r ≡ ask T r
  unfolding ask
  ask-refuses k e some = rw (← e) (asked-refused k (get_or T.order r.position 0) P r some)

  module _ (none : 0 ≡ ask_refusal T r) where
    pub ask-decides : (next : Run) (late : Bool) → r.left ≡ 0 → let Q = lent r.n r.levels (read T) in
        next ≡ decide 16 Q r → late ≡ not (fits Q r.clock r.position)
        → gives (get_or T.order r.position 0) next.level true late next ≡ ask T r
    unfolding ask
    ask-decides next late z e l =
        asked-decided _ (get_or T.order r.position 0) P r none next late z (e ∙ ap (λ (Q : Plan). decide 16 Q r) (read-alone r.n r.levels T))
        (l ∙ ap (λ (Q : Plan). not (fits Q r.clock r.position)) (read-alone r.n r.levels T))

    pub ask-coasts : (next : Run) → r.left ≢ 0 → next ≡ coast r
        → gives (get_or T.order r.position 0) r.level false false next ≡ ask T r
    unfolding ask
    ask-coasts = asked_coasted _ (get_or T.order r.position 0) P r none

module _ (worst : List ℕ) (t : ℕ) (r : Run) where
  pub report-refuses : (k : ℕ) → k ≡ report_refusal worst t r → k ≢ 0 → record { number = k; run = r } ≡ report worst t r
  unfolding report
  report-refuses k e some = rw (← e) (reported-refused k (get_or worst (r.position * r.levels + r.level) 0) t r some)

  pub report-ends : (next : Run) → 0 ≡ report_refusal worst t r → next ≡ ended (get_or worst (r.position * r.levels + r.level) 0) t r
      → record { number = 0; run = next } ≡ report worst t r
  unfolding report
  report-ends next none e = reported-ended _ _ t r next none e
