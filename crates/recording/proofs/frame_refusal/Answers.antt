-- The row of refusals, ground by ground. Assumes nothing.
use Prim.Native.Nat.{ℕ, ◌*◌}
use mathlib.Core.Path.{◌≡◌, refl, sym, ◌∙◌}
use mathlib.Core.List.{List, []}
use mathlib.Core.Logic.{inl, inr}
use native.Mathlib.Omega.{arith}
use Rattle.rules.specs.Words.{all_pass}
use Rattle.rules.specs.Limits.{LentTables}
use Rattle.rules.specs.Refusals.{Tight}
use Rattle.rules.specs.Recording.{durations, short}
use Rattle.rules.proofs.Recording.{one-long, none-long}
use Rattle.fields.proofs.Bytes.{Bytes}
use Rattle.run.proofs.Ranges.{Counts, fit_counts}
use Rattle.run.proofs.dry.Refusing.{counts_in, unfit-counts-out, few-cells}
use Rattle.recording.specs.Recording.{recorded_rooms}
use Rattle.recording_bytes.proofs.Entries.{clear, all_clear}
use Rattle.recording.proofs.Rooms.{tested_tight, tested_roomy, room}
use Rattle.recording.proofs.frame_refusal.Goals as goal
use Rattle.recording.proofs.frame_refusal.Goals.{Start, Else-not-counts_fit, Else-limits-cells}

abbrev lent : Start → LentTables
lent c = record { order = []; limits = c.args.limits.now; worst = c.args.worst.now; bounds = c.args.bounds.now }

with_frame : (c : Else-not-counts_fit) → Counts c.args.n c.args.levels
with_frame c = fit_counts _ _ (sym c.if-not-counts_fit.false ∙ c.counts_fit.ensures)

-- the frame is of bytes, so that the first byte of an entry tells
told : (n L : ℕ) (T : LentTables) (frame : List ℕ) → Counts n L → (Tight (recorded_rooms n L T frame) → ⊥) → Bytes frame
    → all_pass (clear frame) (n * L) ≡ all_pass (short (durations frame)) (n * L)
told n L T frame counts roomy bytes = all_clear frame bytes _ (omega (arith, room n L T frame roomy, few-cells counts))

pub returns-then-not-counts_fit : goal.returns-then-not-counts_fit
returns-then-not-counts_fit c = inl (unfit-counts-out _ _ (sym c.if-not-counts_fit.true ∙ c.counts_fit.ensures), refl)

pub overflow_mul-cells : goal.overflow_mul-cells
overflow_mul-cells c = omega (arith, few-cells (with_frame (goal.at.overflow_mul-cells c).Else-not-counts_fit))

pub overflow_mul-cells-2 : goal.overflow_mul-cells-2
overflow_mul-cells-2 c = omega (arith, few-cells (with_frame (goal.at.overflow_mul-cells-2 c).Else-not-counts_fit))

pub overflow_mul-cells-3 : goal.overflow_mul-cells-3
overflow_mul-cells-3 c = omega (arith, few-cells (with_frame (goal.at.overflow_mul-cells-3 c).Else-not-counts_fit))

pub returns-then-limits-cells : goal.returns-then-limits-cells
returns-then-limits-cells c =
    inr (
      counts_in (with_frame (goal.at.returns-then-limits-cells c).Else-not-counts_fit),
      inl (tested_tight _ _ (lent (goal.at.returns-then-limits-cells c).Start) c.args.frame.now c.if-limits-cells.true, refl),
    )

pub returns-then-all_short : goal.returns-then-all_short
returns-then-all_short c =
    let T = lent (goal.at.returns-then-all_short c).Start in
    let counts = with_frame (goal.at.returns-then-all_short c).Else-not-counts_fit in
    let roomy = tested_roomy _ _ T c.args.frame.now c.if-limits-cells.false in
    let bytes : Bytes c.args.frame.now = λ k. (c.type_inv.frame k).fits in
    inr (
      counts_in counts,
      inr (
        roomy,
        inr (
          none-long _ (durations c.args.frame.now)
              (sym (c.all_short.ensures ∙ told c.args.n c.args.levels T c.args.frame.now counts roomy bytes) ∙ c.if-all_short.true),
          refl,
        ),
      ),
    )

pub returns : goal.returns
returns c =
    let T = lent (goal.at.returns c).Start in
    let counts = with_frame (goal.at.returns c).Else-not-counts_fit in
    let roomy = tested_roomy _ _ T c.args.frame.now c.if-limits-cells.false in
    let bytes : Bytes c.args.frame.now = λ k. (c.type_inv.frame k).fits in
    inr (
      counts_in counts,
      inr (
        roomy,
        inl (
          one-long _ (durations c.args.frame.now)
              (sym (c.all_short.ensures ∙ told c.args.n c.args.levels T c.args.frame.now counts roomy bytes) ∙ c.if-all_short.false),
          refl,
        ),
      ),
    )
