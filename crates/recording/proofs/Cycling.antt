-- A frame's cycle, action by action. Assumes nothing.
use Prim.Native.Nat.{ℕ, zero, suc, ◌+◌, ◌-◌, ◌*◌, ◌/◌, ◌≤◌, ◌<◌, min}
use mathlib.Core.Path.{◌≡◌, refl, sym, ap, ◌∙◌}
use mathlib.Core.List.{List}
use native.Mathlib.Omega.{arith}
use lib.ListN.{length}
use Rattle.rules.specs.Numbers.{most_actions, most_levels, duration_bytes}
use Rattle.rules.specs.Image.{be}
use Rattle.rules.specs.Limits.{LentTables}
use Rattle.rules.specs.Run.{Run, begun, coast, ended, lent}
use Rattle.rules.specs.Dry.{before, cell, dry_end}
use Rattle.rules.specs.Recording.{durations, lowest_of, lowest_given}
use Rattle.rules.proofs.Calls.{in_range_facts}
use Rattle.fields.proofs.Tabs.{length-tab, getD-tab}
use Rattle.run.specs.Cycle.{one_on, Running}
use Rattle.run.proofs.dry.Onward.{n-stays, levels_stay, position-goes_on}
use Rattle.run.proofs.dry.Readiness.{place, Going, going-none, Turn, is-running, is-stepped, ready-more, turn_less}
use Rattle.recording.specs.Cycle.{unwritten, Waits, before_at, level_at, lowest_before, Cycling, Ends}

-- ---- the running action's entry

-- It lies in the frame, and its bytes say its duration.
pub record Entry (frame : List ℕ) (r : Run) : Type 0 where
  pub lies : (r.position * r.levels + r.level) * duration_bytes + duration_bytes ≤ length frame
  pub says : be frame ((r.position * r.levels + r.level) * duration_bytes) duration_bytes
      ≡ cell (durations frame) r.levels r.position r.level

pub entry : {T : LentTables} (frame : List ℕ) {r : Run} → Running T (durations frame) r → Entry frame r
entry frame {r} runs =
    let many : ℕ = min (length frame / duration_bytes) (most_actions * most_levels) in
    let inside : r.position * r.levels + r.level < many =
    omega (arith, (place runs).lasts, length-tab (λ k. be frame (k * duration_bytes) duration_bytes) many) in
    record { lies = omega arith; says = sym (getD-tab (λ k. be frame (k * duration_bytes) duration_bytes) many _ 0 inside) }

-- ---- the cycle

-- none is given yet
pub cycling-none : (n L : ℕ) (T : LentTables) (frame : List ℕ) {r : Run} → r ≡ begun n L 0 → Waits T frame (begun n L 0) → Cycling n L T frame r most_levels
unfolding begun before lent lowest_before
cycling-none n L T frame e ready = rw e (record { ready = ready; n_is = refl; levels_are = refl; is = refl; lowest_is = refl })

lowest-more : (f : ℕ → ℕ) (i : ℕ) → f i ≤ most_levels → min (lowest_before f i) (f i) ≡ lowest_before f (suc i)
unfolding lowest_of lowest_before
lowest-more f zero l = omega arith
lowest-more f (suc i) l = refl

module _ {n L : ℕ} {T : LentTables} {frame : List ℕ} {r : Run} {low : ℕ} (at : Cycling n L T frame r low) where
  -- no action remains
  pub cycled : r.n ≤ r.position → Ends n L T frame r low
  unfolding dry_end lowest_given lowest_before
  cycled all = record {
    last_is = at.is ∙ ap (before_at n L T frame) whole;
    lowest_is = at.lowest_is ∙ ap (lowest_before (level_at n L T frame)) whole ∙ by n (omega (arith, at.n_is, in_range_facts r at.ready.ranged));
  }
    where
      whole : r.position ≡ n
      whole = omega (arith, at.n_is, in_range_facts r at.ready.ranged)

      by : (m : ℕ) → 0 < m → lowest_before (level_at n L T frame) m ≡ lowest_of (level_at n L T frame) (m - 1)
      by zero l = elim l [ ]
      by (suc m) l = let last : suc m - 1 ≡ m = omega arith in sym (ap (lowest_of (level_at n L T frame)) last)

  pub going : Going T (durations frame) unwritten r unwritten r
  going = going-none at.ready

  module _ {asked next : Run} {mark : ℕ} (turn : Turn T (durations frame) unwritten r unwritten r asked mark)
      (ends : next ≡ ended (cell T.worst asked.levels asked.position asked.level)
      (asked.clock + cell (durations frame) asked.levels asked.position asked.level) asked) where
    -- one action on
    pub cycling-more : {lower : ℕ} → lower ≡ min low asked.level → Cycling n L T frame next lower
    unfolding ended before
    cycling-more e = record {
      ready = ready-more turn ends unwritten refl refl;
      n_is = ap (λ (s : Run). s.n) stepped ∙ n-stays T (durations frame) r ∙ at.n_is;
      levels_are = ap (λ (s : Run). s.levels) stepped ∙ levels_stay T (durations frame) r ∙ at.levels_are;
      is = is-next ∙ ap (before_at n L T frame) (sym on);
      lowest_is = e ∙ ap (λ (x : ℕ). min x asked.level) at.lowest_is
          ∙ ap (min (lowest_before (level_at n L T frame) r.position)) level_is
          ∙ lowest-more (level_at n L T frame) r.position (omega (arith, level_is, in_range_facts asked (is-running turn).ranged))
          ∙ ap (lowest_before (level_at n L T frame)) (sym on);
    }
      where
        stepped : next ≡ one_on T (durations frame) r.n r.levels r
        stepped = is-stepped turn ends

        on : next.position ≡ suc r.position
        on = ap (λ (s : Run). s.position) stepped ∙ position-goes_on T (durations frame) r

        is-next : next ≡ before_at n L T frame (suc r.position)
        is-next =
            stepped
            ∙ ap (λ (x : ℕ). one_on T (durations frame) x r.levels r) at.n_is
            ∙ ap (λ (x : ℕ). one_on T (durations frame) n x r) at.levels_are
            ∙ ap (one_on T (durations frame) n L) at.is

        level_is : asked.level ≡ level_at n L T frame r.position
        level_is = ap (λ (s : Run). s.level) (sym ends) ∙ ap (λ (s : Run). s.level) is-next

-- ---- a stretch

-- In a stretch begun at r₀: its level is at least the lowest, and fewer remain.
pub record Stretching (n L : ℕ) (T : LentTables) (frame : List ℕ) (r₀ r : Run) (low : ℕ) : Type 0 where
  pub cycling : Cycling n L T frame r low
  pub level : low ≤ r.level
  pub fewer : r.n - r.position < r₀.n - r₀.position

-- decided
module _ {n L : ℕ} {T : LentTables} {frame : List ℕ} {r asked next : Run} {low lower : ℕ} (at : Cycling n L T frame r low)
    (turn : Turn T (durations frame) unwritten r unwritten r asked 1)
    (ends : next ≡ ended (cell T.worst asked.levels asked.position asked.level)
    (asked.clock + cell (durations frame) asked.levels asked.position asked.level) asked) where
  pub stretched : lower ≡ min low asked.level → Stretching n L T frame r next lower
  unfolding ended
  stretched e = record {
    cycling = cycling-more at turn ends e;
    level = omega (arith, e, ap (λ (s : Run). s.level) ends);
    fewer = turn_less turn ends;
  }

-- and coasted, which keeps the level
module _ {n L : ℕ} {T : LentTables} {frame : List ℕ} {r₀ r asked next : Run} {low : ℕ} (at : Stretching n L T frame r₀ r low)
    (turn : Turn T (durations frame) unwritten r unwritten r asked 0)
    (ends : next ≡ ended (cell T.worst asked.levels asked.position asked.level)
    (asked.clock + cell (durations frame) asked.levels asked.position asked.level) asked) where
  pub stretched_on : asked ≡ coast r → Stretching n L T frame r₀ next low
  unfolding ended
  stretched_on e =
      let same : asked.level ≡ r.level = ap (λ (s : Run). s.level) e in
      let low-is : low ≡ min low asked.level = omega (arith, at.level) in
      record {
        cycling = cycling-more at.cycling turn ends low-is;
        level = omega (arith, at.level, ap (λ (s : Run). s.level) ends);
        fewer = omega (arith, at.fewer, turn_less turn ends);
      }
