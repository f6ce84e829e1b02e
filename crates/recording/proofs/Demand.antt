-- Demand 3 of the calls: of a frame run over the tables that opening left, from its overrun mark alone. Assumes nothing.
use Prim.Native.Nat.{ℕ, suc, ◌+◌, ◌<◌}
use mathlib.Core.Path.{◌≡◌, refl, ap, sym, subst, ◌∙◌}
use mathlib.Core.Bool.{false}
use mathlib.Core.List.{List, [], ◌∷◌}
use mathlib.Core.Logic.{⊎_elim}
use lib.ListN.{get_or}
use Rattle.rules.specs.Numbers.{longest_coast, refused_trace, refused_room, refused_policy}
use Rattle.rules.specs.Image.{profile}
use Rattle.rules.specs.Order.{TheOrder}
use Rattle.rules.specs.Limits.{tables, LentTables, planner_tables}
use Rattle.rules.specs.Refusals.{◌when◌, Tight, UnknownPolicy}
use Rattle.rules.specs.Run.{Run}
use Rattle.rules.specs.Dry.{cell, dry_levels, dry_end}
use Rattle.rules.specs.Demand.{Kept}
use Rattle.rules.specs.Recording as rules
use Rattle.rules.specs.Recording.{durations, Ran, ran_of, NotFrames}
use Rattle.rules.proofs.Sums.{sum_same}
use Rattle.rules.proofs.Refusals.{Sound, accepted-sound, accepted_parts}
use Rattle.rules.proofs.Accepted.{some_level, sound_policy}
use Rattle.rules.proofs.Recording.{unmarked_demand}
use Rattle.rules.proofs.Demand.Along.{kept-alike}
use Rattle.fields.proofs.Tabs.{getD-tab}
use Rattle.planner.specs.Planning.{plan_rooms, with_fronts}
use Rattle.dry_frame.specs.Frame.{run_at}
use Rattle.dry_frame.proofs.Cycle.{unordered, same_levels, same_end}
use Rattle.recording.specs.declared.Opened.{Opened}
use Rattle.recording.specs.declared.Counted.{Counted}
use Rattle.recording.specs.Recording.{Opens, ran_said, Rehearses, FrameKeeps}

module _ {s : List ℕ} {policy bytes : ℕ} {before T : LentTables} {p : Opened} (opens : Opens s policy bytes before T p) (opened : p.refusal.number ≡ 0)
    {frame : List ℕ} {totals : rules.Totals} {r : Counted} (runs : Rehearses p.n p.levels (unordered T) frame totals r)
    (ran : r.line.refusal.number ≡ 0) where
  sound : Sound s
  sound =
      let own =
      refused_policy when UnknownPolicy policy
      ∷ refused_trace when NotFrames (profile s).n (profile s).levels bytes ∷ refused_room when Tight (plan_rooms (profile s).n (profile s).levels before) ∷ [] in
      ⊎_elim (λ x. absurd (x.1 opened)) (λ x. x.0) (accepted_parts s own p.refusal.number opens.number)

  abbrev d : List ℕ
  d = durations frame

  abbrev given : List ℕ
  given = dry_levels (profile s).n (profile s).levels (unordered T) d

  the_order : TheOrder (profile s) opens.o
  the_order = opens.the_order opened

  written : T ≡ with_fronts before (planner_tables policy (profile s) opens.o)
  written = rw opened at opens.tables_are

  level : 0 < (profile s).levels
  level = some_level (profile s) opens.o sound.not_count

  end_is : dry_end (profile s).n (profile s).levels (unordered T) d ≡ run_at s policy d opens.o (profile s).n
  end_is = same_end s policy d opens.o before written level

  -- the line is that of the last record
  said : ran_said r.line ≡ ran_of (profile s).n (profile s).levels (unordered T) frame
  said = rw (rw opened at opens.n, rw opened at opens.levels, ran) at runs.line

  level_is : (j : ℕ) → j < (profile s).n → (run_at s policy d opens.o (suc j)).level ≡ get_or given j 0
  level_is j l =
      sym (getD-tab (λ j. (run_at s policy d opens.o (suc j)).level) (profile s).n j 0 l)
      ∙ ap (λ (x : List ℕ). get_or x j 0) (sym (same_levels s policy d opens.o before written level))

  took-is : (j : ℕ) → j < (profile s).n
      → cell d (profile s).levels j (run_at s policy d opens.o (suc j)).level ≡ cell d (profile s).levels j (get_or given j 0)
  took-is j l = ap (cell d (profile s).levels j) (level_is j l)

  -- Where the overrun mark is not set, the frame keeps demand 3.
  pub frame_promise : r.line.overrun ≡ false
      → FrameKeeps policy (tables (profile s) opens.o) (durations frame)
      (dry_levels (profile s).n (profile s).levels (unordered T) (durations frame)) (ran_said r.line)
  unfolding ran_of
  frame_promise unmarked =
      let a = (accepted-sound s).1 sound in
      let over : (run_at s policy d opens.o (profile s).n).overrun ≡ false =
      ap (λ (x : Run). x.overrun) (sym end_is) ∙ ap (λ (x : Ran). x.overrun) (sym said) ∙ unmarked in
      let three = unmarked_demand s a the_order policy (cell d (profile s).levels) over in
      let P = sound_policy ((accepted-sound s).0 a) the_order policy in
      let took : (ℕ → ℕ) = λ j. cell d (profile s).levels j (get_or given j 0) in
      let decisions = ap (λ (x : Ran). x.decisions) said ∙ ap (λ (x : Run). x.decisions) end_is in
      record {
        policy = P;
        chosen = refl;
        kept = subst (Kept longest_coast P 0 took (λ j. get_or given j 0)) (sym decisions) (kept-alike _ _ took-is level_is three.kept);
        ends = ap (λ (x : Ran). x.end) said ∙ ap (λ (x : Run). x.clock) end_is ∙ three.ends ∙ ap (λ (x : ℕ). 0 + x) (sum_same (profile s).n _ _ took-is);
        no_late = ap (λ (x : Ran). x.late) said ∙ ap (λ (x : Run). x.late) end_is ∙ three.no_late;
      }
