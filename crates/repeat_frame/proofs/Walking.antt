-- A frame walked position by position: what each turn asks for, and what it makes of the record. Assumes nothing.
use Prim.Native.Nat.{ℕ, zero, suc, ◌+◌, ◌*◌, ◌≤◌, ◌<◌}
use mathlib.Core.Path.{◌≡◌, ap, ap₂, ◌∙◌}
use mathlib.Core.Bool.{Bool, true, false}
use mathlib.Core.List.{List}
use native.Mathlib.Nat.{le_refl, mul-le-mul, mul-le-mul_right}
use native.Mathlib.Omega.{arith}
use Rattle.rules.specs.Numbers.{longest_time, longest_coast}
use Rattle.rules.specs.Words.{sum, one_if}
use Rattle.rules.specs.Limits.{Plan}
use Rattle.rules.specs.Run.{Run, given, ended}
use Rattle.rules.specs.Dry.{step, before, decided, cell}
use Rattle.rules.specs.Repeat.{LentBody, positions, lent_plan, worst_lent}
use Rattle.rules.specs.declared.Body.{Body}
use Rattle.rules.proofs.Calls.{level_given-at, ends_by}
use Rattle.rules.proofs.Demand.Record.{given-same, position-is, decisions_are}
use Rattle.repeat_decision.specs.Decision.{last_start}
use Rattle.repeat_run.specs.Calls.{MayDecide}
use Rattle.repeat_frame.specs.Walk.{MayPass, MayWalk, walk_at}

sum-few : (m : ℕ) (mark : ℕ → Bool) → sum m (λ j. one_if (mark j)) ≤ m
unfolding sum
sum-few zero mark = le_refl 0
sum-few (suc m) mark = omega (arith, sum-few m mark, one (mark m))
  where
    one : (b : Bool) → one_if b ≤ 1
    one true = omega arith
    one false = omega arith

module _ {b : Body} {T : LentBody} {durations given' marks : List ℕ} (m : MayWalk b T durations given' marks) where
  abbrev P : Plan
  P = lent_plan b T

  abbrev d : ℕ → ℕ → ℕ
  d = cell durations b.levels

  -- each duration that is read
  short : (p q : ℕ) → p < positions b → q < b.levels → cell durations b.levels p q ≤ longest_time
  short p q l h = m.short (p * b.levels + q) (omega (arith, mul-le-mul_right b.levels l))

  -- the record before position i
  pub record At (i : ℕ) : Type 0 where
    pub position : (walk_at b T durations i).position ≡ i
    pub clock : (walk_at b T durations i).clock ≤ last_start
    pub decisions : (walk_at b T durations i).decisions ≤ i

  pub at : (i : ℕ) → i ≤ positions b → At i
  unfolding lent_plan
  at i l =
      let few = mul-le-mul m.counts.few_repeats m.counts.few in
      record {
        position = position-is longest_coast P (worst_lent b T) d 0 i;
        clock = omega (arith, ends_by P (worst_lent b T) d m.counts.some_level short i l, mul-le-mul_right longest_time l, mul-le-mul_right longest_time few);
        decisions = omega (arith, decisions_are longest_coast P (worst_lent b T) d 0 i, sum-few i (decided longest_coast P (worst_lent b T) d 0));
      }

  -- it may be asked
  module _ {c : Body} {r : Run} (same : c ≡ b) (i : ℕ) (l : i < positions b) where
    pub may_decide : r ≡ walk_at b T durations i → MayDecide T c r
    may_decide e =
        let A = at i (omega arith) in
        rw (same, e) (record {
          counts = m.counts;
          summed = m.summed;
          timed = m.timed;
          more = omega (arith, A.position);
          early = A.clock;
          counted = omega (arith, A.decisions, A.position);
        })

    -- the action given may pass
    pub may_pass : r ≡ given longest_coast (lent_plan b T) (walk_at b T durations i) → MayPass c T.worst durations r
    unfolding lent_plan
    may_pass e =
        let A = at i (omega arith) in
        let S = given-same longest_coast P (walk_at b T durations i) in
        rw (same, e) (record {
          counts = m.counts;
          timed = m.timed;
          lasting = m.lasting;
          more = omega (arith, S.position, A.position);
          level = level_given-at P (worst_lent b T) d m.counts.some_level i;
          early = omega (arith, S.clock, A.clock);
        })

-- ---- the next record

-- an action's end, of the record with it running
abbrev pub end_of : Body → LentBody → List ℕ → Run → Run
end_of b T durations s =
    ended (worst_lent b T s.position s.level) (s.clock + cell durations b.levels s.position s.level) s

module _ (b : Body) (T : LentBody) (durations : List ℕ) (i : ℕ) where
  pub next_is : {c : Body} {turn next : Run} → c ≡ b → turn ≡ given longest_coast (lent_plan b T) (walk_at b T durations i)
      → next ≡ end_of c T durations turn → next ≡ walk_at b T durations (suc i)
  unfolding before step
  next_is {c} {turn} {next} same e n =
      let r = walk_at b T durations i in
      let g = given longest_coast (lent_plan b T) r in
      let S = given-same longest_coast (lent_plan b T) r in
      n ∙ ap₂ (λ (x : Body) (s : Run). end_of x T durations s) same e
      ∙ ap₂ (λ (p t : ℕ). ended (worst_lent b T p g.level) (t + cell durations b.levels p g.level) g) S.position S.clock

  -- the level given is that of the record after
  pub level_is : {turn : Run} → turn ≡ given longest_coast (lent_plan b T) (walk_at b T durations i) → turn.level ≡ (walk_at b T durations (suc i)).level
  unfolding before step ended
  level_is e = ap (λ (s : Run). s.level) e
