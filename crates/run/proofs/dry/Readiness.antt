-- What the functions of the cycle ask of each other holds from one action to the next. Assumes nothing.
use Prim.Native.Nat.{ℕ, ◌+◌, ◌-◌, ◌*◌, ◌≤◌, ◌<◌}
use mathlib.Core.Path.{◌≡◌, refl, sym, ap, ◌∙◌}
use mathlib.Core.Bool.{Bool, true, false, cond}
use mathlib.Core.List.{List, []}
use native.Mathlib.Nat.{mul-le-mul}
use native.Mathlib.Omega.{arith}
use lib.ListN.{length, length-set}
use borrow.Author.Tests.{eq-eqb, ne_eqb}
use Rattle.rules.specs.Numbers.{longest_time}
use Rattle.rules.specs.Words.{one_if}
use Rattle.rules.specs.Limits.{LentTables, Plan}
use Rattle.rules.specs.Run.{Run, in_range, decide, coast, decides, given, ended, lent}
use Rattle.rules.specs.Dry.{step, cell}
use Rattle.rules.proofs.Calls.{InRange, in_range_facts, facts_in_range, given-in_range, ended-in_range}
use Rattle.rules.proofs.Demand.Record.{Same, given-same, given-decided, given_coasted}
use Rattle.fields.proofs.Strides.{cell-fits}
use Rattle.run.specs.Calls.{Open}
use Rattle.run.proofs.Refusing.{read, read-alone}
use Rattle.run.specs.Dry.{DryLists}
use Rattle.run.specs.Cycle.{Waiting, Running, Rest}
use Rattle.run.proofs.dry.Onward.{plan, stepped, set_at, Stepped, n-stays, levels_stay, step_less, rest_more}

-- ---- the running action

-- where its entries lie, and how long it lasts
pub record Place (T : LentTables) (durations : List ℕ) (r : Run) : Type 0 where
  pub ranges : InRange r
  pub more : r.position < r.n
  pub small : r.position * r.levels + r.level < 512
  pub timed : r.position * r.levels + r.level < length T.worst
  pub lasts : r.position * r.levels + r.level < length durations
  pub short : cell durations r.levels r.position r.level ≤ longest_time

pub place : {T : LentTables} {durations : List ℕ} {r : Run} → Running T durations r → Place T durations r
place {r = r} a =
    let f = in_range_facts r a.ranged in
    let more : r.position < r.n = omega (arith, f.running, ap one_if a.runs) in
    let inside = cell-fits r.position r.n r.level r.levels more f.level in
    let few : r.n * r.levels ≤ 512 = mul-le-mul f.few f.few_levels in
    record {
      ranges = f;
      more = more;
      small = omega arith;
      timed = omega (arith, a.timed);
      lasts = omega (arith, a.lasting);
      short = a.short _ inside;
    }

-- ---- several actions on

-- From r₀ on up to r: all that the rest needs, and what the rest from r on gives is what the rest from r₀ on gives.
pub record Going (T : LentTables) (durations : List ℕ) (lists₀ : DryLists) (r₀ : Run) (lists : DryLists) (r : Run) : Type 0 where
  pub ready : Waiting T durations lists r
  pub same_levels : length lists.levels ≡ length lists₀.levels
  pub same_marks : length lists.decided ≡ length lists₀.decided
  pub fewer : r.n - r.position ≤ r₀.n - r₀.position
  pub rest : {after : DryLists} {last : Run} → Rest T durations lists after r last → Rest T durations lists₀ after r₀ last

pub going-none : {T : LentTables} {durations : List ℕ} {lists : DryLists} {r : Run} → Waiting T durations lists r → Going T durations lists r lists r
going-none ready = record { ready = ready; same_levels = refl; same_marks = refl; fewer = omega arith; rest = λ rest. rest }

-- At the head of a turn that decides, no coast is left, and an action remains.
pub record Deciding (T : LentTables) (durations : List ℕ) (lists₀ : DryLists) (r₀ : Run) (lists : DryLists) (r : Run) : Type 0 where
  pub going : Going T durations lists₀ r₀ lists r
  pub none : r.left ≡ 0
  pub more : r.position < r.n

-- ---- a turn

-- A turn at r: an action remains, `asked` is the record with it asked for, and `mark` its decided mark.
pub record Turn (T : LentTables) (durations : List ℕ) (lists₀ : DryLists) (r₀ : Run) (lists : DryLists) (r asked : Run) (mark : ℕ) : Type 0 where
  pub going : Going T durations lists₀ r₀ lists r
  pub more : r.position < r.n
  pub is : asked ≡ given 16 (plan T r) r
  pub mark_is : mark ≡ one_if (decides r)

module _ {T : LentTables} {durations : List ℕ} {lists₀ : DryLists} {r₀ : Run} {lists : DryLists} {r : Run}
    (going : Going T durations lists₀ r₀ lists r) where
  -- a decision, where no coast is left
  pub is_open : r.position < r.n → Open (read T) r
  is_open more =
      let ready = going.ready in
      record { ranged = ready.ranged; waits = ready.waits; more = more; limited = ready.limited; bounded = ready.bounded }

  pub decided_turn : r.left ≡ 0 → r.position < r.n → {asked : Run} → asked ≡ decide 16 (lent r.n r.levels (read T)) r
      → Turn T durations lists₀ r₀ lists r asked 1
  unfolding decides
  decided_turn none more e = record {
    going = going;
    more = more;
    is = e ∙ ap (λ (P : Plan). decide 16 P r) (read-alone r.n r.levels T) ∙ sym (given-decided 16 (plan T r) r none);
    mark_is = ap one_if (sym (eq-eqb r.left 0 none));
  }

  -- and else a coast, in which an action remains
  pub more_left : 0 < r.left → r.position < r.n
  more_left some = omega (arith, in_range_facts r going.ready.ranged)

  pub coasted_turn : 0 < r.left → {asked : Run} → asked ≡ coast r → Turn T durations lists₀ r₀ lists r asked 0
  unfolding decides
  coasted_turn some e = record {
    going = going;
    more = more_left some;
    is = e ∙ sym (given_coasted 16 (plan T r) r (r.left - 1) (omega arith));
    mark_is = ap one_if (sym (ne_eqb r.left 0 (λ e. omega arith)));
  }

-- What an end reads of the tables.
abbrev pub timing : LentTables → LentTables
timing T = record { order = []; limits = []; worst = T.worst; bounds = [] }

module _ {T : LentTables} {durations : List ℕ} {lists₀ : DryLists} {r₀ : Run} {lists : DryLists} {r asked : Run} {mark : ℕ}
    (turn : Turn T durations lists₀ r₀ lists r asked mark) where
  ready : Waiting T durations lists r
  ready = turn.going.ready

  same : Same 16 (plan T r) r (given 16 (plan T r) r)
  same = given-same 16 (plan T r) r

  given-runs : (given 16 (plan T r) r).running ≡ true
  unfolding given
  given-runs = by (decides r)
    where
      by : (b : Bool) → (cond b (decide 16 (plan T r) r) (coast r)).running ≡ true
      by true = refl
      by false = refl

  cells : asked.n * asked.levels ≡ r.n * r.levels
  cells =
      ap (λ (x : ℕ). x * asked.levels) (ap (λ (s : Run). s.n) turn.is ∙ same.n)
      ∙ ap (λ (x : ℕ). r.n * x) (ap (λ (s : Run). s.levels) turn.is ∙ same.levels)

  pub is-running : Running (timing T) durations asked
  unfolding lent
  is-running = record {
    ranged = ap in_range turn.is
        ∙ facts_in_range _ (given-in_range (plan T r) r refl refl (in_range_facts r ready.ranged) ready.waits turn.more);
    runs = ap (λ (s : Run). s.running) turn.is ∙ given-runs;
    timed = omega (arith, cells, ready.timed);
    lasting = omega (arith, cells, ready.lasting);
    early =
        let clock = ap (λ (s : Run). s.clock) turn.is ∙ same.clock in
        let position = ap (λ (s : Run). s.position) turn.is ∙ same.position in
        omega (arith, ready.early);
    short = λ k l. ready.short k (omega (arith, cells));
  }

  -- its end
  module _ {next : Run} (ends : next ≡ ended (cell T.worst asked.levels asked.position asked.level)
      (asked.clock + cell durations asked.levels asked.position asked.level) asked) where
    pub is-stepped : next ≡ stepped T durations r
    unfolding step
    is-stepped =
        ends
        ∙ ap (λ (s : Run). ended (cell T.worst s.levels s.position s.level)
        (s.clock + cell durations s.levels s.position s.level) s) turn.is
        ∙ rw (same.levels, same.position, same.clock)

    one-stepped : (level : ℕ) → level ≡ asked.level → Stepped T durations r next level mark
    unfolding step ended
    one-stepped level e = record { more = turn.more; is = is-stepped; level_is = e ∙ ap (λ (s : Run). s.level) turn.is; mark_is = turn.mark_is }

    pub ready-more : (after : DryLists) → length after.levels ≡ length lists.levels → length after.decided ≡ length lists.decided
        → Waiting T durations after next
    unfolding ended
    ready-more after same_levels same_marks = record {
      ranged = ap in_range ends
          ∙ facts_in_range _ (ended-in_range _ _ asked at.ranges is-running.runs (omega (arith, at, at.ranges, is-running)));
      waits = ap (λ (s : Run). s.running) ends;
      limited = omega (arith, next-cells, ready.limited);
      timed = omega (arith, next-cells, ready.timed);
      bounded = omega (arith, next-cells, ready.bounded);
      lasting = omega (arith, next-cells, ready.lasting);
      gives = omega (arith, next-n, ready.gives);
      marked = omega (arith, next-n, ready.marked);
      early = omega (arith, at, is-running, ap (λ (s : Run). s.clock) ends, ap (λ (s : Run). s.position) ends);
      short = λ k l. ready.short k (omega (arith, next-cells));
    }
      where
        at : Place (timing T) durations asked
        at = place is-running

        next-n : next.n ≡ r.n
        next-n = ap (λ (s : Run). s.n) is-stepped ∙ n-stays T durations r

        next-cells : next.n * next.levels ≡ r.n * r.levels
        next-cells =
            ap (λ (x : ℕ). x * next.levels) next-n
            ∙ ap (λ (x : ℕ). r.n * x) (ap (λ (s : Run). s.levels) is-stepped ∙ levels_stay T durations r)

    -- fewer remain
    pub turn_less : next.n - next.position < r.n - r.position
    turn_less = step_less (one-stepped _ refl)

    -- one action further on, its level and its mark written
    pub turn_on : (level : ℕ) → level ≡ asked.level → Going T durations lists₀ r₀ (set_at lists r.position level mark) next
    turn_on level e = record {
      ready = ready-more _ (simp length-set) (simp length-set);
      same_levels = simp length-set turn.going.same_levels;
      same_marks = simp length-set turn.going.same_marks;
      fewer = omega (arith, turn.going.fewer, turn_less);
      rest = λ rest. turn.going.rest (rest_more (one-stepped level e) lists _ ready.gives ready.marked rest);
    }
