-- Each test settles a ground of the row, in the row's order. Assumes nothing.
use Prim.Native.Nat.{ℕ, ◌≤◌, ◌<◌}
use mathlib.Core.Path.{◌≡◌, refl, ap, ◌∙◌}
use mathlib.Core.Bool.{Bool, true, not}
use mathlib.Core.List.{List, ◌∷◌}
use mathlib.Core.Logic.{◌⊎◌, inl, inr, ⊎_elim, ◌↔◌}
use native.Mathlib.Omega.{arith}
use Rattle.std.specs.Prelude.{Option, None, Some}
use Rattle.std.specs.Option.{is_some}
use Rattle.std.proofs.lemmas.Result.{err_from_is_err_and}
use Rattle.rules.specs.Numbers.{most_actions, refused_count, refused_range, refused_table, refused_room}
use Rattle.rules.specs.Image.{ProfileTables, image_bytes, of_tables}
use Rattle.rules.specs.Refusals.{Lowest, Ground, ◌blames◌below◌, Refuses, CountOut, WriteFault, TableFault, Tight}
use Rattle.rules.specs.declared.Fault.{Fault}
use Rattle.rules.proofs.Tests.{not-both}
use Rattle.rules.proofs.Faults.{Faultless}
use Rattle.rules.proofs.Refusals.{refuses_when, refuses_on, refuses_blamed}
use Rattle.order.specs.Judged.{order_checks}
use Rattle.image_fields.proofs.Faults.{denied}
use Rattle.image_pack.specs.Packing.{tables_of, Roomy}
use Rattle.image_write.specs.Writing.{table_rooms, write_rooms, writing}
use Rattle.image_write.proofs.Answers.{tight_and}
use Rattle.image_write.proofs.Accepting.{counted, roomy}
use Rattle.image_write.proofs.Judging.{masked, timed, judged}
use Rattle.image_write.proofs.refusal.Goals as goal
use Rattle.image_write.proofs.refusal.Goals.{Else-room-image_bytes, In_default, In_default-fallen, then-tight-via-then-tight, then-tight-via-else-tight+then-room-image_bytes}

module _ (n L cycle : ℕ) (T : ProfileTables) (room : ℕ) where
  -- the row from 6 on
  abbrev rest-row : List Ground
  rest-row =
      let G = of_tables n L cycle T in
      refused_range blames WriteFault G below G.n
      ∷ refused_table blames TableFault G below G.n
      ∷ order_checks G

  -- a table is too short, or the image
  tight-says : (Tight (table_rooms n L T) ⊎ (room < image_bytes n L)) ↔ Tight (write_rooms n L T room)
  tight-says = tight_and (table_rooms n L T) (room, image_bytes n L)

  refused-17 : (CountOut n L cycle → ⊥) → Tight (write_rooms n L T room)
      → Refuses (writing n L cycle T room) (record { number = refused_room; action = most_actions })
  unfolding of_tables
  refused-17 counts t = refuses_on counts (refuses_when refused_room t)

  -- past the tests for 3 and 17
  record Passed : Type 0 where
    pub counts : CountOut n L cycle → ⊥
    pub tables : Tight (table_rooms n L T) → ⊥
    pub image : image_bytes n L ≤ room

  module _ (p : Passed) where
    not-17 : Tight (write_rooms n L T room) → ⊥
    not-17 t = ⊎_elim p.tables (λ l. omega (arith, p.image)) (tight-says.1 t)

    rest : (f : Fault) → Refuses rest-row f → Refuses (writing n L cycle T room) f
    unfolding of_tables
    rest f q = refuses_on p.counts (refuses_on not-17 q)

    few : n ≤ 64
    few = (counted n L cycle p.counts).0

    some-level : 1 ≤ L
    some-level = (counted n L cycle p.counts).1

    room_there : Roomy n L T
    room_there =
        let k = counted n L cycle p.counts in
        roomy n L T room not-17 k.0 k.2

-- ---- the tables of a call

passed : (c : Else-room-image_bytes) → let x = c.args in Passed x.n x.levels x.cycle (tables_of x.tables) x.room
passed c = record {
  counts = denied c.count_out.ensures c.if-count_out.false;
  tables = denied c.tight.ensures c.if-tight.false;
  image = omega (arith, c.image_bytes.ensures);
}

-- where none is found
none_found : (Faulty : ℕ → Type 0) (n : ℕ) {r : Option ℕ} → r ≡ None → Lowest Faulty n r → Faultless Faulty n
none_found Faulty n e low = (rw e at low).before

none_left : (r : Option ℕ) {b : Bool} → is_some r ≡ not b → b ≡ true → r ≡ None
none_left None e h = refl
none_left (Some a) e h = absurd (not-both refl (e ∙ ap not h))

in_range : (c : In_default)
    → let x = c.args in
    Faultless (WriteFault (of_tables x.n x.levels x.cycle (tables_of x.tables))) x.n
in_range c = none_found _ _ c.in_default.is c.range-out.ensures

in_table : (c : In_default-fallen)
    → let x = c.args in
    Faultless (TableFault (of_tables x.n x.levels x.cycle (tables_of x.tables))) x.n
unfolding of_tables
in_table c = none_found _ _ c.in_default-fallen.is c.table-fallen.ensures

-- past them all it is for the order to say
from-order : (c : In_default-fallen) (f : Fault)
    → let x = c.args in
    Refuses (order_checks (of_tables x.n x.levels x.cycle (tables_of x.tables))) f
    → Refuses (writing x.n x.levels x.cycle (tables_of x.tables) x.room) f
unfolding of_tables
from-order c f q =
    let x = c.args in
    rest x.n x.levels x.cycle (tables_of x.tables) x.room (passed (goal.at.In_default-fallen c).Else-room-image_bytes) f
    (refuses_on (λ w. in_range (goal.at.In_default-fallen c).In_default w.0 w.1 w.2) (refuses_on (λ w. in_table c w.0 w.1 w.2) q))

pub returns-then-count_out : goal.returns-then-count_out
unfolding of_tables
returns-then-count_out c = rw (c.from.ensures.0, c.from.ensures.1) (refuses_when refused_count (c.count_out.ensures.0 c.if-count_out.true))

pub returns-then-tight : goal.returns-then-tight
returns-then-tight c =
    let x = c.args in
    let short : Tight (table_rooms x.n x.levels (tables_of x.tables)) ⊎ (x.room < image_bytes x.n x.levels) =
    elim c.then-tight.branch [
      | then-tight-via-then-tight w ↦ inl (c.tight.ensures.0 w.if-tight.true)
      | then-tight-via-else-tight+then-room-image_bytes w ↦ inr (omega (arith, w.image_bytes.ensures, w.if-room-image_bytes.true))
    ] in
    rw (c.from-then-tight.ensures.0, c.from-then-tight.ensures.1)
    (refused-17 x.n x.levels x.cycle (tables_of x.tables) x.room (denied c.count_out.ensures c.if-count_out.false) ((tight-says x.n x.levels x.cycle (tables_of x.tables) x.room).0 short))

pub range-out-requires-clause-unbroken : goal.range-out-requires-clause-unbroken
range-out-requires-clause-unbroken c = λ e. none_found _ _ (none_left _ c.is_none-ordered.ensures e) c.table-fallen.ensures

pub returns-in-Some : goal.returns-in-Some
unfolding of_tables
returns-in-Some c =
    let x = c.args in
    let p = passed (goal.at.returns-in-Some c).Else-room-image_bytes in
    rw (c.on.ensures.0, c.on.ensures.1)
    (rest x.n x.levels x.cycle (tables_of x.tables) x.room p _ (refuses_blamed refused_range c.in-Some.ensures.0 (few _ _ _ _ _ p) c.in-Some.ensures.1))

pub returns-in-Some-fallen : goal.returns-in-Some-fallen
unfolding of_tables
returns-in-Some-fallen c =
    let x = c.args in
    let p = passed (goal.at.returns-in-Some-fallen c).Else-room-image_bytes in
    let low = rw c.in-Some-fallen.is at c.table-fallen.ensures in
    rw (c.on-in-Some-fallen.ensures.0, c.on-in-Some-fallen.ensures.1)
    (rest x.n x.levels x.cycle (tables_of x.tables) x.room p _ (refuses_on (λ w. in_range (goal.at.returns-in-Some-fallen c).In_default w.0 w.1 w.2) (refuses_blamed refused_table low.0 (few _ _ _ _ _ p) low.1)))

pub judge-requires : goal.judge-requires
judge-requires c =
    let p = passed (goal.at.judge-requires c).Else-room-image_bytes in
    let none = in_range (goal.at.judge-requires c).In_default in
    let room = room_there _ _ _ _ _ p in
    (masked _ _ _ _ room none, timed _ _ _ _ room none (some-level _ _ _ _ _ p))

pub returns-in_err-judged : goal.returns-in_err-judged
returns-in_err-judged c =
    let x = c.args in
    let p = err_from_is_err_and c.from_residual.result c.from_residual.ensures.1 in
    let verdict = judged x.n x.levels x.cycle (tables_of x.tables) c.in_err-judged.ensures.verdict in
    rw (p.1, p.2) (from-order (goal.at.returns-in_err-judged c).In_default-fallen _ verdict.given)

pub returns-then-judged : goal.returns-then-judged
returns-then-judged c =
    let x = c.args in
    let verdict = judged x.n x.levels x.cycle (tables_of x.tables) (rw (c.in_ok-judged.was, c.if-judged.true) at c.judge.ensures.verdict) in
    rw (c.from-then-judged.ensures.0, c.from-then-judged.ensures.1) (from-order (goal.at.returns-then-judged c).In_default-fallen _ verdict.given)

pub returns : goal.returns
returns c =
    let x = c.args in
    let verdict = judged x.n x.levels x.cycle (tables_of x.tables) (rw (c.in_ok-judged.was, c.if-judged.false) at c.judge.ensures.verdict) in
    from-order (goal.at.returns c).In_default-fallen _ verdict.given
