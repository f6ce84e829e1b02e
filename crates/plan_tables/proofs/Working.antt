-- The limits, the worst times and the coast bounds of an accepted image, worked from the last position back. Assumes nothing.
use Prim.Native.Nat.{ℕ, ◌+◌, ◌*◌, ◌≤◌, ◌<◌}
use mathlib.Core.Path.{◌≡◌, sym, ap, ◌∙◌}
use mathlib.Core.List.{List}
use native.Mathlib.Nat.{mul-le-mul_right}
use native.Mathlib.Omega.{arith}
use lib.IntN.{ℤ}
use lib.ListN.{get_or}
use Rattle.rules.specs.Words.{tab}
use Rattle.rules.specs.Image.{due, average_of, worst_of, profile}
use Rattle.rules.specs.Order.{Order}
use Rattle.rules.specs.Limits.{Tables, tables, limit_by, LentTables}
use Rattle.rules.proofs.Refusals.{Sound, accepted-sound}
use Rattle.rules.proofs.Accepted.{some_level, tables-sound, tables-small}
use Rattle.rules.proofs.Speed.Reading.{times-small}
use Rattle.fields.specs.Fields.{splice}
use Rattle.fields.proofs.Bytes.{Bytes}
use Rattle.fields.proofs.Strides.{stride_more}
use Rattle.fields.proofs.Cats.{cat_from, from-none, from_more, from_done}
use Rattle.fields.proofs.Tabs.{tab_ext, length-tab}
use Rattle.image_fields.specs.Reading.{HasRecord, HasRecords}
use Rattle.image_fields.proofs.Reading.{has-records, has_record}
use Rattle.plan_entry.specs.Rows.{Held, after_last}
use Rattle.plan_entry.specs.Bounds.{bounds_from}
use Rattle.plan_entry.proofs.Limits.{Lawful, Position, Worked, limit_is, worked-none, worked-more, worked_done}
use Rattle.plan_entry.proofs.Sixteens.{Bounded, bounded-more}
use Rattle.plan_tables.specs.Filling.{PlanInput, EntriesFit, Works, RowsFilled}

-- The loop before it works the position in front of i: the row at i, and the rows from i on in the three tables.
pub record Back (policy : ℕ) (S : Tables) (n L : ℕ) (lent : LentTables) (i : ℕ) (next : List ℤ) (now : LentTables) : Type 0 where
  pub worked : Worked policy S n L lent.limits i next now.limits
  pub stored : now.worst ≡ splice lent.worst (i * L) (cat_from (λ k. tab (S.worst k) L) i n)
  pub bounded : Bounded policy S n L lent.bounds i now.bounds

module _ {s : List ℕ} {n L cycle : ℕ} {actions : List ℕ} {o : Order (profile s).n} (g : PlanInput s n L cycle actions o) where
  sound : Sound s
  sound = (accepted-sound s).0 g.accepted

  pub records : HasRecords s L n
  records = has-records s g.n_is g.levels_are sound.not_count sound.not_length

  pub lawful : Bytes s → Lawful (tables (profile s) o) n L
  lawful bytes = record {
    positions = sym g.n_is;
    levels_are = sym g.levels_are;
    most = records.few_levels;
    sound = tables-sound (profile s) o (some_level (profile s) o sound.not_count) sound.not_table;
    small = tables-small (profile s) o sound.not_count sound.not_range (times-small s bytes);
  }

  module _ (i : ℕ) (l : i < n) where
    action : get_or actions i 0 ≡ o.at i
    action = g.lists i (omega (arith, g.n_is))

    pub present : HasRecord s L (get_or actions i 0)
    present = has_record (get_or actions i 0) records (omega (arith, action, g.n_is, o.at_lt i (omega (arith, g.n_is))))

    pub position : {deadline : ℕ} → deadline ≡ due (profile s) (get_or actions i 0)
        → Position (tables (profile s) o) L i (average_of s (get_or actions i 0)) (worst_of s (get_or actions i 0)) deadline
    unfolding profile
    position e = record {
      due = e ∙ ap (due (profile s)) action;
      averages = λ q m. ap (λ (k : ℕ). average_of s k q) action;
      worsts = λ q m. ap (λ (k : ℕ). worst_of s k q) action;
    }

-- ---- the loop: before it, a turn from position j down to i, and after it

module _ {S : Tables} {n L : ℕ} (lawful : Lawful S n L) (policy : ℕ) (lent : LentTables) where
  pub back_none : {next : List ℤ} → next ≡ after_last → Back policy S n L lent n next lent
  back_none e = record {
    worked = worked-none lawful policy lent.limits e;
    stored = from-none (λ k. tab (S.worst k) L) lent.worst (n * L) n;
    bounded = from-none (bounds_from S (limit_by policy S) L) lent.bounds (n * (L * 16)) n;
  }

  pub back_more : {s : List ℕ} {a deadline : ℕ} {next held row : List ℤ} {before after : LentTables} (i j : ℕ) → j ≡ i + 1 → j ≤ n
      → EntriesFit (n * L) lent → Back policy S n L lent j next before → Position S L i (average_of s a) (worst_of s a) deadline
      → Held policy deadline next held → Works s L policy a deadline held (i * L) (n * L) before after row → Back policy S n L lent i row after
  back_more {s} {a} {before = before} i j e h room was at holds is =
      let same = tab_ext (worst_of s a) (S.worst i) L at.worsts in
      record {
        worked = worked-more lawful policy lent.limits i j e h room.limits_room was.worked at holds is.row_is is.limits_are;
        stored = from_more (λ k. tab (S.worst k) L) L (λ k. length-tab (S.worst k) L) lent.worst i j n (j * L) (i * L) e h
            (ap (λ (k : ℕ). k * L) e ∙ stride_more i L)
            (omega (arith, mul-le-mul_right L h, room.worst_room))
            was.stored
            (is.worst_is ∙ ap (splice before.worst (i * L)) same);
        bounded = bounded-more lawful policy lent.bounds room.bounds_room i j e h was.bounded _ (worst_of s a)
            (limit_is lawful policy i j e h was.worked.row at holds) at.worsts is.bounds_are;
      }

pub back_done : {s : List ℕ} {n L : ℕ} (policy : ℕ) (o : Order (profile s).n) (lent : LentTables) {next : List ℤ} {after : LentTables} (i : ℕ) → i ≡ 0
    → Lawful (tables (profile s) o) n L → Back policy (tables (profile s) o) n L lent i next after → RowsFilled s policy n L lent after o
back_done {s} {n} {L} policy o lent i e lawful b =
    let S = tables (profile s) o in
    let start : (m : ℕ) → i * m ≡ 0 = λ m. ap (λ (k : ℕ). k * m) e ∙ omega arith in
    record {
      limits_are = worked_done lawful policy lent.limits i e b.worked;
      worst_is = from_done (λ k. tab (S.worst k) L) lent.worst 0 i n (i * L) e (start L) b.stored;
      bounds_are = from_done (bounds_from S (limit_by policy S) L) lent.bounds 0 i n (i * (L * 16)) e (start (L * 16)) b.bounded;
    }
