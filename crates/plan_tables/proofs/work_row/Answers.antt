-- The levels below q are worked and stored. Assumes nothing.
use mathlib.Core.Path.{◌≡◌, sym, ap, ap₂, subst, ◌∙◌}
use Prim.Native.Nat.{ℕ, suc, ◌+◌, ◌*◌, ◌<◌}
use native.Mathlib.Omega.{arith}
use borrow.Author.Rules.{rules}
use lib.IntN.{pos}
use lib.Signed.{mag}
use lib.ListN.{get_or}
use mir.Syntax.{w32}
use mir.Val.{to_z, of_z}
use Rattle.rules.specs.Image.{average_of, worst_of}
use Rattle.fields.proofs.Cats.{cat-none, cat-more, cat_done, length-cat}
use Rattle.fields.proofs.Tabs.{tab-more, length-tab}
use Rattle.plan_entry.specs.Rows.{carried_of, rooms_of, limits_of, row_of_eight}
use Rattle.plan_entry.specs.Bounds.{bound_in, Spares}
use Rattle.plan_entry.proofs.Signed.{as_is}
use Rattle.plan_entry.proofs.Coast.{bounds-stored}
use Rattle.plan_entry.proofs.Sixteens.{bound-kept}
use Rattle.plan_tables.proofs.work_row.Invariants.{carries, sixteens}
use Rattle.plan_tables.proofs.work_row.Goals as goal
use Rattle.plan_tables.proofs.work_row.Goals.{In-loop-q}

-- the bounds of the position after it stand as they did
kept : (c : In-loop-q) → let a = c.args in
    let x = a.from + c.loop-q.q + a.levels in
    (k : ℕ) → bound_in c.loop-q.bounds a.entries x k ≡ bound_in a.bounds.now a.entries x k
kept c =
    let a = c.args in
    let t = c.loop-q in
    let done = length-cat (sixteens a.image.now a.levels a.a a.due a.held a.from a.entries a.bounds.now) 16
    (λ p. ap suc (length-tab _ 15)) t.q in
    bound-kept a.bounds.now _ (a.from * 16) a.entries (a.from + t.q + a.levels)
    (omega (arith, done, c.requires.inside, c.requires.room.bounds_room)) (omega (arith, done)) t.invariant.7

pub loop-q-init : goal.loop-q-init
loop-q-init c =
    (search rules, search rules, search rules, search rules, cat-none _ _ _, cat-none _ _ _, cat-none _ _ _, cat-none _ _ _)

pub bounds_of-requires-clause-by_index : goal.bounds_of-requires-clause-by_index
bounds_of-requires-clause-by_index c k h =
    let a = c.args in
    let t = c.loop-q in
    rw (kept (goal.at.bounds_of-requires-clause-by_index c).In-loop-q k) (subst (λ (w : ℕ). Spares w (bound_in a.bounds.now a.entries (a.from + t.q + a.levels) k))
    (sym c.worst_at-longest.ensures) (c.requires.spares t.q k (omega arith) h))

-- the turn's room, limit and number carried on
pub loop-q-preserved : goal.loop-q-preserved
loop-q-preserved c =
    let a = c.args in
    let t = c.loop-q in
    let averages = average_of a.image.now a.a in
    let worsts = worst_of a.image.now a.a in
    let longest = c.worst_at-longest.ensures in
    let near : mag (get_or a.held t.q (pos 0)) < 2147483648 = omega arith in
    let nearest : mag (get_or a.held 0 (pos 0)) < 2147483648 = omega arith in
    let room-is : to_z w32 (of_z w32 c.minus-room.result) ≡ rooms_of a.held averages t.q =
    rw (as_is c.minus-room.result c.minus-room.type_inv)
    (rw (as_is (get_or a.held t.q (pos 0)) near, c.average_at-average.ensures) at c.minus-room.ensures) in
    let limit_is : to_z w32 (of_z w32 c.limit_of-limit.result) ≡ limits_of a.held averages worsts a.due t.q =
    rw (as_is c.limit_of-limit.result c.limit_of-limit.type_inv)
    (rw (as_is (get_or a.held 0 (pos 0)) nearest, longest, room-is) at c.limit_of-limit.ensures) in
    let carried_is : to_z w32 (of_z w32 c.carried.result) ≡ carries a.policy a.image.now a.a a.due a.held t.q =
    as_is c.carried.result c.carried.type_inv ∙ c.carried.ensures ∙ ap₂ (carried_of a.policy t.q) limit_is room-is in
    let done = c.bounds_of in
    let few = c.requires.present.few_levels in
    let inside = c.requires.inside in
    let room = c.requires.room in (
      search rules,
      search rules,
      search rules,
      done.auto.out ∙ t.invariant.3,
      tab-more _ _ 0 t.q t.q (omega arith) (omega arith) t.invariant.0 carried_is t.invariant.4,
      tab-more _ _ a.from (a.from + t.q) t.q (omega (arith, room.limits_room)) (omega arith) t.invariant.1 limit_is t.invariant.5,
      tab-more _ _ a.from (a.from + t.q) t.q (omega (arith, room.worst_room)) (omega arith) t.invariant.2 longest t.invariant.6,
      cat-more (sixteens a.image.now a.levels a.a a.due a.held a.from a.entries a.bounds.now) 16
          (λ p. ap suc (length-tab _ 15)) a.bounds.now (a.from * 16) ((a.from + t.q) * 16) t.q (omega arith) (omega arith) t.invariant.7
          (bounds-stored t.bounds ((a.from + t.q) * 16) limit_is longest (λ k h. kept (goal.at.loop-q-preserved c).In-loop-q k) done.ensures),
    )

pub returns : goal.returns
unfolding row_of_eight
returns c =
    let a = c.args in
    let t = c.loop-q in
    let all : t.q ≡ a.levels = omega arith in
    record {
      row_is = cat_done _ _ 0 t.q a.levels all t.invariant.4;
      limits_are = cat_done _ _ a.from t.q a.levels all t.invariant.5;
      worst_is = cat_done _ _ a.from t.q a.levels all t.invariant.6;
      bounds_are = cat_done _ _ (a.from * 16) t.q a.levels all t.invariant.7;
    }
