-- The loop has written the new averages of the levels below q, and `last` is the one before level q. Assumes nothing.
use Prim.Native.Nat.{ℕ, ◌+◌, ◌*◌, ◌≤◌}
use mathlib.Core.Path.{◌≡◌, refl, sym, ap, ◌∙◌}
use native.Mathlib.Omega.{arith}
use borrow.Author.Rules.{rules}
use Rattle.rules.specs.Image.{levels, record_bytes, record_at, profile}
use Rattle.rules.specs.Refresh.{measured, new_average}
use Rattle.fields.proofs.Cats.{cat-none, cat_done}
use Rattle.trace.specs.Trace.{raised_below}
use Rattle.trace.proofs.Averages.{raised-next}
use Rattle.refresh.proofs.Records.{held, level-more, levels_all}
use Rattle.refresh.proofs.put_averages.Goals as goal

-- the record is there, by the image's own levels
inside : (M L a n : ℕ) → M ≡ L → record_at L a + record_bytes L ≤ n → record_at M a + (12 + 6 * L) ≤ n
unfolding record_bytes
inside M L a n e h = rw e (omega arith)

pub loop-q-init : goal.loop-q-init
unfolding raised_below
loop-q-init c = record { within = search rules; size = search rules; made = λ trace w copied. (refl, cat-none _ _ _) }

pub put_be-requires : goal.put_be-requires
unfolding record_bytes
put_be-requires c = search rules

pub loop-q-preserved : goal.loop-q-preserved
unfolding profile new_average
loop-q-preserved c =
    let a = c.args.a in
    let s = c.args.image.now in
    let has = c.requires.0 in
    let q = c.loop-q.q in
    let at = ap (λ (l : ℕ). record_at l a) (sym has.said) ∙ sym c.record_at-start.ensures in
    let room = inside (levels s) c.args.levels a _ (sym has.said) c.requires.1 in
    record {
      within = search rules;
      size = search rules;
      made = λ trace w copied.
          let (below, so_far) = c.loop-q.invariant.made trace w copied in
          let counts = w a q has.few_actions (omega arith) in
          let new = c.raised-last.ensures (profile s) trace a q (sym c.average_at-average.ensures) counts below in (
            new ∙ sym (raised-next (measured (profile s) trace a) q),
            level-more (profile s) trace a (held s _ a (omega arith) copied) q _ _ (omega arith) (omega arith) new (omega arith) so_far
                c.put_be.ensures,
          );
    }

pub returns : goal.returns
unfolding profile
returns c trace w copied =
    let s = c.args.image.now in
    let a = c.args.a in
    let was = c.loop-q in
    let room = inside (levels s) c.args.levels a _ (sym c.requires.0.said) c.requires.1 in
    levels_all (profile s) trace a (held s _ a (omega arith) copied)
    (cat_done _ _ _ was.q _ (omega (arith, c.requires.0.said)) (was.invariant.made trace w copied).1)
