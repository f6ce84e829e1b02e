-- A turn writes the next mask and deadline and the next row of averages and of worst times. Assumes nothing.
use mathlib.Core.Path.{refl}
use native.Mathlib.Omega.{arith}
use borrow.Author.Rules.{rules}
use Rattle.fields.proofs.Strides.{stride_fits}
use Rattle.fields.proofs.Cats.{cat-none, cat-more}
use Rattle.fields.proofs.Tabs.{length-tab}
use Rattle.image_fields.proofs.Reading.{has_record}
use Rattle.image_read.proofs.unpack.Goals as goal

pub loop-a-init : goal.loop-a-init
loop-a-init c = (search rules, search rules, search rules, search rules, cat-none _ _ _, cat-none _ _ _, cat-none _ _ _, cat-none _ _ _)

pub loop-a-preserved : goal.loop-a-preserved
loop-a-preserved c =
    let i = c.loop-a in
    let x = c.args in
    let e = c.unpack_record.ensures in
    let fits = stride_fits i.a x.n x.levels (omega arith) in (
      search rules,
      search rules,
      search rules,
      search rules,
      cat-more _ 1 (λ k. refl) _ 0 _ i.a (omega arith) (omega arith) i.invariant.4 e.masks_after,
      cat-more _ 1 (λ k. refl) _ 0 _ i.a (omega arith) (omega arith) i.invariant.5 e.deadlines_after,
      cat-more _ x.levels (λ k. length-tab _ x.levels) _ 0 _ i.a (omega arith) (omega arith) i.invariant.6 e.averages_after,
      cat-more _ x.levels (λ k. length-tab _ x.levels) _ 0 _ i.a (omega arith) (omega arith) i.invariant.7 e.worst_after,
    )

pub unpack_record-requires-clause-has_record : goal.unpack_record-requires-clause-has_record
unpack_record-requires-clause-has_record c = has_record _ c.requires.has_records (omega arith)
