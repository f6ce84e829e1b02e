-- The loop has renewed the records of the actions below a. Assumes nothing.
use Prim.Native.Nat.{ℕ}
use mathlib.Core.Path.{◌≡◌, ap}
use native.Mathlib.Omega.{arith}
use borrow.Author.Rules.{rules}
use Rattle.rules.specs.Image.{levels, record_at}
use Rattle.fields.proofs.Cats.{cat-none}
use Rattle.image_fields.proofs.Reading.{has_record}
use Rattle.refresh.proofs.Records.{record_more}
use Rattle.refresh.proofs.renew.Goals as goal

pub loop-a-init : goal.loop-a-init
loop-a-init c = (search rules, search rules, λ trace w copied. cat-none _ _ _)

pub put_averages-requires : goal.put_averages-requires
put_averages-requires c =
    let has = has_record c.loop-a.a c.requires.0 (omega arith) in
    (has, omega (arith, has.within))

pub loop-a-preserved : goal.loop-a-preserved
loop-a-preserved c =
    let a = c.loop-a.a in
    let s = c.args.image.now in
    let has = has_record a c.requires.0 (omega arith) in
    let at : record_at c.args.levels a ≡ record_at (levels s) a = ap (λ (l : ℕ). record_at l a) has.said in (
      search rules,
      search rules,
      λ trace w copied.
          record_more s trace a (omega (arith, at, has.within)) (copied a (omega arith)) (c.loop-a.invariant.2 trace w copied)
          (c.put_averages.ensures trace w),
    )
