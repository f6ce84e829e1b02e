-- The loop has written the levels below q. Assumes nothing.
use mathlib.Core.Path.{refl}
use native.Mathlib.Omega.{arith}
use borrow.Author.Rules.{rules}
use Rattle.rules.specs.Image.{Profile, of_tables, level_image}
use Rattle.fields.proofs.Cats.{cat-none, cat-more}
use Rattle.image_pack.specs.Packing.{tables_of, of_records}
use Rattle.image_laws.proofs.Sizes.{length-level}
use Rattle.image_pack.proofs.put_levels.Goals as goal

pub loop-q-init : goal.loop-q-init
loop-q-init c = (search rules, cat-none _ _ _)

pub loop-q-preserved : goal.loop-q-preserved
unfolding of_tables level_image
loop-q-preserved c =
    let x = c.args in
    let F : Profile = of_records x.levels (tables_of x.tables) in (
      search rules,
      cat-more (level_image F x.a) 6 (length-level F x.a) _ _ _ _ (omega arith) refl c.loop-q.invariant.1 c.put_level.ensures,
    )
