-- The loop has written the records below a. Assumes nothing.
use mathlib.Core.Path.{refl}
use Prim.Native.Nat.{◌+◌}
use native.Mathlib.Omega.{arith}
use borrow.Author.Rules.{rules}
use Rattle.rules.specs.Image.{Profile, ProfileTables, of_tables, record_bytes, record_at, record_image}
use Rattle.fields.proofs.Cats.{cat-none, cat-more}
use Rattle.image_laws.proofs.Sizes.{length_record}
use Rattle.image_pack.specs.Packing.{tables_of, of_records}
use Rattle.image_pack.proofs.Sizes.{roomy_first, image-first, record_end}
use Rattle.image_pack.proofs.put_records.Goals as goal

pub loop-a-init : goal.loop-a-init
loop-a-init c = (search rules, cat-none _ _ _)

pub put_record-requires : goal.put_record-requires
put_record-requires c =
    let a = c.loop-a.a in record {
      roomy = roomy_first _ (omega arith) c.requires.roomy;
      levels_in_bounds = (omega (arith, image-first (a + 1) c.args.n c.args.levels (omega arith)), c.requires.levels_in_bounds.1 a (omega arith));
    }

pub loop-a-preserved : goal.loop-a-preserved
unfolding of_tables record_at
loop-a-preserved c =
    let x = c.args in
    let a = c.loop-a.a in
    let T : ProfileTables = tables_of x.tables in
    let F : Profile = of_records x.levels T in (
      search rules,
      cat-more (record_image F) (record_bytes x.levels) (length_record F) _ _ _ a
          (omega (arith, record_end x.levels a, image-first (a + 1) x.n x.levels (omega arith)))
          refl c.loop-a.invariant.1 c.put_record.ensures,
    )
