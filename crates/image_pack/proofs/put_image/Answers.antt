-- Assumes nothing.
use native.Mathlib.Omega.{arith}
use Rattle.rules.specs.Image.{ProfileTables, of_tables, header_of, record_image, level_image, image_bytes}
use Rattle.image_pack.specs.Packing.{tables_of}
use Rattle.image_pack.proofs.Images.{image-written}
use Rattle.image_pack.proofs.put_image.Goals as goal

pub put_header-requires : goal.put_header-requires
unfolding image_bytes
put_header-requires c = omega arith

pub returns : goal.returns
unfolding of_tables header_of record_image level_image image_bytes
returns c =
    let x = c.args in
    let T : ProfileTables = tables_of x.tables in
    image-written (of_tables x.n x.levels x.cycle T) _ (omega arith)
    c.put_header.ensures c.put_records.ensures
