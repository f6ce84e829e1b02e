-- Assumes nothing.
use lib.ListN.{length}
use Rattle.std.proofs.lemmas.Result.{err_from_is_err_and}
use Rattle.image_pack.specs.Packing.{tables_of}
use Rattle.image_write.proofs.Accepting.{Packable, packable}
use Rattle.image_write.proofs.Settled.{refused-writes}
use Rattle.image_write.proofs.write.Goals as goal
use Rattle.image_write.proofs.write.Goals.{In_ok-refusal}

-- nothing is refused
ready : (c : In_ok-refusal)
    → let x = c.args in
    Packable x.n x.levels x.cycle (tables_of x.tables) (length x.image.now)
ready c = packable _ _ _ _ _ c.in_ok-refusal.ensures.number

pub returns-in_err-refusal : goal.returns-in_err-refusal
returns-in_err-refusal c = let p = err_from_is_err_and c.from_residual.result c.from_residual.ensures.1 in rw (p.1, p.2) (refused-writes c.in_err-refusal.field-0.0 c.in_err-refusal.ensures)

pub put_image-requires-clause-roomy : goal.put_image-requires-clause-roomy
put_image-requires-clause-roomy c = (ready (goal.at.put_image-requires-clause-roomy c).In_ok-refusal).tables

pub put_image-requires-clause-levels_in_bounds : goal.put_image-requires-clause-levels_in_bounds
put_image-requires-clause-levels_in_bounds c =
    let r = ready (goal.at.put_image-requires-clause-levels_in_bounds c).In_ok-refusal in
    (r.image, r.cycle-fits, r.deadlines_fit)

pub image_bytes-requires : goal.image_bytes-requires
image_bytes-requires c =
    let r = (ready (goal.at.image_bytes-requires c).In_ok-refusal).tables in
    (r.few_actions, r.few_levels)
