-- `trace::record_at` meets its contract. Assumes nothing.
use Rattle.trace.proofs.Entries.{opened, in_cell, lasts}
use Rattle.trace.proofs.record_at.Goals as goal

pub returns : goal.returns
returns c =
    let is = c.big_endian-entry.ensures.0 in
    record { opened = opened _ _ _ is; in_cell = rw c.from-said.ensures (in_cell _ _ _ is); duration = rw c.from-said.ensures (lasts _ _ _ is) }
