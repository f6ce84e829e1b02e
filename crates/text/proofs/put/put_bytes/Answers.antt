-- The bytes before the index are put. Assumes nothing.
use mathlib.Core.Path.{sym}
use native.Mathlib.Numerals.{add-one}
use native.Mathlib.Omega.{arith}
use lib.Seq.{take-suc}
use Rattle.text.proofs.Puts.{put_none, put_then, put_as}
use Rattle.text.proofs.put.put_bytes.Goals as goal

pub loop-b-init : goal.loop-b-init
loop-b-init c = (omega arith, put_none (omega arith))

pub loop-b-preserved : goal.loop-b-preserved
loop-b-preserved c =
    let more = take-suc c.args.from.now c.loop-b.b-index 0 (omega arith) in
    (omega arith, put_as (sym (rw add-one more)) (put_then (omega arith) c.loop-b.invariant.1 c.put_byte-to.ensures))
