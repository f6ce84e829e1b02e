-- What is at least 0 is a number. Assumes nothing.
use Prim.Native.Nat.{ℕ}
use mathlib.Core.Path.{sym, ap}
use mathlib.Core.Bool.{Bool, cond}
use lib.Ieee.{Float, binary64, to_bits}
use Rattle.print.specs.Reading.{ratio_bits}
use Rattle.print.proofs.reading.bits.Goals as goal

abbrev picked : Float → Bool → ℕ
picked x b = cond b (to_bits binary64 x) 18446744073709551615

pub returns-then-x : goal.returns-then-x
unfolding ratio_bits
returns-then-x c = sym (ap (picked c.args.x) c.if-x.true)

pub returns : goal.returns
unfolding ratio_bits
returns c = sym (ap (picked c.args.x) c.if-x.false)
