-- A byte more is counted only where there is room for it. Assumes nothing.
use native.Mathlib.Omega.{arith}
use Rattle.text.proofs.Puts.{put_one, put_full}
use Rattle.text.proofs.put.put_byte.Goals as goal

pub returns-then-at-out : goal.returns-then-at-out
returns-then-at-out c = put_one (omega arith) _ (omega arith)

pub returns : goal.returns
returns c = put_full (omega arith) _ (omega arith)
