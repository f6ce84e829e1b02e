-- By the year; in 2008 no body adds nothing; some are multiplied out. Assumes nothing.
use Prim.Native.Nat.{◌≤◌}
use native.Mathlib.Omega.{arith}
use Rattle.repeat_limits.specs.Limits.{most_entry}
use Rattle.repeat_limits.proofs.Sizes.{times-small, later-small, read-later}
use Rattle.repeat_limits.proofs.bodies_after.Goals as goal

pub returns : goal.returns
returns c =
    let a = c.args in
    let some = c.if-after-eq0.false in
    let average = c.number_at-average.ensures in
    let lowest = c.number_at-lowest.ensures in
    let mix = c.number_at-2.ensures in
    let most : c.max.result ≤ most_entry = omega (arith, c.max.ensures, average.small, lowest.small) in
    record {
      few_lowest = times-small a.after _ c.requires.1 lowest.small;
      few_mix = later-small a.after _ _ some c.requires.1 most mix.small;
      is = rw c.max.ensures (read-later a.policy c.if-policy-eq-POLICY_2005.false {l = a.summaries.now} {q = a.q}
          (record { average_is = average.is; lowest_is = lowest.is; mix_is = mix.is }) a.after some);
    }
