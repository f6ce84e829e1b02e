-- The two tests are the range that the cast asks for.
use Rattle.std.proofs.Common.{refl, ◌≡◌}
use Rattle.std.proofs.lemmas.Float.{T_from_true}
use Rattle.std.specs.Float.{minus_one, two_to}
use Rattle.std.specs.Float.Ieee
use Rattle.test_speed.proofs.thousandths.Goals as goal

lowest : Ieee.neg (Ieee.of_bits Ieee.binary64 4607182418800017408) ≡ minus_one
unfolding Ieee.of_bits Ieee.neg
lowest = refl

highest : Ieee.of_bits Ieee.binary64 4895412794951729152 ≡ two_to 64
unfolding Ieee.of_bits
highest = refl

pub truncating_f64_to_u64-requires-clause-lower_bound : goal.truncating_f64_to_u64-requires-clause-lower_bound
truncating_f64_to_u64-requires-clause-lower_bound c = T_from_true _ (rw lowest at c.if-y.true)

pub truncating_f64_to_u64-requires-clause-upper_bound : goal.truncating_f64_to_u64-requires-clause-upper_bound
truncating_f64_to_u64-requires-clause-upper_bound c = T_from_true _ (rw highest at c.if-y-2.true)
