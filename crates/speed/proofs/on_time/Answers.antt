-- A ratio is tested; spent and a refusal tell no. Assumes nothing.
use Rattle.speed.proofs.OnTime.{ratio_tells, spent_tells, refused_tells}
use Rattle.speed.proofs.on_time.Goals as goal

pub returns-in-Ratio : goal.returns-in-Ratio
returns-in-Ratio c = ratio_tells (λ k. (c.type_inv.image k).fits) c.in-Ratio.ensures c.at_most_one.ensures

pub returns-in-Spent : goal.returns-in-Spent
returns-in-Spent c = spent_tells c.in-Spent.ensures

pub returns-in-Refused : goal.returns-in-Refused
returns-in-Refused c = refused_tells c.in-Refused.ensures
