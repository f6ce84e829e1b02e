use mathlib.Core.Path.{◌≡◌}
use Prim.Native.Nat.{◌*◌}
use lib.ListN.{length}
use Rattle.rules.specs.Numbers.{summary_numbers}
use Rattle.rules.specs.Words.{cat, tab}
use Rattle.rules.specs.Image.{worst_of}
use Rattle.rules.specs.Repeat.{numbers_of}
use Rattle.fields.specs.Fields.{splice}
use Rattle.repeat_tables.specs.Summing.{carried, with_rest}
use Rattle.repeat_tables.proofs.sum_row.Given as goal

abbrev pub invariant-loop-q : goal.invariant-loop-q
invariant-loop-q l =
    (length l.averages ≡ length l.initial.averages)
    × (length l.mixes ≡ length l.initial.mixes)
    × (length l.worsts ≡ length l.initial.worsts)
    × (length l.summaries ≡ length l.initial.summaries)
    × (length l.worst ≡ length l.initial.worst)
    × (l.averages ≡ splice l.initial.averages 0 (tab (λ p. (with_rest l.image l.policy l.a (carried l.initial.averages l.after l.initial.mixes l.initial.worsts) p).average) l.q))
    × (l.mixes ≡ splice l.initial.mixes 0 (tab (λ p. (with_rest l.image l.policy l.a (carried l.initial.averages l.after l.initial.mixes l.initial.worsts) p).mix) l.q))
    × (l.worsts ≡ splice l.initial.worsts 0 (tab (λ p. (with_rest l.image l.policy l.a (carried l.initial.averages l.after l.initial.mixes l.initial.worsts) p).worst) l.q))
    × (l.summaries ≡ splice l.initial.summaries (l.from * summary_numbers) (cat (λ p. numbers_of (with_rest l.image l.policy l.a (carried l.initial.averages l.after l.initial.mixes l.initial.worsts) p)) l.q))
    × (l.worst ≡ splice l.initial.worst l.from (tab (worst_of l.image l.a) l.q))
