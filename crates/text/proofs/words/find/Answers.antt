-- The first of the byte behind `from`. Assumes nothing.
use Prim.Native.Nat.{◌<◌}
use mathlib.Core.Path.{◌≡◌, sym, ◌∙◌}
use mathlib.Core.Logic.{◌≢◌}
use native.Mathlib.Omega.{arith}
use borrow.Author.Rules.{rules}
use borrow.Author.Tests.{tests}
use lib.ListN.{length, drop, drop_of_length-le, length-drop}
use lib.Seq.{drop-drop, take_all}
use Rattle.std.specs.Option.{MatchOption}
use Rattle.std.specs.List.{AllWithin, HoldsAt}
use Rattle.std.proofs.lemmas.Iterator.{IsFirst-from_position, YieldsList-from_slice}
use Rattle.text.proofs.Passed.{first_at, first_nowhere}
use Rattle.text.proofs.words.find.Goals as goal
use Rattle.text.proofs.words.find.Goals.{After-position}

first : (c : After-position) → let s = drop c.args.from c.args.text.now in
    MatchOption c.position.result (AllWithin (λ x. x ≢ c.args.byte) s 0 (length s))
    (λ i. (i < length s) × HoldsAt (λ x. x ≡ c.args.byte) s i × AllWithin (λ x. x ≢ c.args.byte) s 0 i)
first c =
    let rest : c.iter.result.rest.now ≡ drop c.args.from c.args.text.now = c.iter.ensures.rest ∙ take_all _ (drop c.args.from c.args.text.now) (omega (arith, length-drop c.args.from c.args.text.now)) in
    IsFirst-from_position _ _ _ (λ x. x ≡ c.args.byte) (λ x. x ≢ c.args.byte) c.position.ensures.ran
    (YieldsList-from_slice (drop c.args.from c.args.text.now) rest) (λ x q k. search (rules, tests)) (λ x q k. search (rules, tests))

pub returns-in-Some-clause-text_value : goal.returns-in-Some-clause-text_value
returns-in-Some-clause-text_value c =
    let is = rw c.in-Some.is at (first (goal.at.returns-in-Some-clause-text_value c).After-position) in
    sym (drop-drop c.in-Some.k c.args.from _) ∙ first_at _ c.in-Some.k _ is.0 (is.1 0) (λ k l. is.2 k 0 (omega arith) l)

pub returns-in-None-clause-text_value : goal.returns-in-None-clause-text_value
returns-in-None-clause-text_value c =
    let is = rw c.in-None.is at (first (goal.at.returns-in-None-clause-text_value c).After-position) in
    drop_of_length-le c.args.text.now {i = length c.args.text.now} (omega arith) ∙ first_nowhere _ _ (λ k l. is k 0 (omega arith) l)
