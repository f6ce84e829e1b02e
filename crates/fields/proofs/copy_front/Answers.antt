-- The first n bytes of a list are the table of them. Assumes nothing.
use mathlib.Core.Path.{◌≡◌, ◌∙◌}
use mathlib.Core.List.{List, ◌++◌}
use Prim.Native.Nat.{ℕ, ◌≤◌}
use native.Mathlib.Nat.{zero-add}
use lib.ListN.{length, get_or, take, drop}
use lib.Seq.{length-take-le, get_or-take}
use Rattle.rules.specs.Words.{tab}
use Rattle.fields.specs.Fields.{splice}
use Rattle.fields.proofs.Tabs.{tab-is, length-tab}
use Rattle.fields.proofs.copy_front.Goals as goal

copied : (out from : List ℕ) {front : List ℕ} (n : ℕ) → n ≤ length from → front ≡ take n from → front ++ drop n out ≡ splice out 0 (tab (λ k. get_or from k 0) n)
unfolding splice
copied out from n h is =
    let taken : take n from ≡ tab (λ k. get_or from k 0) n = tab-is (λ k. get_or from k 0) (take n from) 0 n (length-take-le n from h) (λ k b. get_or-take n from k 0 b) in
    rw (zero-add, length-tab (λ k. get_or from k 0) n, is ∙ taken)

pub returns : goal.returns
returns c = copied _ _ c.args.n c.requires.0 c.copy_from_slice.ensures.after
