-- What judging the order asks of tables without 3, 17 and 6, and what it answers of their profile. Assumes nothing.
use Prim.Native.Nat.{ℕ, ◌+◌, ◌*◌, ◌≤◌, ◌<◌}
use mathlib.Core.Path.{refl, ap}
use mathlib.Core.List.{List}
use mathlib.Core.Logic.{inl, inr}
use native.Mathlib.Nat.{add-zero}
use native.Mathlib.Omega.{arith}
use lib.ListN.{get_or}
use Rattle.rules.specs.Numbers.{longest_time}
use Rattle.rules.specs.Image.{ProfileTables, due, of_tables}
use Rattle.rules.specs.Refusals.{WriteFault}
use Rattle.rules.specs.declared.Fault.{Fault}
use Rattle.rules.proofs.Order.Alike.{Alike}
use Rattle.sets.proofs.Laws.{below-exact}
use Rattle.order.specs.Lent.{lent_profile, Masked, Timed}
use Rattle.order.specs.Judged.{Verdict}
use Rattle.order.proofs.Judging.{verdict_alike}
use Rattle.image_pack.specs.Packing.{Roomy}

module _ (n L cycle : ℕ) (T : ProfileTables) where
  -- The worst times at level 0 stand L apart.
  as_lent : Alike (of_tables n L cycle T) (lent_profile n cycle T.masks T.deadlines T.worst L)
  unfolding of_tables due
  as_lent = record {
    n = refl;
    masks = λ a b h l. refl;
    deadlines = λ a h. refl;
    times = λ a h. rw add-zero;
  }

  pub judged : {f : Fault} {order : List ℕ} → Verdict (lent_profile n cycle T.masks T.deadlines T.worst L) f order
      → Verdict (of_tables n L cycle T) f order
  judged v = verdict_alike as_lent v

  module _ (room : Roomy n L T)
      (none : (a : ℕ) → a < n → WriteFault (of_tables n L cycle T) a → ⊥) where
    pub masked : Masked n T.masks
    unfolding of_tables
    masked = record {
      few = room.few_actions;
      long = room.masks_room;
      below = λ a h. (below-exact (get_or T.masks a 0) n).1 (λ f. none a h (inl (inr f)));
    }

    pub timed : 1 ≤ L → Timed n T.deadlines T.worst L
    unfolding of_tables
    timed l = record {
      apart = l;
      dues = room.deadlines_room;
      times = room.worst_room;
      short = λ a h.
          let f : longest_time < get_or T.worst (a * L + 0) 0 → ⊥ = λ x. none a h (inr (0, l, inr x)) in
          omega (arith, ap (λ (i : ℕ). get_or T.worst i 0) (add-zero (a * L)));
    }
