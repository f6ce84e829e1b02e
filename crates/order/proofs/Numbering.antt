-- The order of the numbers.
use mathlib.Core.Path.{◌≡◌, refl}
use mathlib.Core.Bool.{false}
use mathlib.Core.Logic.{inl}
use mathlib.Core.List.{List}
use Prim.Native.Nat.{ℕ, ◌<◌}
use native.Mathlib.Nat.{le_refl, le_of_eq}
use lib.ListN.{get_or}
use Rattle.rules.specs.Image.{Profile, due}
use Rattle.rules.specs.Order.{Before, ByUrgency, TheOrder}
use Rattle.rules.proofs.Tests.{not-both}
use Rattle.rules.proofs.Order.Best.{by_urgency_permitted, follower_present}
use Rattle.rules.proofs.Order.Loops.{no_loop}
use Rattle.order_line.proofs.Numbering.{identity}
use Rattle.order.specs.Arranged.{ZeroFrom}
use Rattle.order.specs.Judged.{ByNumber, Ordered}

-- Equally urgent, the lowest action that is not done is ready, as its predecessors are lower still.
module _ {F : Profile} (x : ByNumber F) where
  by : ByUrgency F.n (Before F) (due F) (identity F.n)
  unfolding identity
  by = record {
    ready = λ k l. record { present = l; waits = le_refl k; free = λ b m h. x.lower k l b h };
    least = λ k a l r. le_of_eq (x.one k a l r.present);
    lowest = λ k a l r e. r.waits;
  }

  the_order : TheOrder F (identity F.n)
  the_order = record {
    urgency = due F;
    urgent = λ a l. record {
      own = le_refl (due F a);
      later = λ b f. le_of_eq (x.one a b l (follower_present f));
      met = inl refl;
    };
    by_urgency = by;
  }

  pub ordered_numbers : {l : List ℕ} → ((k : ℕ) → k < F.n → get_or l k 0 ≡ k) → ZeroFrom F.n l → Ordered F false l
  unfolding identity
  ordered_numbers listed rest = record {
    loop = (λ e. absurd (not-both e refl), λ h. absurd (no_loop (identity F.n) (by_urgency_permitted (identity F.n) by) h));
    whole = λ e. (identity F.n, the_order, listed);
    rest = rest;
    none = λ e. absurd (not-both e refl);
  }
