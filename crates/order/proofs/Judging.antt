-- Refusals 8 and 9 from the urgencies, the placed actions and the test along them.
use mathlib.Core.Path.{◌≡◌, refl, sym, subst, ◌∙◌}
use mathlib.Core.Bool.{Bool, true, false, not, cond}
use mathlib.Core.Logic.{◌↔◌}
use mathlib.Core.List.{List, []}
use Prim.Native.Nat.{ℕ, ◌≤◌, ◌<◌}
use native.Mathlib.Omega.{arith}
use lib.ListN.{get_or, replicate}
use Rattle.std.specs.Prelude.{Option, None, Some as found, IsSome}
use Rattle.rules.specs.Numbers.{most_actions, refused_loop, refused_unfit}
use Rattle.rules.specs.Image.{Profile, due}
use Rattle.rules.specs.Order.{Order, Loop, TheOrder, Fit}
use Rattle.rules.specs.Refusals.{LowestFault, Lowest, ◌when◌, ◌blames◌below◌, LoopFault, Looped, Unfit}
use Rattle.rules.specs.declared.Fault.{Fault}
use Rattle.rules.proofs.Tests.{not-both}
use Rattle.rules.proofs.Faults.{some-fault}
use Rattle.rules.proofs.Refusals.{Same, refuses-same, refuses-none, refuses_when, refuses_on, refuses_blamed}
use Rattle.rules.proofs.Order.Alike.{Alike, alike_back, on_loop-alike, looped-alike, fit_alike, order_alike}
use Rattle.sets.specs.Sets.{comes_before}
use Rattle.sets.proofs.Lists.{none_yet}
use Rattle.order.specs.Lent.{lent_profile}
use Rattle.order_urgency.specs.Spread.{Urgent}
use Rattle.order.specs.Arranged.{Lists, Placed}
use Rattle.order.specs.Judged.{Ordered, TellsFit, order_checks, Verdict}

module _ (n cycle : ℕ) (masks deadlines : List ℕ) {looped : Bool} (exact : (looped ≡ true) ↔ Loop n (comes_before masks)) where
  pub ordered-loop : looped ≡ true → Ordered (lent_profile n cycle masks deadlines [] 0) true (replicate most_actions 0)
  ordered-loop e = record {
    loop = (λ q. exact.0 e, λ h. refl);
    whole = λ q. absurd (not-both refl q);
    rest = λ j h. none_yet most_actions j;
    none = λ q. refl;
  }

  pub ordered-placed : looped ≡ false → {u l : List ℕ} → Urgent (lent_profile n cycle masks deadlines [] 0) u → Placed n masks u l
      → Ordered (lent_profile n cycle masks deadlines [] 0) false l
  ordered-placed e {u} urgent placed = record {
    loop = (λ q. absurd (not-both q refl), λ h. absurd (not-both (exact.1 h) e));
    whole = λ q. let w = placed.whole in (w.0, record { urgency = λ a. get_or u a 0; urgent = urgent; by_urgency = w.1 }, w.2);
    rest = placed.rest;
    none = λ q. absurd (not-both q refl);
  }

-- The order does not depend on the worst times.
pub ordered-timed : (n cycle : ℕ) (masks deadlines worst : List ℕ) (stride : ℕ) {looped : Bool} {l : List ℕ}
    → Ordered (lent_profile n cycle masks deadlines [] 0) looped l → Ordered (lent_profile n cycle masks deadlines worst stride) looped l
unfolding due
ordered-timed n cycle masks deadlines worst stride x = record {
  loop = x.loop;
  whole = λ e.
      let w = x.whole e in
      (w.0, record { urgency = w.1.urgency; urgent = w.1.urgent; by_urgency = w.1.by_urgency }, w.2);
  rest = x.rest;
  none = x.none;
}

module _ {F : Profile} {looped : Bool} {l : List ℕ} (x : Ordered F looped l) where
  -- where there is a loop, r is the lowest action on one
  pub verdict_loop : looped ≡ true → {r : ℕ} → F.n ≤ most_actions → LowestFault (LoopFault F) F.n r
      → Verdict F (record { number = refused_loop; action = r }) l
  verdict_loop e few low = record {
    given = refuses_blamed refused_loop low few ((some-fault low).1 (x.loop.0 e));
    order = λ q. absurd (q refl);
    rest = x.rest;
    looped = λ q. x.none e;
  }

  -- and there is one
  pub some_looped : looped ≡ true → (r : Option ℕ) → Lowest (LoopFault F) F.n r → IsSome r
  some_looped e None low = absurd (omega (arith, (some-fault low).1 (x.loop.0 e)))
  some_looped e (found a) low = refl

  module _ (straight : looped ≡ false) where
    pub listed_below : (j : ℕ) → j < F.n → get_or l j 0 < F.n
    listed_below j m = let w = x.whole straight in subst (λ (a : ℕ). a < F.n) (sym (w.2 j m)) (w.0.at_lt j m)

    loopless : Looped F → ⊥
    loopless h = not-both (x.loop.1 h) straight

    module _ {r : Bool} (tells : TellsFit F l r) where
      exact : (r ≡ true) ↔ Fit F
      exact = let w = x.whole straight in tells w.0 w.1 w.2

      pub verdict_fit : r ≡ true → Verdict F (record { number = 0; action = most_actions }) l
      verdict_fit e = record {
        given = refuses_on loopless (refuses_on (λ unfit. unfit (exact.0 e)) refuses-none);
        order = λ h. x.whole straight;
        rest = x.rest;
        looped = λ z. absurd (omega arith);
      }

      pub verdict_unfit : r ≡ false → Verdict F (record { number = refused_unfit; action = most_actions }) l
      verdict_unfit e = record {
        given = refuses_on loopless (refuses_when refused_unfit (λ fit. not-both (exact.1 fit) e));
        order = λ h. x.whole straight;
        rest = x.rest;
        looped = λ z. absurd (omega arith);
      }

  -- where there is none, what a test along the order says
  pub verdict_told : looped ≡ false → (r : Bool) → TellsFit F l r
      → Verdict F (record { number = cond (not r) refused_unfit 0; action = most_actions }) l
  verdict_told straight true tells = verdict_fit straight tells refl
  verdict_told straight false tells = verdict_unfit straight tells refl

-- A verdict on slices that were filled from F is one on F.
pub verdict_alike : {F G : Profile} {f : Fault} {l : List ℕ} → Alike F G → Verdict G f l → Verdict F f l
verdict_alike {F} {G} {f} {l} x v = record {
  given = refuses-same (order_checks G) (order_checks F) f (loop, (unfit, tt)) v.given;
  order = λ e. same (v.order e);
  rest = λ j h. v.rest j (omega (arith, x.n));
  looped = v.looped;
}
  where
    y : Alike G F
    y = alike_back x

    loop : Same (refused_loop blames LoopFault G below G.n) (refused_loop blames LoopFault F below F.n)
    loop = record { number = refl; holds = looped-alike y; at_fault = on_loop-alike y }

    unfit : Same (refused_unfit when Unfit G) (refused_unfit when Unfit F)
    unfit = record {
      number = refl;
      holds = ((λ u f. u ((fit_alike x 0).0 f)), (λ u g. u ((fit_alike x 0).1 g)));
      at_fault = λ a. ((λ z. z), (λ z. z));
    }

    same : (o : Order G.n) × TheOrder G o × Lists l o → (o : Order F.n) × TheOrder F o × Lists l o
    same w =
        let p = order_alike y w.1 in
        (p.0, p.1, λ j m. w.2 j (omega (arith, x.n)) ∙ sym (p.2 j))
