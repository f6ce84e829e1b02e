-- The order of an image's actions, judged on its columns.
use mathlib.Core.Path.{◌≡◌, refl, ◌∙◌}
use mathlib.Core.Bool.{Bool, true, false, cond, false≢true}
use mathlib.Core.List.{List, [], ◌∷◌}
use mathlib.Core.Logic.{inl, inr, ◌↔◌, ◌≢◌}
use Prim.Native.Nat.{ℕ}
use native.Mathlib.Nat.{le_refl, mul-one}
use native.Mathlib.Omega.{arith}
use lib.ListN.{get_or}
use Rattle.rules.specs.Image.{Profile, due, profile}
use Rattle.rules.specs.Numbers.{refused_loop, refused_unfit}
use Rattle.rules.specs.Refusals.{Ground, ◌when◌, ◌blames◌below◌, First, AtFault, Refuses, LoopFault, Looped, Unfit}
use Rattle.rules.specs.declared.Fault.{Fault}
use Rattle.rules.proofs.Refusals.{first-none}
use Rattle.rules.proofs.Order.Alike.{Alike, alike_back}
use Rattle.sets.proofs.Laws.{below-exact}
use Rattle.fields.proofs.Bytes.{Bytes}
use Rattle.order.specs.Lent.{lent_profile, Masked, Timed}
use Rattle.order.specs.Judged.{Verdict}
use Rattle.order.proofs.Judging.{verdict_alike}
use Rattle.image_fields.specs.declared.Header.{Header}
use Rattle.image_fields.specs.Reading.{HeaderOf, Opened, Columns}
use Rattle.image_fields.proofs.Reading.{worst-short}
use Rattle.image_check.specs.declared.Checked.{Checked}
use Rattle.image_check.specs.Checks.{record_checks, Found}
use Rattle.image_check.proofs.Checks.{record_numbered}

module _ {s : List ℕ} {h : Header} {m d w : List ℕ} (x : Opened s h) (y : Columns s h.n m d w) where
  -- with none of 5 to 7 a mask names actions only
  pub masked : First (record_checks s) 0 → Masked h.n m
  unfolding profile
  masked none =
      let (_, (not_range, _)) = (first-none (record_checks s) (record_numbered s)).0 none in
      record {
        few = x.records.few_actions;
        long = y.masks.room;
        below = λ a l. (below-exact (get_or m a 0) h.n).1
            (λ b. not_range (a, omega (arith, x.header.n), inr (rw (x.header.n, y.masks.each a l) at b)));
      }

  pub timed : Bytes s → Timed h.n d w 1
  timed bytes = record {
    apart = le_refl 1;
    dues = y.deadlines.room;
    times = rw mul-one y.worst.room;
    short = λ a l. rw (mul-one, y.worst.each a l) (worst-short s a 0 bytes);
  }

  -- the columns say of the order what the profile says
  alike : Alike (lent_profile h.n h.cycle m d w 1) (profile s)
  unfolding profile due
  alike = record {
    n = x.header.n;
    masks = λ a b l k. rw (y.masks.each a l);
    deadlines = λ a l. rw (y.deadlines.each a l, x.header.cycle);
    times = λ a l. rw mul-one (y.worst.each a l);
  }

  pub verdict : {f : Fault} {l : List ℕ} → Verdict (lent_profile h.n h.cycle m d w 1) f l → Verdict (profile s) f l
  verdict v = verdict_alike (alike_back alike) v

-- The number that a judgement says is not 8, and 9 where it says unfit.
pub no_loop : (b : Bool) → cond b refused_unfit 0 ≢ refused_loop
no_loop true = λ e. omega (arith, e)
no_loop false = λ e. omega (arith, e)

pub nine_if : (b : Bool) → (b ≡ true) ↔ (cond b refused_unfit 0 ≡ refused_unfit)
nine_if true = ((λ e. refl), (λ e. refl))
nine_if false = ((λ e. absurd (false≢true e)), (λ e. absurd (omega (arith, e))))

-- what the header and a judgement say is found
pub found : {s : List ℕ} {h : Header} {r : Checked} {f : Fault} → HeaderOf s h → Verdict (profile s) f r.order → f.number ≢ refused_loop
    → r.n ≡ h.n → r.levels ≡ h.levels → r.cycle ≡ h.cycle → Found s r
unfolding profile
found x v loopless n levels cycle = record {
  n = n ∙ x.n;
  levels = levels ∙ x.levels;
  cycle = cycle ∙ x.cycle;
  order = v.order loopless;
  rest = v.rest;
}

-- ---- 8, and then 9

module _ {F : Profile} {f : Fault} {l : List ℕ} (v : Verdict F f l) where
  abbrev eight : Ground
  eight = refused_loop blames LoopFault F below F.n

  abbrev nine : List Ground
  nine = refused_unfit when Unfit F ∷ []

  -- the number of 9 or of none
  other : First nine f.number → f.number ≢ refused_loop
  other (inl p) e = omega (arith, p.1)
  other (inr p) e = omega (arith, p.1)

  -- The order gives 8 exactly if its verdict is 8.
  pub loop-given : f.number ≡ refused_loop → Refuses (eight ∷ []) f
  loop-given e = record { number = number v.given.number; action = action v.given.number v.given.action }
    where
      number : First (eight ∷ nine) f.number → First (eight ∷ []) f.number
      number (inl p) = inl p
      number (inr p) = absurd (other p.1 e)

      action : First (eight ∷ nine) f.number → AtFault (eight ∷ nine) f.action → AtFault (eight ∷ []) f.action
      action p (inl q) = inl q
      action (inl p) (inr q) = absurd (q.0 p.0)
      action (inr p) (inr q) = absurd (other p.1 e)

  module _ (loopless : f.number ≢ refused_loop) where
    after-loop : (Looped F → ⊥) × First nine f.number
    after-loop = by v.given.number
      where
        by : First (eight ∷ nine) f.number → (Looped F → ⊥) × First nine f.number
        by (inl p) = absurd (loopless p.1)
        by (inr p) = p

    pub none-given : First (eight ∷ []) 0
    none-given = inr (after-loop.0, refl)

    pub unfit-told : (f.number ≡ refused_unfit) ↔ Unfit F
    unfit-told = by after-loop.1
      where
        by : First nine f.number → (f.number ≡ refused_unfit) ↔ Unfit F
        by (inl p) = ((λ e. p.0), (λ u. p.1))
        by (inr p) = ((λ e. absurd (omega (arith, p.1))), (λ u. absurd (p.0 u)))
