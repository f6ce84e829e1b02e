-- Profiles that say the same: they have the same image, and the same grounds of refusal hold of them.
use Prim.Native.Nat.{ℕ, ◌<◌}
use mathlib.Core.Path.{◌≡◌, sym, ap, subst}
use native.Mathlib.Omega.{arith}
use Rattle.rules.specs.Image.{Profile, has, due, header_of, level_image, record_image, image}
use Rattle.rules.specs.Refusals.{Count, Range, RowBreaks, Table, Looped, Unfit}
use Rattle.rules.proofs.Faults.{TimeOut, breaks_same}
use Rattle.rules.proofs.Order.Alike.{Alike, looped-alike, fit_alike}
use Rattle.fields.proofs.Cats.{cat_ext}

-- equal counts and cycle, and equal tables of n actions at L levels
pub record Same (F G : Profile) : Type 0 where
  pub n : F.n ≡ G.n
  pub levels : F.levels ≡ G.levels
  pub cycle : F.cycle ≡ G.cycle
  pub mask : (a : ℕ) → a < F.n → F.mask a ≡ G.mask a
  pub deadline : (a : ℕ) → a < F.n → F.deadline a ≡ G.deadline a
  pub average : (a q : ℕ) → a < F.n → q < F.levels → F.average a q ≡ G.average a q
  pub worst : (a q : ℕ) → a < F.n → q < F.levels → F.worst a q ≡ G.worst a q

pub same_back : {F G : Profile} → Same F G → Same G F
same_back x = record {
  n = sym x.n;
  levels = sym x.levels;
  cycle = sym x.cycle;
  mask = λ a l. sym (x.mask a (omega (arith, x.n)));
  deadline = λ a l. sym (x.deadline a (omega (arith, x.n)));
  average = λ a q l m. sym (x.average a q (omega (arith, x.n)) (omega (arith, x.levels)));
  worst = λ a q l m. sym (x.worst a q (omega (arith, x.n)) (omega (arith, x.levels)));
}

module _ {F G : Profile} (x : Same F G) where
  -- ---- the image

  level-same : (a q : ℕ) → a < F.n → q < F.levels → level_image F a q ≡ level_image G a q
  unfolding level_image
  level-same a q l m = rw (x.average a q l m, x.worst a q l m)

  record_same : (a : ℕ) → a < F.n → record_image F a ≡ record_image G a
  unfolding record_image
  record_same a l =
      rw (x.mask a l, x.deadline a l, cat_ext (level_image F a) (level_image G a) F.levels (λ q m. level-same a q l m), x.levels)

  pub image-same : image F ≡ image G
  unfolding image header_of
  image-same = rw (cat_ext (record_image F) (record_image G) F.n record_same, x.n, x.levels, x.cycle)

  -- ---- each ground goes over from the one to the other

  pub count_to : Count F → Count G
  count_to h = rw (x.n, x.levels, x.cycle) at h

  pub range_to : Range F → Range G
  range_to (a, l, h) = (a, omega (arith, x.n), rw (x.cycle, x.deadline a l, x.n, x.mask a l) at h)

  pub time-out_to : TimeOut F → TimeOut G
  time-out_to (a, l, (q, m, h)) = (a, omega (arith, x.n), (q, omega (arith, x.levels), rw (x.average a q l m, x.worst a q l m) at h))

  pub table_to : Table F → Table G
  table_to (a, l, h) = (
    a,
    omega (arith, x.n),
    subst (λ (L : ℕ). RowBreaks L (G.average a) (G.worst a)) x.levels (breaks_same (λ q m. x.average a q l m) (λ q m. x.worst a q l m) h),
  )

  -- the fit is of level 0, so there has to be one
  alike : 0 < F.levels → Alike F G
  unfolding due
  alike some = record {
    n = x.n;
    masks = λ a b l m. ap (λ (s : ℕ). has s b) (x.mask a l);
    deadlines = λ a l. rw (x.deadline a l, x.cycle);
    times = λ a l. x.worst a 0 l some;
  }

  module _ (some : 0 < F.levels) where
    pub looped_to : Looped F → Looped G
    looped_to = (looped-alike (alike some)).0

    pub unfit_to : Unfit F → Unfit G
    unfit_to u f = u ((fit_alike (alike some) 0).1 f)
