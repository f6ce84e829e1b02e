-- Assumes nothing.
use Prim.Native.Nat.{ℕ}
use mathlib.Core.Path.{◌≡◌, refl}
use mathlib.Core.List.{List}
use native.Mathlib.Omega.{arith}
use borrow.Author.Rules.{rules}
use borrow.Author.Tests.{ne_eqb}
use Rattle.rules.specs.Image.{profile}
use Rattle.rules.specs.Reasons.{number_of}
use Rattle.rules.specs.Refusals.{First}
use Rattle.std.proofs.lemmas.Result.{err_from_is_err_and}
use Rattle.rules.proofs.Reasons.{some_number}
use Rattle.fields.proofs.Bytes.{Bytes}
use Rattle.image_fields.proofs.Reading.{has-accepted}
use Rattle.trace.proofs.Tallies.{none_tallied}
use Rattle.refresh.specs.Refresh.{own_grounds, Ceiled, Weighed}
use Rattle.refresh.proofs.Grounds.{enough, after-image}
use Rattle.refresh.proofs.Records.{copies, new-written}
use Rattle.refresh.proofs.Ceilings.{none_ceiled, ceilings}
use Rattle.refresh.proofs.refresh_accepted.Goals as goal

pub take_ceilings-requires : goal.take_ceilings-requires
take_ceilings-requires c =
    (has-accepted c.args.image.now c.requires.0 c.requires.1 c.requires.2, none_ceiled c.args.image.now c.args.levels)

pub own_refusal-requires : goal.own_refusal-requires
own_refusal-requires c = none_tallied c.args.trace.now

-- the call's own grounds, by what the ceilings say
own : (s : List ℕ) (n L : ℕ) {trace table tallies : List ℕ} {needed room k : ℕ} → n ≡ (profile s).n → L ≡ (profile s).levels → Ceiled s n L table
    → Weighed trace table needed room tallies k → First (own_grounds (profile s) trace needed room) k
own s n L e f table weighed = weighed.number (profile s) (ceilings s n L e f table)

pub returns-in_err-own_refusal : goal.returns-in_err-own_refusal
returns-in_err-own_refusal c =
    let x = c.args in
    let reason = c.in_err-own_refusal.field-0.0 in
    let some = ne_eqb (number_of reason) 0 (some_number reason) in
    let p = err_from_is_err_and c.from_residual.result c.from_residual.ensures.1 in
    rw (p.1, p.2.0, p.2.1)
    record {
      given = after-image x.image.now x.trace.now x.out.now _ c.requires.0 (own _ _ _ c.requires.1 c.requires.2 c.take_ceilings.ensures c.in_err-own_refusal.ensures);
      written = rw some;
      count = rw some;
    }

pub copy_image-requires : goal.copy_image-requires
copy_image-requires c =
    let x = c.args in
    let given = own _ _ _ c.requires.1 c.requires.2 c.take_ceilings.ensures c.in_ok-own_refusal.ensures in
    omega (arith, enough (profile x.image.now) x.trace.now _ _ given)

pub renew-requires : goal.renew-requires
renew-requires c =
    let x = c.args in
    let given = own _ _ _ c.requires.1 c.requires.2 c.take_ceilings.ensures c.in_ok-own_refusal.ensures in
    (has-accepted x.image.now c.requires.0 c.requires.1 c.requires.2, omega (arith, enough (profile x.image.now) x.trace.now _ _ given))

pub returns : goal.returns
returns c =
    let x = c.args in
    let s = x.image.now in
    let bytes : Bytes s = λ k. (c.type_inv.image k).fits in
    let copied = c.copy_image.ensures in
    record {
      given = after-image s x.trace.now x.out.now _ c.requires.0 (own _ _ _ c.requires.1 c.requires.2 c.take_ceilings.ensures c.in_ok-own_refusal.ensures);
      written = new-written s bytes c.requires.0 _ copied x.trace.now x.n c.requires.1
          (c.renew.ensures x.trace.now (c.in_ok-own_refusal.ensures.weighs refl)
          (copies s bytes c.requires.0 _ copied x.n c.requires.1));
      count = refl;
    }
