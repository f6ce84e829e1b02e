-- What writing answers and leaves is settled by what it is given. Assumes nothing.
use Prim.Native.Nat.{ℕ}
use mathlib.Core.Path.{◌≡◌, sym, ◌∙◌}
use mathlib.Core.Bool.{false}
use mathlib.Core.List.{List}
use lib.Dec.{eqb}
use borrow.Author.Tests.{ne_eqb}
use lib.ListN.{length}
use Rattle.rules.specs.Image.{ProfileTables}
use Rattle.rules.specs.Reasons.{number_of, fault_of}
use Rattle.rules.specs.Refusals.{Refuses}
use Rattle.rules.specs.declared.blame.Blame.{Blame}
use Rattle.rules.specs.declared.Fault.{Fault}
use Rattle.rules.proofs.Reasons.{some_number}
use Rattle.rules.proofs.Refusals.{refuses-one}
use Rattle.image_write.specs.Writing.{writing, Writes}

module _ {n L cycle : ℕ} {T : ProfileTables} {before : List ℕ} where
  pub writes_one : {after after' : List ℕ} {refusal refusal' : Fault} {bytes bytes' : ℕ}
      → Writes n L cycle T before after refusal bytes
      → Writes n L cycle T before after' refusal' bytes'
      → (refusal ≡ refusal') × (bytes ≡ bytes') × (after ≡ after')
  writes_one {refusal = r} {refusal' = r'} x y =
      let e = refuses-one (writing n L cycle T (length before)) r r' x.given y.given in
      (e, (rw e at x.count) ∙ sym y.count, (rw e at x.written) ∙ sym y.written)

  -- a refusal leaves the image as it is
  pub refused-writes : (b : Blame) → Refuses (writing n L cycle T (length before)) (fault_of b) → Writes n L cycle T before before (fault_of b) 0
  refused-writes b given =
      let some : eqb (number_of b.reason) 0 ≡ false = ne_eqb (number_of b.reason) 0 (some_number b.reason) in
      record { given = given; written = rw some; count = rw some }
