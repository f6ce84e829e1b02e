-- The contract of each call settles its answer and what it leaves in the lent slices. Assumes nothing.
use mathlib.Core.Path.{◌≡◌, sym, ap, ◌∙◌}
use mathlib.Core.List.{List, []}
use Prim.Native.Nat.{ℕ}
use denote.Ref.{Bor}
use Rattle.rules.specs.Image.{ProfileTables, profile}
use Rattle.rules.specs.Refusals.{First, kept, image_call, lookup_call}
use Rattle.rules.proofs.Refusals.{first_one, refuses-one}
use Rattle.rules.specs.declared.Fault.{Fault}
use Rattle.image_write.specs.Writing.{table_rooms, Writes}
use Rattle.image_write.proofs.Settled.{writes_one}
use Rattle.profile.specs.declared.Unpacked.{Unpacked}
use Rattle.image_write.specs.declared.Written.{Written}
use Rattle.profile.specs.declared.Place.{Place}
use Rattle.profile.specs.Calls.{ReadsImage, Places, record_of, LooksUp}

-- `check` and `lookup_refusal` answer a refusal alone, which their rows settle: `refuses-one`.

-- `read`
module _ {s : List ℕ} {T : ProfileTables} where
  pub reads-one : {T' T'' : ProfileTables} {r t : Unpacked} → ReadsImage s T T' r → ReadsImage s T T'' t
      → (r ≡ t) × (T'.masks ≡ T''.masks) × (T'.deadlines ≡ T''.deadlines) × (T'.averages ≡ T''.averages) × (T'.worst ≡ T''.worst)
  reads-one {r = r} {t = t} x y =
      let e = refuses-one (image_call s (table_rooms (profile s).n (profile s).levels T)) r.refusal t.refusal x.given y.given in (
        answer e ((rw e at x.n) ∙ sym y.n) ((rw e at x.levels) ∙ sym y.levels) ((rw e at x.cycle) ∙ sym y.cycle),
        (rw e at x.masks) ∙ sym y.masks,
        (rw e at x.deadlines) ∙ sym y.deadlines,
        (rw e at x.averages) ∙ sym y.averages,
        (rw e at x.worst) ∙ sym y.worst,
      )
    where
      made : Fault → ℕ → ℕ → ℕ → Unpacked
      made f n L c = record { refusal = f; n = n; levels = L; cycle = c }

      answer : r.refusal ≡ t.refusal → r.n ≡ t.n → r.levels ≡ t.levels → r.cycle ≡ t.cycle → r ≡ t
      answer f n L c =
          ap (λ (v : Fault). made v r.n r.levels r.cycle) f
          ∙ ap (λ (v : ℕ). made t.refusal v r.levels r.cycle) n
          ∙ ap (λ (v : ℕ). made t.refusal t.n v r.cycle) L
          ∙ ap (made t.refusal t.n t.levels) c

-- `lookup`: the bytes, and where they lie
pub lookup_one : {image x y : Bor (List ℕ)} {a : ℕ} → LooksUp image a x → LooksUp image a y → (x.now ≡ y.now) × (x.ref_ptr ≡ y.ref_ptr)
lookup_one {image} {a = a} x y =
    let e = first_one (lookup_call image.now a) x.refusal y.refusal x.given y.given in
    ((rw e at x.is) ∙ sym y.is, (rw e at x.lies) ∙ sym y.lies)

-- the part that goes with the number of the second call
pub looked_up : {image x : Bor (List ℕ)} {a k : ℕ} → First (lookup_call image.now a) k → LooksUp image a x
    → x.now ≡ kept k (record_of image.now a) []
looked_up {image} {a = a} {k = k} p x = rw (first_one (lookup_call image.now a) x.refusal k x.given p) at x.is

-- `lookup_place`
module _ {s : List ℕ} {a : ℕ} where
  pub place-one : {r t : Place} → Places s a r → Places s a t → r ≡ t
  place-one {r} {t} x y =
      let e = refuses-one (lookup_call s a) r.refusal t.refusal x.given y.given in
      answer e ((rw e at x.start) ∙ sym y.start) ((rw e at x.length) ∙ sym y.length)
    where
      made : Fault → ℕ → ℕ → Place
      made f start length = record { refusal = f; start = start; length = length }

      answer : r.refusal ≡ t.refusal → r.start ≡ t.start → r.length ≡ t.length → r ≡ t
      answer f start length =
          ap (λ (v : Fault). made v r.start r.length) f
          ∙ ap (λ (v : ℕ). made t.refusal v r.length) start
          ∙ ap (made t.refusal t.start) length

-- `write`
module _ {n L cycle : ℕ} {T : ProfileTables} {before : List ℕ} where
  pub written_one : {after after' : List ℕ} {r t : Written} → Writes n L cycle T before after r.refusal r.bytes
      → Writes n L cycle T before after' t.refusal t.bytes → (r ≡ t) × (after ≡ after')
  written_one {r = r} {t = t} x y =
      let (refusal, bytes, left) = writes_one x y in
      (ap (λ (f : Fault). made f r.bytes) refusal ∙ ap (made t.refusal) bytes, left)
    where
      made : Fault → ℕ → Written
      made f bytes = record { refusal = f; bytes = bytes }
