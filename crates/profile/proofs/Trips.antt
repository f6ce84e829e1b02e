-- `read` and `write` undo each other on what they accept, and each accepts what the other made: said of their contracts. Assumes nothing.
use mathlib.Core.Path.{◌≡◌, sym, ap, ◌∙◌}
use mathlib.Core.List.{List}
use mathlib.Core.Logic.{inl, inr}
use Prim.Native.Nat.{ℕ, ◌*◌, ◌≤◌, zero-le}
use native.Mathlib.Omega.{arith}
use lib.Dec.{lit<}
use lib.ListN.{length, take}
use Rattle.rules.specs.Numbers.{refused_room}
use Rattle.rules.specs.Words.{tab, rows}
use Rattle.rules.specs.Image.{Profile, ProfileTables, actions, levels, cycle, image_bytes, profile, of_tables, image}
use Rattle.rules.specs.Refusals.{Tight, Accepted, image_call}
use Rattle.rules.specs.declared.Fault.{Fault}
use Rattle.rules.proofs.Refusals.{first_one}
use Rattle.fields.specs.Fields.{splice}
use Rattle.fields.proofs.Bytes.{Bytes}
use Rattle.fields.proofs.Holds.{part-holds}
use Rattle.fields.proofs.Splice.{of-splice, length-splice}
use Rattle.fields.proofs.Tabs.{length-tab}
use Rattle.fields.proofs.Rows.{length-rows}
use Rattle.image_write.specs.Writing.{table_rooms, write_rooms, writing, Writes}
use Rattle.image_write.proofs.Accepting.{packable}
use Rattle.image_laws.proofs.Sizes.{length-image}
use Rattle.image_laws.proofs.RoundTrip.{ReadFrom, read-lent}
use Rattle.image_laws.proofs.Accepts.{written-accepted, accepted_formed, tables-accepted, accepted-again, written_back}
use Rattle.profile.specs.declared.Unpacked.{Unpacked}
use Rattle.profile.specs.Calls.{ReadsImage}
use Rattle.profile.proofs.Answers.{no_refusal, none-given, HasRoom, has_room}

-- ---- a reading without a refusal

-- what it answers and leaves
pub record Unpacks (s : List ℕ) (T T' : ProfileTables) (r : Unpacked) : Type 0 where
  pub accepted : Accepted s
  pub room : HasRoom (profile s).n (profile s).levels T
  pub n : r.n ≡ (profile s).n
  pub levels : r.levels ≡ (profile s).levels
  pub cycle : r.cycle ≡ (profile s).cycle
  pub masks : T'.masks ≡ splice T.masks 0 (tab (profile s).mask (profile s).n)
  pub deadlines : T'.deadlines ≡ splice T.deadlines 0 (tab (profile s).deadline (profile s).n)
  pub averages : T'.averages ≡ splice T.averages 0 (rows (profile s).average (profile s).n (profile s).levels)
  pub worst : T'.worst ≡ splice T.worst 0 (rows (profile s).worst (profile s).n (profile s).levels)

pub unpacks : {s : List ℕ} {T T' : ProfileTables} {r : Unpacked} → ReadsImage s T T' r → r.refusal.number ≡ 0
    → Unpacks s T T' r
unpacks {s} {T} x none =
    let own = none-given s refused_room (Tight (table_rooms (profile s).n (profile s).levels T)) (lit< tt) (rw none at x.given.number) in record {
      accepted = own.0;
      room = has_room (profile s).n (profile s).levels T own.1;
      n = rw none at x.n;
      levels = rw none at x.levels;
      cycle = rw none at x.cycle;
      masks = rw none at x.masks;
      deadlines = rw none at x.deadlines;
      averages = rw none at x.averages;
      worst = rw none at x.worst;
    }

-- ---- what reading accepts, writing packs back to the same bytes

pub written-again : {s before after : List ℕ} {T T' : ProfileTables} {r : Unpacked} {refusal : Fault} {bytes : ℕ} → Bytes s
    → ReadsImage s T T' r → r.refusal.number ≡ 0
    → length s ≤ length before → Writes r.n r.levels r.cycle T' before after refusal bytes
    → (refusal.number ≡ 0) × (bytes ≡ length s) × (after ≡ splice before 0 s)
unfolding profile
written-again {s} {before} {after} {T} {T'} {r} {refusal} {bytes} b x none long y =
    let u = unpacks x none in
    let f = accepted_formed s u.accepted in
    let lent = read-lent s T.masks T.deadlines T.averages T.worst in
    let from : ReadFrom s T' = record {
      masks_are = rw u.masks lent.masks_are;
      deadlines_are = rw u.deadlines lent.deadlines_are;
      averages_are = rw u.averages lent.averages_are;
      worst_are = rw u.worst lent.worst_are;
    } in
    let z : Writes (actions s) (levels s) (cycle s) T' before after refusal bytes = rw (u.n, u.levels, u.cycle) at y in
    let given = tables-accepted from b u.accepted (write_rooms (actions s) (levels s) T' (length before)) (enough u (omega (arith, f.whole))) in
    let zero = first_one (writing (actions s) (levels s) (cycle s) T' (length before)) refusal.number 0 z.given.number given in
    (zero, (rw zero at z.count) ∙ sym f.whole, (rw zero at z.written) ∙ ap (splice before 0) (accepted-again from b u.accepted))
  where
    -- the slices are as long as before
    column : (f : ℕ → ℕ) (l : List ℕ) {l' : List ℕ} (n : ℕ) → n ≤ length l → l' ≡ splice l 0 (tab f n) → n ≤ length l'
    column f l n h e = omega (arith, length-tab f n, length-splice l 0 (tab f n) (omega (arith, length-tab f n)), ap length e)

    table : (f : ℕ → ℕ → ℕ) (l : List ℕ) {l' : List ℕ} (n L : ℕ) → n * L ≤ length l → l' ≡ splice l 0 (rows f n L) → n * L ≤ length l'
    table f l n L h e = omega (arith, length-splice l 0 (rows f n L) (omega (arith, length-rows f L n)), ap length e)

    enough : Unpacks s T T' r → image_bytes (actions s) (levels s) ≤ length before
        → Tight (write_rooms (actions s) (levels s) T' (length before)) → ⊥
    enough u i (inl h) = omega (arith, column _ T.masks _ u.room.masks u.masks)
    enough u i (inr (inl h)) = omega (arith, column _ T.deadlines _ u.room.deadlines u.deadlines)
    enough u i (inr (inr (inl h))) = omega (arith, table _ T.averages _ _ u.room.averages u.averages)
    enough u i (inr (inr (inr (inl h)))) = omega (arith, table _ T.worst _ _ u.room.worst u.worst)
    enough u i (inr (inr (inr (inr (inl h))))) = omega arith
    enough u i (inr (inr (inr (inr (inr other))))) = elim other [ ]

-- ---- what writing accepts, reading unpacks to the same numbers

-- the reading into slices that hold m, d, a and w gives n, L, cycle and the tables, as far as they are of n actions at L levels
pub record ReadsBack (n L cycle : ℕ) (written T T' : ProfileTables) (r : Unpacked) : Type 0 where
  pub accepted : r.refusal.number ≡ 0
  pub actions_are : r.n ≡ n
  pub levels_are : r.levels ≡ L
  pub cycle_is : r.cycle ≡ cycle
  pub masks_are : T'.masks ≡ splice T.masks 0 (take n written.masks)
  pub deadlines_are : T'.deadlines ≡ splice T.deadlines 0 (take n written.deadlines)
  pub averages_are : T'.averages ≡ splice T.averages 0 (take (n * L) written.averages)
  pub worst_are : T'.worst ≡ splice T.worst 0 (take (n * L) written.worst)

module _ {n L cycle : ℕ} {written : ProfileTables} {before after : List ℕ} {refusal : Fault} {bytes : ℕ}
    (y : Writes n L cycle written before after refusal bytes) (none : refusal.number ≡ 0) where
  -- the bytes written are the image of the tables
  pub written-part : take bytes after ≡ image (of_tables n L cycle written)
  unfolding of_tables
  written-part =
      let s : List ℕ = image (of_tables n L cycle written) in
      let count : bytes ≡ length s = (rw none at y.count) ∙ sym (length-image (of_tables n L cycle written)) in
      rw (count, rw none at y.written) (part-holds (of-splice before 0 s zero-le))

  pub read_back : {T T' : ProfileTables} {r : Unpacked} → HasRoom n L T → ReadsImage (take bytes after) T T' r
      → ReadsBack n L cycle written T T' r
  unfolding profile
  read_back {T} {T'} {r} h x =
      let F : Profile = of_tables n L cycle written in
      let s : List ℕ = image F in
      let lent = write_rooms n L written (length before) in
      let p = rw none at y.given.number in
      let k = (packable n L cycle written (length before) p).tables in
      let g = written_back n L cycle written lent p k.masks_room k.deadlines_room k.averages_room k.worst_room in
      let z : ReadsImage s T T' r = rw written-part at x in
      let enough : Tight (table_rooms (actions s) (levels s) T) → ⊥ = rw (g.actions_are, g.levels_are) (not_tight h) in
      let given = no_refusal s refused_room (Tight (table_rooms (actions s) (levels s) T)) (written-accepted F lent p) enough in
      let zero = first_one (image_call s (table_rooms (actions s) (levels s) T)) r.refusal.number 0 z.given.number given in
      let u = unpacks z zero in record {
        accepted = zero;
        actions_are = u.n ∙ g.actions_are;
        levels_are = u.levels ∙ g.levels_are;
        cycle_is = u.cycle ∙ g.cycle_is;
        masks_are = (rw g.actions_are at u.masks) ∙ ap (splice T.masks 0) g.masks_are;
        deadlines_are = (rw g.actions_are at u.deadlines) ∙ ap (splice T.deadlines 0) g.deadlines_are;
        averages_are = (rw (g.actions_are, g.levels_are) at u.averages) ∙ ap (splice T.averages 0) g.averages_are;
        worst_are = (rw (g.actions_are, g.levels_are) at u.worst) ∙ ap (splice T.worst 0) g.worst_are;
      }
    where
      not_tight : HasRoom n L T → Tight (table_rooms n L T) → ⊥
      not_tight h (inl l) = omega arith
      not_tight h (inr (inl l)) = omega arith
      not_tight h (inr (inr (inl l))) = omega arith
      not_tight h (inr (inr (inr (inl l)))) = omega arith
      not_tight h (inr (inr (inr (inr other)))) = elim other [ ]
