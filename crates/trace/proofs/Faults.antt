-- What a record is refused for, and what that says of the trace. Assumes nothing.
use Prim.Native.Nat.{ℕ, ◌+◌, ◌≤◌, ◌<◌}
use mathlib.Core.Path.{◌≡◌, refl}
use mathlib.Core.List.{List}
use mathlib.Core.Logic.{◌≢◌, inl, inr, ⊎_elim}
use native.Mathlib.Omega.{arith}
use native.Mathlib.Decide.{dec_le}
use borrow.Author.Count.{below_more}
use lib.ListN.{get_or}
use Rattle.rules.specs.Numbers.{refused_name, refused_duration}
use Rattle.rules.specs.Image.{Profile}
use Rattle.rules.specs.Refusals.{First}
use Rattle.rules.specs.Refresh.{records, action_of, level_of, Name, Fault, FirstFault}
use Rattle.rules.proofs.Refresh.{NoFault, named-not_longer}
use Rattle.trace.specs.Trace.{IsRecord, Ceilings, faults_at, faults}
use Rattle.trace.specs.declared.Entry.{Entry}
use Rattle.trace.proofs.Entries.{action-lt, level-lt}

-- ---- one record

module _ {e : Entry} {table : List ℕ} (F : Profile) (trace : List ℕ) (r : ℕ) (has : Ceilings F table) (is : IsRecord trace r e) where
  here : ℕ
  here = get_or table e.cell 0

  absent : Name F trace r → here ≡ 0
  unfolding here
  absent name = rw is.in_cell (has.absent (action_of trace r) (level_of trace r) (action-lt trace r) (level-lt trace r) name)

  present : (Name F trace r → ⊥) → here ≡ F.worst (action_of trace r) (level_of trace r) + 1
  unfolding here
  present named = rw is.in_cell (has.present (action_of trace r) (level_of trace r) (not-above (λ h. named (inl h))) (not-above (λ h. named (inr h))))
    where
      not-above : {x y : ℕ} → (y ≤ x → ⊥) → x < y
      not-above h = omega arith

  name : here ≡ 0 → Name F trace r
  name none = go (dec_le F.n (action_of trace r)) (dec_le F.levels (level_of trace r))
    where
      go : Dec (F.n ≤ action_of trace r) → Dec (F.levels ≤ level_of trace r) → Name F trace r
      go (yes h) d = inl h
      go (no h) (yes k) = inr k
      go (no h) (no k) = absurd (omega (arith, present (⊎_elim h k)))

  named : (here ≡ 0 → ⊥) → Name F trace r → ⊥
  named some h = some (absent h)

  module _ {ceiling : ℕ} (read : ceiling ≡ get_or table e.cell 0) where
    pub no_fault : e.duration < ceiling → First (faults_at F trace r) 0
    unfolding here
    no_fault short =
        let there = named (λ none. omega arith) in
        inr (there, inr ((λ d. omega (arith, is.duration, present there)), refl))

    pub no_name : ceiling ≡ 0 → First (faults_at F trace r) refused_name
    unfolding here
    no_name none = inl (name (omega arith), refl)

    pub too_long : (ceiling ≡ 0 → ⊥) → ceiling ≤ e.duration → First (faults_at F trace r) refused_duration
    unfolding here
    too_long some long =
        let there = named (λ none. some (omega arith)) in
        inr (there, inl (omega (arith, is.duration, present there), refl))

-- ---- record by record

module _ (F : Profile) (trace : List ℕ) (r : ℕ) (before : (e : ℕ) → e < r → Fault F trace e → ⊥) where
  -- The first record at fault settles the number.
  pub stops : r < records trace → (k : ℕ) → k ≢ 0 → First (faults_at F trace r) k → First (faults F trace) k
  stops l k some (inl (name, is)) = inl ((r, (l, (inl name, before)), name), is)
  stops l k some (inr (named, inl (long, is))) =
      let first : FirstFault F trace r = (l, (inr long, before)) in
      inr ((λ h. named-not_longer F trace h (r, first, named, long)), inl ((r, first), is))
  stops l k some (inr (named, inr (short, is))) = absurd (some is)

  -- A record that is not at fault is passed.
  pub goes_on : (k : ℕ) → k ≡ 0 → First (faults_at F trace r) k → (e : ℕ) → e < r + 1 → Fault F trace e → ⊥
  goes_on k none (inl (name, is)) = let no_such : ⊥ = omega arith in absurd no_such
  goes_on k none (inr (named, inl (long, is))) = let no_such : ⊥ = omega arith in absurd no_such
  goes_on k none (inr (named, inr (short, is))) = below_more (λ e. Fault F trace e → ⊥) r before (⊎_elim named short)

pub passed : (F : Profile) (trace : List ℕ) → NoFault F trace → First (faults F trace) 0
passed F trace none = inr ((λ h. none h.0 h.1.0 h.1.1.0), inr ((λ h. none h.0 h.1.0 h.1.1.0), refl))
