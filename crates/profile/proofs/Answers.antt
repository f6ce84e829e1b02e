-- The calls on an image: its own refusals first, then the call's. What reading answers, part by part. Assumes nothing.
use mathlib.Core.Path.{◌≡◌, refl, ◌∙◌}
use mathlib.Core.Bool.{false}
use mathlib.Core.List.{List, [], ◌∷◌, ◌++◌}
use mathlib.Core.Logic.{◌↔◌, ◌⊎◌, inl, inr, ◌≢◌}
use Prim.Native.Nat.{ℕ, ◌*◌, ◌≤◌, ◌<◌}
use native.Mathlib.Omega.{arith}
use lib.Dec.{eqb}
use lib.ListN.{length}
use borrow.Author.Tests.{ne_eqb}
use Rattle.rules.specs.Numbers.{most_actions}
use Rattle.rules.specs.Words.{tab, rows}
use Rattle.rules.specs.Image.{ProfileTables, mask_of, deadline_of, average_of, worst_of, profile}
use Rattle.rules.specs.Refusals.{Ground, ◌when◌, First, Refuses, Tight, Accepted, image_checks, image_call}
use Rattle.rules.proofs.Differences.{not-above}
use Rattle.rules.proofs.Refusals.{image-numbered, first-goes_on, first_parts, handed_on, refuses_when, refuses-stops, refuses-goes_on}
use Rattle.fields.specs.Fields.{splice}
use Rattle.rules.specs.Reasons.{number_of, fault_of}
use Rattle.rules.specs.declared.blame.Blame.{Blame}
use Rattle.rules.specs.declared.Counts.{Counts}
use Rattle.rules.specs.declared.Fault.{Fault}
use Rattle.rules.proofs.Reasons.{some_number}
use Rattle.std.specs.Prelude.{Ok, Err}
use Rattle.image_check.specs.declared.Checked.{Checked}
use Rattle.image_check.specs.Checks.{Found}
use Rattle.image_write.specs.Writing.{table_rooms}
use Rattle.profile.specs.Calls.{ReadsImage, unpacked}

abbrev pub unrefused : Fault
unrefused = record { number = 0; action = most_actions }

-- ---- the image's refusals, and one of the call's own after them

module _ (s : List ℕ) (k : ℕ) (A : Type 0) where
  abbrev own : List Ground
  own = k when A ∷ []

  pub image-refusal : (f : Fault) → Refuses (image_checks s) f → f.number ≢ 0 → Refuses (image_checks s ++ own) f
  image-refusal f = refuses-stops (image_checks s) own f

  pub own-refusal : First (image_checks s) 0 → A → Refuses (image_checks s ++ own) (record { number = k; action = most_actions })
  own-refusal accepted h = refuses-goes_on (image_checks s) own _ (image-numbered s) accepted (refuses_when k h)

  pub no_refusal : First (image_checks s) 0 → (A → ⊥) → First (image_checks s ++ own) 0
  no_refusal accepted never = first-goes_on (image_checks s) own 0 (image-numbered s) accepted (inr (never, refl))

  -- the other way round
  pub none-given : 0 < k → First (image_checks s ++ own) 0 → Accepted s × (A → ⊥)
  none-given some p = go (first_parts (image_checks s) own 0 (image-numbered s) p)
    where
      go : (First (image_checks s) 0 × (◌≢◌ {A = ℕ} 0 0)) ⊎ (Accepted s × First own 0) → Accepted s × (A → ⊥)
      go (inl x) = absurd (x.1 refl)
      go (inr (accepted, inl x)) = absurd (omega (arith, x.1))
      go (inr (accepted, inr x)) = (accepted, x.0)

-- ---- by what the whole check answers

-- an accepted call names no action, as the check does
pub none-refused : (s : List ℕ) (k : ℕ) (A : Type 0) → Refuses (image_checks s) unrefused → (A → ⊥) → Refuses (image_checks s ++ (k when A ∷ [])) unrefused
none-refused s k A a never =
    let given = no_refusal s k A a.number never in
    record { number = given; action = handed_on (image_checks s) (k when A ∷ []) _ _ ((λ a z. z), tt) a.action given }

module _ {s : List ℕ} {r : Checked} where
  pub found-rooms : (T : ProfileTables) → Found s r
      → Tight (table_rooms r.n r.levels T) ↔ Tight (table_rooms (profile s).n (profile s).levels T)
  found-rooms T f = rw (f.n, f.levels) ((λ p. p), (λ p. p))

-- ---- reading

-- no slice is too short
pub record HasRoom (n L : ℕ) (T : ProfileTables) : Type 0 where
  pub masks : n ≤ length T.masks
  pub deadlines : n ≤ length T.deadlines
  pub averages : n * L ≤ length T.averages
  pub worst : n * L ≤ length T.worst

pub has_room : (n L : ℕ) (T : ProfileTables) → (Tight (table_rooms n L T) → ⊥) → HasRoom n L T
has_room n L T f = record {
  masks = not-above (λ l. f (inl l));
  deadlines = not-above (λ l. f (inr (inl l)));
  averages = not-above (λ l. f (inr (inr (inl l))));
  worst = not-above (λ l. f (inr (inr (inr (inl l)))));
}

module _ {s : List ℕ} {T : ProfileTables} where
  pub refused-reads : (b : Blame) → Refuses (image_call s (table_rooms (profile s).n (profile s).levels T)) (fault_of b)
      → ReadsImage s T T (unpacked (Err b))
  refused-reads b p =
      let some : eqb (number_of b.reason) 0 ≡ false = ne_eqb (number_of b.reason) 0 (some_number b.reason) in record {
        given = p;
        n = rw some;
        levels = rw some;
        cycle = rw some;
        masks = rw some;
        deadlines = rw some;
        averages = rw some;
        worst = rw some;
      }

  pub accepted-reads : {T' : ProfileTables} {c : Counts} → Refuses (image_call s (table_rooms (profile s).n (profile s).levels T)) unrefused
      → c.n ≡ (profile s).n → c.levels ≡ (profile s).levels → c.cycle ≡ (profile s).cycle
      → T'.masks ≡ splice T.masks 0 (tab (mask_of s) c.n) → T'.deadlines ≡ splice T.deadlines 0 (tab (deadline_of s) c.n)
      → T'.averages ≡ splice T.averages 0 (rows (average_of s) c.n c.levels)
      → T'.worst ≡ splice T.worst 0 (rows (worst_of s) c.n c.levels)
      → ReadsImage s T T' (unpacked (Ok c))
  unfolding profile
  accepted-reads p n levels cycle masks deadlines averages worst = record {
    given = p;
    n = n;
    levels = levels;
    cycle = cycle;
    masks = masks ∙ rw n;
    deadlines = deadlines ∙ rw n;
    averages = averages ∙ rw (n, levels);
    worst = worst ∙ rw (n, levels);
  }
