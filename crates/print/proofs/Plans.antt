-- What the planner answered and wrote is what the plan program tells. Assumes nothing.
use Prim.Native.Nat.{ℕ, ◌+◌, ◌*◌, ◌≤◌, ◌<◌}
use mathlib.Core.Path.{◌≡◌, ap}
use mathlib.Core.List.{List, [], ◌∷◌, ◌++◌}
use mathlib.Core.Logic.{◌⊎◌, ◌≢◌, ⊎_elim, inl, inr}
use native.Mathlib.Nat.{mul-le-mul}
use native.Mathlib.Omega.{arith}
use lib.IntN.{ℤ, pos}
use lib.ListN.{length, get_or}
use Rattle.rules.specs.Numbers.{most_actions, most_levels, refused_room, refused_policy}
use Rattle.rules.specs.Words.{cat}
use Rattle.rules.specs.Image.{profile}
use Rattle.rules.specs.Limits.{LentTables, tables, limit_by, planner_tables}
use Rattle.rules.specs.Refusals.{Ground, Tight, ◌when◌, First, Refuses, UnknownPolicy, image_checks}
use Rattle.rules.proofs.Refusals.{Sound, accepted-sound, accepted_parts, first_stops, first-goes_on, handed_on, handed_back, image-numbered}
use Rattle.rules.proofs.Differences.{not-above}
use Rattle.fields.proofs.Cats.{cat_ext}
use Rattle.fields.proofs.Tabs.{tab_ext}
use Rattle.fields.proofs.Written.{tab-written, rows_written}
use Rattle.planner.specs.Planning.{plan_rooms, with_fronts, Plans}
use Rattle.planner.specs.declared.Planned.{Planned}
use Rattle.planner.proofs.Answers.{kept-old, kept_new}
use Rattle.text.specs.Digits.{decimal, signed, line}
use Rattle.text.specs.Put.{Puts}
use Rattle.text.proofs.Puts.{put_as}
use Rattle.print_lines.specs.Lines.{fault_text}
use Rattle.print.specs.Plan.{counts_line, position_line, plan_text, told_call, TellsPlan}

-- ---- an accepted image has at most 64 actions and 8 levels

pub record Few (n L : ℕ) : Type 0 where
  pub actions : n ≤ most_actions
  pub levels : L ≤ most_levels
  pub cells : n * L ≤ 512

pub few : {s : List ℕ} → Sound s → Few (profile s).n (profile s).levels
few {s} h =
    let n : (profile s).n ≤ 64 = not-above (λ l. h.not_count (inl (inr (inl l)))) in
    let L : (profile s).levels ≤ 8 = not-above (λ l. h.not_count (inl (inr (inr (inr l))))) in
    record { actions = n; levels = L; cells = mul-le-mul n L }

-- ---- the line of a position, by equal numbers

pub position_ext : (i : ℕ) {a b : ℕ} (f g : ℕ → ℤ) (L : ℕ) → a ≡ b → ((q : ℕ) → q < L → f q ≡ g q) → position_line i a f L ≡ position_line i b g L
unfolding position_line
position_ext i {b = b} f g L e h =
    rw e (ap (λ (ws : List (List ℕ)). line (decimal i ∷ decimal b ∷ ws)) (tab_ext _ _ L (λ q l. ap signed (h q l))))

-- as it is told of lent tables
abbrev pub told : List ℕ → List ℤ → ℕ → ℕ → List ℕ
told order limits L i = position_line i (get_or order i 0) (λ q. get_or limits (i * L + q) (pos 0)) L

-- ---- tables that have room for every profile

pub record Ample (lent : LentTables) : Type 0 where
  pub order_room : 64 ≤ length lent.order
  pub limits_room : 512 ≤ length lent.limits
  pub worst_room : 512 ≤ length lent.worst
  pub bounds_room : 8192 ≤ length lent.bounds

module _ {s : List ℕ} {policy : ℕ} {before after : LentTables} {r : Planned} (p : Plans s policy before after r) where
  abbrev unknown : Ground
  unknown = refused_policy when UnknownPolicy policy

  abbrev own : List Ground
  own = unknown ∷ refused_room when Tight (plan_rooms (profile s).n (profile s).levels before) ∷ []

  parts : (First (image_checks s) r.refusal.number × (r.refusal.number ≢ 0)) ⊎ (Sound s × First own r.refusal.number)
  parts = accepted_parts s own r.refusal.number p.number

  module _ (none : r.refusal.number ≡ 0) where
    n_is : r.n ≡ (profile s).n
    n_is = rw none at p.n

    levels_are : r.levels ≡ (profile s).levels
    levels_are = rw none at p.levels

    cycle_is : r.cycle ≡ (profile s).cycle
    cycle_is = rw none at p.cycle

    pub counts : Few r.n r.levels
    counts = rw (n_is, levels_are) (few (⊎_elim (λ x. absurd (x.1 none)) (λ x. x.0) parts))

    text-is : counts_line r.n r.levels r.cycle ++ cat (told after.order after.limits r.levels) r.n
        ≡ plan_text (profile s).n (profile s).levels (profile s).cycle p.o.at (limit_by policy (tables (profile s) p.o))
    text-is =
        let n : ℕ = (profile s).n in
        let L : ℕ = (profile s).levels in
        let written : after ≡ with_fronts before (planner_tables policy (profile s) p.o) = rw none at p.tables_are in
        rw (n_is, levels_are, cycle_is)
        (ap (λ (x : List ℕ). counts_line n L (profile s).cycle ++ x)
        (cat_ext _ _ n
        (λ i b. position_ext i _ _ L (tab-written p.o.at before.order n 0 (ap (λ (T : LentTables). T.order) written) i b)
        (λ q c. rows_written (limit_by policy (tables (profile s) p.o)) before.limits n L (pos 0) (ap (λ (T : LentTables). T.limits) written) i q b c))))

  module _ (room : Ample before) where
    enough : Sound s → Tight (plan_rooms (profile s).n (profile s).levels before) → ⊥
    enough h =
        let k = few h in
        ⊎_elim (λ t. omega (arith, k.actions, room.order_room))
        (⊎_elim (λ t. omega (arith, k.cells, room.limits_room))
        (⊎_elim (λ t. omega (arith, k.cells, room.worst_room))
        (⊎_elim (λ t. omega (arith, k.cells, room.bounds_room)) (λ t. t))))

    -- after the image's refusals 20 alone is left
    left : Sound s → First own r.refusal.number → First (unknown ∷ []) r.refusal.number
    left h = ⊎_elim (λ t. inl t) (λ t. inr (t.0, ⊎_elim (λ u. absurd (enough h u.0)) (λ u. u.1) t.1))

    number_is : First (told_call s policy) r.refusal.number
    number_is =
        ⊎_elim (λ x. first_stops (image_checks s) (unknown ∷ []) r.refusal.number x.0 x.1)
        (λ x. first-goes_on (image_checks s) (unknown ∷ []) r.refusal.number (image-numbered s) ((accepted-sound s).1 x.0) (left x.0 x.1))
        parts

    -- its action is the image's
    given : Refuses (told_call s policy) r.refusal
    given =
        let image = handed_back (image_checks s) own r.refusal.action ((λ a z. z), ((λ a z. z), tt)) p.action in
        record { number = number_is; action = handed_on (image_checks s) (unknown ∷ []) _ r.refusal.action ((λ a z. z), tt) image number_is }

    module _ {out out' : List ℕ} {k : ℕ} where
      pub plan-refused : r.refusal.number ≢ 0 → Puts out 0 (fault_text r.refusal) out' k → TellsPlan s policy out out' k
      plan-refused some put = record {
        refusal = r.refusal;
        given = given;
        o = p.o;
        the_order = p.the_order;
        text = put_as (kept-old _ _ _ some) put;
      }

      pub plan-told : r.refusal.number ≡ 0
          → Puts out 0 (counts_line r.n r.levels r.cycle ++ cat (told after.order after.limits r.levels) r.n) out' k → TellsPlan s policy out out' k
      plan-told none put = record {
        refusal = r.refusal;
        given = given;
        o = p.o;
        the_order = p.the_order;
        text = put_as (kept_new _ _ _ none (text-is none)) put;
      }
