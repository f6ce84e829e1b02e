-- The summaries of the rest of a body and its worst times, worked from the last position back. Assumes nothing.
use Prim.Native.Nat.{ℕ, suc, ◌+◌, ◌-◌, ◌*◌, ◌≤◌, ◌<◌, max}
use mathlib.Core.Path.{◌≡◌, refl, sym, ap, subst, ◌∙◌}
use mathlib.Core.Bool.{Bool, true, false, cond}
use mathlib.Core.List.{List, []}
use mathlib.Core.Logic.{⊎_elim}
use native.Mathlib.Nat.{mul-le-mul_right, eq-or-lt_of_le}
use native.Mathlib.Omega.{arith}
use lib.Dec.{eqb}
use lib.ListN.{get_or, replicate, get_or-replicate}
use Rattle.rules.specs.Numbers.{policy_2005, summary_numbers}
use Rattle.rules.specs.Words.{cat, tab, rows}
use Rattle.rules.specs.Image.{worst_of, profile}
use Rattle.rules.specs.Order.{Order}
use Rattle.rules.specs.Limits.{Tables, tables}
use Rattle.rules.specs.Repeat.{Sums, stretch_by, joined_by, LentBody, numbers_of, rest_of, summaries_from}
use Rattle.rules.proofs.Accepted.{some_level, tables-sound}
use Rattle.rules.proofs.Speed.Reading.{times-small}
use Rattle.fields.specs.Fields.{splice}
use Rattle.fields.proofs.Bytes.{Bytes}
use Rattle.fields.proofs.Strides.{stride_more}
use Rattle.fields.proofs.Cats.{cat_from, cat_ext, length-cat, from-none, from_more, from_done}
use Rattle.fields.proofs.Tabs.{tab_ext, length-tab}
use Rattle.image_fields.specs.Reading.{HasRecord, HasRecords}
use Rattle.image_fields.proofs.Reading.{has-records, has_record}
use Rattle.repeat_laws.proofs.Joins.{same}
use Rattle.repeat_laws.proofs.Closed.{alone as place, stretch-front, stretch-last}
use Rattle.repeat_laws.proofs.Ranges.{average-within, worst-within, body-within}
use Rattle.repeat_tables.specs.Summing.{BodyInput, EntriesFit, carried, alone, with_rest, Half, SumsRow, RowsSummed, BodyFilled}

-- ---- what is carried

-- after the last position
abbrev nothing : Sums
nothing = record { average = 0; lowest = 0; mix = 0; worst = 0 }

-- x is what is carried where position i is the next to be passed: the rest of the body, if there is any
pub record Rest (policy : ℕ) (S : Tables) (n q i : ℕ) (x : Sums) : Type 0 where
  pub none : i ≡ n → x ≡ nothing
  pub some : i < n → x ≡ rest_of policy S i q

-- the summary of position i from the one after it
rest_more : (policy : ℕ) (S : Tables) (n q i : ℕ) {x : Sums} → n ≡ S.n → i < n → S.average i q ≤ S.worst i q → Rest policy S n q (suc i) x
    → joined_by policy (place S i q) x ≡ rest_of policy S i q
rest_more policy S n q i {x} e l ordered r =
    ⊎_elim
    (λ h. let last : S.n - 1 ≡ i = omega arith in
    ap (joined_by policy (place S i q)) (r.none h)
    ∙ same (omega arith) (omega arith) (either (eqb policy policy_2005)) (omega arith)
    ∙ sym (stretch-last policy S q i)
    ∙ sym (ap (stretch_by policy S q i) last))
    (λ h. ap (joined_by policy (place S i q)) (r.some h) ∙ sym (stretch-front policy S q i (S.n - 1) (omega arith)))
    (eq-or-lt_of_le l)
  where
    either : (b : Bool) → cond b (S.worst i q + 0) (max (S.worst i q + 0) (S.average i q + 0)) ≡ S.worst i q
    either true = omega arith
    either false = omega (arith, ordered)

-- The loop before it works the position in front of i: what is carried, and the rows from i on in both tables.
pub record Back (policy : ℕ) (S : Tables) (n L : ℕ) (lent : LentBody) (i : ℕ) (rest : ℕ → Sums) (now : LentBody) : Type 0 where
  pub carries : (q : ℕ) → q < L → Rest policy S n q i (rest q)
  pub summed : now.summaries ≡ splice lent.summaries (i * L * summary_numbers) (cat_from (summaries_from policy S L) i n)
  pub stored : now.worst ≡ splice lent.worst (i * L) (cat_from (λ k. tab (S.worst k) L) i n)

module _ {s : List ℕ} {n L : ℕ} {actions : List ℕ} {o : Order (profile s).n} (g : BodyInput s n L actions o) where
  pub records : HasRecords s L n
  records = has-records s g.n_is g.levels_are g.counts g.long

  module _ (i : ℕ) (l : i < n) where
    action : get_or actions i 0 ≡ o.at i
    action = g.lists i (omega (arith, g.n_is))

    pub present : HasRecord s L (get_or actions i 0)
    present = has_record (get_or actions i 0) records (omega (arith, action, g.n_is, o.at_lt i (omega (arith, g.n_is))))

    worsts : (q : ℕ) → worst_of s (get_or actions i 0) q ≡ (tables (profile s) o).worst i q
    unfolding profile
    worsts q = ap (λ (a : ℕ). worst_of s a q) action

    alone-is : (q : ℕ) → alone s (get_or actions i 0) q ≡ place (tables (profile s) o) i q
    unfolding profile
    alone-is q = ap (λ (a : ℕ). alone s a q) action

    -- its own numbers are small
    pub own_half : Bytes s → (q : ℕ) → q < L → Half (alone s (get_or actions i 0) q)
    own_half bytes q m =
        let F = profile s in
        let times = times-small s bytes in
        let place-lt : i < F.n = omega (arith, g.n_is) in
        let level-lt : q < F.levels = omega (arith, g.levels_are) in
        subst Half (sym (alone-is q)) (record {
          average = omega (arith, average-within F o times i q place-lt level-lt);
          lowest = omega (arith, worst-within F o times i 0 place-lt (omega arith));
          mix = omega (arith, worst-within F o times i q place-lt level-lt);
          worst = omega (arith, worst-within F o times i q place-lt level-lt);
        })

module _ {s : List ℕ} {n L : ℕ} {actions : List ℕ} {o : Order (profile s).n} (g : BodyInput s n L actions o) (policy : ℕ) where
  module _ (i : ℕ) (l : i < n) where
    -- what is worked there
    row_more : (rest : ℕ → Sums) (q : ℕ) → q < L → Rest policy (tables (profile s) o) n q (suc i) (rest q)
        → with_rest s policy (get_or actions i 0) rest q ≡ rest_of policy (tables (profile s) o) i q
    row_more rest q m r =
        let sound = tables-sound (profile s) o (some_level (profile s) o g.counts) g.table in
        ap (λ (x : Sums). joined_by policy x (rest q)) (alone-is g i l q)
        ∙ rest_more policy (tables (profile s) o) n q i g.n_is l (sound.ordered i q (omega (arith, g.n_is)) (omega (arith, g.levels_are))) r

  -- what is carried is small
  pub rest_half : Bytes s → (j q : ℕ) {x : Sums} → j ≤ n → q < L → Rest policy (tables (profile s) o) n q j x → Half x
  rest_half bytes j q h m r =
      ⊎_elim
      (λ e. subst Half (sym (r.none e)) (record { average = omega arith; lowest = omega arith; mix = omega arith; worst = omega arith }))
      (λ l. let w = body-within (profile s) o g.counts (times-small s bytes) q (omega (arith, g.levels_are)) policy j (omega (arith, g.n_is)) in
      subst Half (sym (r.some l))
      (record { average = omega (arith, w.average); lowest = omega (arith, w.lowest); mix = omega (arith, w.mix); worst = omega (arith, w.worst) }))
      (eq-or-lt_of_le h)

  -- ---- the loop: before it, a turn from position j down to i, and after it

  module _ (lent : LentBody) where
    pub back_none : Back policy (tables (profile s) o) n L lent n (carried (replicate 8 0) 0 (replicate 8 0) (replicate 8 0)) lent
    back_none = record {
      carries = λ q m. record { none = λ _. zeros q m; some = λ h. absurd (omega arith) };
      summed = from-none (summaries_from policy (tables (profile s) o) L) lent.summaries (n * L * summary_numbers) n;
      stored = from-none (λ k. tab ((tables (profile s) o).worst k) L) lent.worst (n * L) n;
    }
      where
        zeros : (q : ℕ) → q < L → carried (replicate 8 0) 0 (replicate 8 0) (replicate 8 0) q ≡ nothing
        zeros q m =
            let zero = get_or-replicate {A = ℕ} 8 q 0 0 (omega (arith, (records g).few_levels)) in
            same zero refl zero zero

    pub back_more : {rest now : ℕ → Sums} {before after : LentBody} (i j : ℕ) → j ≡ i + 1 → j ≤ n
        → EntriesFit (n * L) lent → Back policy (tables (profile s) o) n L lent j rest before
        → SumsRow s L policy (get_or actions i 0) rest now (i * L) before after → Back policy (tables (profile s) o) n L lent i now after
    back_more {rest} {now} {before} i j e h room was is =
        let S = tables (profile s) o in
        let ends = mul-le-mul_right L h in
        let starts : j * L ≡ i * L + L = ap (λ (k : ℕ). k * L) e ∙ stride_more i L in
        let next : j ≡ suc i = omega arith in
        let at : (q : ℕ) → q < L → Rest policy S n q (suc i) (rest q) = λ q m. subst (λ (k : ℕ). Rest policy S n q k (rest q)) next (was.carries q m) in
        record {
          carries = λ q m. record {
            none = λ f. absurd (omega arith);
            some = λ _. is.carried_is q m ∙ row_more i (omega arith) rest q m (at q m);
          };
          summed = from_more (summaries_from policy S L) (L * summary_numbers) (λ k. length-cat _ summary_numbers (λ q. refl) L) lent.summaries
              i j n (j * L * summary_numbers) (i * L * summary_numbers) e h (omega arith) (omega (arith, room.summaries_room)) was.summed
              (is.summaries_are
              ∙ ap (splice before.summaries (i * L * summary_numbers)) (cat_ext _ _ L (λ q m. ap numbers_of (row_more i (omega arith) rest q m (at q m)))));
          stored = from_more (λ k. tab (S.worst k) L) L (λ k. length-tab (S.worst k) L) lent.worst i j n (j * L) (i * L) e h starts
              (omega (arith, room.worst_room)) was.stored
              (is.worst_is ∙ ap (splice before.worst (i * L)) (tab_ext _ _ L (λ q m. worsts g i (omega arith) q)));
        }

    pub back_done : {rest : ℕ → Sums} {after : LentBody} (i : ℕ) → i ≡ 0 → Back policy (tables (profile s) o) n L lent i rest after
        → RowsSummed s n L policy lent after o
    back_done i e b =
        let S = tables (profile s) o in
        let start : i * L ≡ 0 = ap (λ (k : ℕ). k * L) e ∙ omega arith in
        record {
          summaries_are = from_done (summaries_from policy S L) lent.summaries 0 i n (i * L * summary_numbers) e (omega arith) b.summed;
          worst_is = from_done (λ k. tab (S.worst k) L) lent.worst 0 i n (i * L) e start b.stored;
        }

  -- ---- with the profile's own numbers

  as_said : {A : Type 0} (f : ℕ → ℕ → A) {x : A} → x ≡ f n L → x ≡ f (profile s).n (profile s).levels
  as_said f e = e ∙ ap (λ (m : ℕ). f m L) g.n_is ∙ ap (f (profile s).n) g.levels_are

  -- the order copied and the rows stored
  pub all_filled : (before after : LentBody) → after.order ≡ splice before.order 0 (tab (λ k. get_or actions k 0) n)
      → RowsSummed s n L policy (record { order = []; summaries = before.summaries; worst = before.worst })
      (record { order = []; summaries = after.summaries; worst = after.worst }) o
      → BodyFilled s policy before after o
  all_filled before after e filled = record {
    order_is = as_said (λ (m k : ℕ). splice before.order 0 (tab o.at m))
        (e ∙ ap (splice before.order 0) (tab_ext (λ k. get_or actions k 0) o.at n (λ k l. g.lists k (omega (arith, g.n_is)))));
    summaries_are = as_said (λ (m k : ℕ). splice before.summaries 0 (cat (summaries_from policy (tables (profile s) o) k) m)) filled.summaries_are;
    worst_is = as_said (λ (m k : ℕ). splice before.worst 0 (rows (tables (profile s) o).worst m k)) filled.worst_is;
  }
