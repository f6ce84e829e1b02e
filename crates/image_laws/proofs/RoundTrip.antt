-- Reading and writing undo each other, table by table.
use Prim.Native.Nat.{ℕ, ◌+◌, ◌*◌, ◌≤◌, ◌<◌, zero-le}
use mathlib.Core.Path.{◌≡◌, refl, sym, ◌∙◌}
use mathlib.Core.List.{List}
use native.Mathlib.Omega.{arith}
use lib.ListN.{length, get_or, take}
use lib.Seq.{length-take-le, get_or-take}
use Rattle.rules.specs.Words.{tab, rows}
use Rattle.rules.specs.Image.{ProfileTables, actions, levels, cycle, mask_of, deadline_of, average_of, worst_of, profile, of_tables, image}
use Rattle.fields.specs.Fields.{splice}
use Rattle.fields.proofs.Bytes.{Bytes}
use Rattle.fields.proofs.Strides.{cell-fits}
use Rattle.fields.proofs.Holds.{Holds, getD-holds}
use Rattle.fields.proofs.Splice.{of-splice}
use Rattle.fields.proofs.Tabs.{length-tab, getD-tab, tab-is}
use Rattle.fields.proofs.Rows.{rows_ext, length-rows, get_d_rows, rows-part}
use Rattle.image_laws.proofs.Same.{Same, image-same}
use Rattle.image_laws.proofs.Written.{InRange, written_read}
use Rattle.image_laws.proofs.Again.{Formed, read-written}

-- ---- tables read of an image

-- the lists begin with the tables of s
pub record ReadFrom (s : List ℕ) (T : ProfileTables) : Type 0 where
  pub masks_are : Holds T.masks 0 (tab (mask_of s) (actions s))
  pub deadlines_are : Holds T.deadlines 0 (tab (deadline_of s) (actions s))
  pub averages_are : Holds T.averages 0 (rows (average_of s) (actions s) (levels s))
  pub worst_are : Holds T.worst 0 (rows (worst_of s) (actions s) (levels s))

module _ (s : List ℕ) where
  -- what reading leaves in lent slices
  pub read-lent : (m d a w : List ℕ)
      → ReadFrom s (record {
        masks = splice m 0 (tab (mask_of s) (actions s));
        deadlines = splice d 0 (tab (deadline_of s) (actions s));
        averages = splice a 0 (rows (average_of s) (actions s) (levels s));
        worst = splice w 0 (rows (worst_of s) (actions s) (levels s));
      })
  read-lent m d a w = record {
    masks_are = of-splice m 0 _ zero-le;
    deadlines_are = of-splice d 0 _ zero-le;
    averages_are = of-splice a 0 _ zero-le;
    worst_are = of-splice w 0 _ zero-le;
  }

module _ {s : List ℕ} {T : ProfileTables} (x : ReadFrom s T) where
  pub tables-same : Same (of_tables (actions s) (levels s) (cycle s) T) (profile s)
  unfolding of_tables profile
  tables-same = record {
    n = refl;
    levels = refl;
    cycle = refl;
    mask = column (mask_of s) x.masks_are;
    deadline = column (deadline_of s) x.deadlines_are;
    average = table (average_of s) x.averages_are;
    worst = table (worst_of s) x.worst_are;
  }
    where
      column : {xs : List ℕ} (f : ℕ → ℕ) → Holds xs 0 (tab f (actions s)) → (a : ℕ) → a < actions s → get_or xs a 0 ≡ f a
      column f h a l = getD-holds h a a 0 (omega arith) (omega (arith, length-tab f (actions s))) ∙ getD-tab f (actions s) a 0 l

      table : {xs : List ℕ} (f : ℕ → ℕ → ℕ) → Holds xs 0 (rows f (actions s) (levels s))
          → (a q : ℕ) → a < actions s → q < levels s → get_or xs (a * levels s + q) 0 ≡ f a q
      table f h a q l m =
          let i : ℕ = a * levels s + q in
          let n : length (rows f (actions s) (levels s)) ≡ actions s * levels s = length-rows f (levels s) (actions s) in
          getD-holds h i i 0 (omega arith) (omega (arith, cell-fits a (actions s) q (levels s) l m)) ∙ get_d_rows f (levels s) (actions s) a q 0 l m

  -- Writing them gives the image again.
  pub tables-again : Bytes s → Formed s → image (of_tables (actions s) (levels s) (cycle s) T) ≡ s
  tables-again b f = image-same tables-same ∙ read-written b f

-- ---- tables of an image that was written

-- reading s gives these counts, this cycle and these tables
pub record Gives (s : List ℕ) (n L c : ℕ) (T : ProfileTables) : Type 0 where
  pub actions_are : actions s ≡ n
  pub levels_are : levels s ≡ L
  pub cycle_is : cycle s ≡ c
  pub masks_are : tab (mask_of s) n ≡ T.masks
  pub deadlines_are : tab (deadline_of s) n ≡ T.deadlines
  pub averages_are : rows (average_of s) n L ≡ T.averages
  pub worst_are : rows (worst_of s) n L ≡ T.worst

-- Reading the image of tables gives them again, as far as it is of them.
module _ (n L c : ℕ) (T : ProfileTables) (r : InRange (of_tables n L c T)) where
  pub tables_back : n ≤ length T.masks → n ≤ length T.deadlines → n * L ≤ length T.averages → n * L ≤ length T.worst
      → Gives (image (of_tables n L c T)) n L c (record {
        masks = take n T.masks;
        deadlines = take n T.deadlines;
        averages = take (n * L) T.averages;
        worst = take (n * L) T.worst;
      })
  unfolding of_tables profile
  tables_back hm hd ha hw =
      let s : List ℕ = image (of_tables n L c T) in
      let x = written_read r in record {
        actions_are = sym x.n;
        levels_are = sym x.levels;
        cycle_is = sym x.cycle;
        masks_are = column T.masks (mask_of s) hm x.mask;
        deadlines_are = column T.deadlines (deadline_of s) hd x.deadline;
        averages_are = table T.averages (average_of s) ha x.average;
        worst_are = table T.worst (worst_of s) hw x.worst;
      }
    where
      column : (xs : List ℕ) (f : ℕ → ℕ) → n ≤ length xs → ((a : ℕ) → a < n → get_or xs a 0 ≡ f a) → tab f n ≡ take n xs
      column xs f h e = sym (tab-is f (take n xs) 0 n (length-take-le n xs h) (λ a l. get_or-take n xs a 0 l ∙ e a l))

      table : (xs : List ℕ) (f : ℕ → ℕ → ℕ) → n * L ≤ length xs → ((a q : ℕ) → a < n → q < L → get_or xs (a * L + q) 0 ≡ f a q)
          → rows f n L ≡ take (n * L) xs
      table xs f h e = rows_ext f _ n L (λ a q l m. sym (e a q l m)) ∙ rows-part xs 0 n L 0 (λ a. a * L) (λ a. omega arith) (omega arith)
