-- What writing accepts, the image check accepts once it is written; what the image check accepts, writing accepts once it is read.
use Prim.Native.Nat.{ℕ, ◌*◌, ◌≤◌, ◌<◌}
use mathlib.Core.Path.{◌≡◌, ap, ◌∙◌}
use mathlib.Core.List.{List}
use mathlib.Core.Logic.Dec
use mathlib.Core.Logic.{◌↔◌, inl, inr, ◌≢◌, ⊎_elim}
use native.Mathlib.Omega.{arith}
use native.Mathlib.Decide.{ℕ_discrete}
use lib.Dec.{lit<}
use lib.ListN.{length, take}
use Rattle.rules.specs.Image.{Profile, ProfileTables, actions, levels, cycle, image_bytes, profile, of_tables, image}
use Rattle.rules.specs.Refusals.{First, Count, Range, Table, Looped, Unfit, Accepted, Tight, write_call}
use Rattle.rules.proofs.Refusals.{None, first-none, accepted-sound}
use Rattle.rules.proofs.Faults.{TimeOut, write_range}
use Rattle.rules.proofs.Speed.Reading.{times-small}
use Rattle.fields.proofs.Bytes.{Bytes}
use Rattle.image_laws.proofs.Sizes.{length-image}
use Rattle.image_laws.proofs.Same.{Same, same_back, count_to, range_to, time-out_to, table_to, looped_to, unfit_to}
use Rattle.image_laws.proofs.Written.{InRange, in_range, version_back, header_spare_back, spare_back, written_read}
use Rattle.image_laws.proofs.Again.{Formed}
use Rattle.image_laws.proofs.RoundTrip.{ReadFrom, tables-same, tables-again, Gives, tables_back}

-- No ground of refusal holds of the profile on writing.
pub record Writable (F : Profile) : Type 0 where
  pub not_count : Count F → ⊥
  pub not_range : Range F → ⊥
  pub not_time_out : TimeOut F → ⊥
  pub not_table : Table F → ⊥
  pub not_looped : Looped F → ⊥
  pub not_unfit : Unfit F → ⊥

-- Writing accepts a profile exactly if none does and there is room.
pub write_sound : (F : Profile) (rooms : List (ℕ × ℕ)) → First (write_call F rooms) 0 ↔ ((Tight rooms → ⊥) × Writable F)
write_sound F rooms = ((λ p. sound (none.0 p)), (λ p. none.1 (all p.0 p.1)))
  where
    none : First (write_call F rooms) 0 ↔ None (write_call F rooms)
    none = first-none (write_call F rooms) (lit< tt, (lit< tt, (lit< tt, (lit< tt, (lit< tt, (lit< tt, tt))))))

    sound : None (write_call F rooms) → (Tight rooms → ⊥) × Writable F
    sound (count, (room, (range, (table, (looped, (unfit, _)))))) = (
      room,
      record {
        not_count = count;
        not_range = λ h. range ((write_range F).1 (inl h));
        not_time_out = λ h. range ((write_range F).1 (inr h));
        not_table = table;
        not_looped = looped;
        not_unfit = unfit;
      },
    )

    all : (Tight rooms → ⊥) → Writable F → None (write_call F rooms)
    all room w =
        (w.not_count, (room, ((λ h. ⊎_elim w.not_range w.not_time_out ((write_range F).0 h)), (w.not_table, (w.not_looped, (w.not_unfit, tt))))))

-- Of two profiles that say the same it accepts both or none.
same_writable : {F G : Profile} → Same F G → Writable F → Writable G
same_writable {F} {G} x w =
    let y = same_back x in
    let none : G.levels < 1 → ⊥ = λ l. w.not_count (count_to y (inl (inr (inr (inl l))))) in
    let some : 0 < G.levels = omega arith in record {
      not_count = λ h. w.not_count (count_to y h);
      not_range = λ h. w.not_range (range_to y h);
      not_time_out = λ h. w.not_time_out (time-out_to y h);
      not_table = λ h. w.not_table (table_to y h);
      not_looped = λ h. w.not_looped (looped_to y some h);
      not_unfit = λ h. w.not_unfit (unfit_to y some h);
    }

writable_range : {F : Profile} → Writable F → InRange F
writable_range w = in_range w.not_count w.not_range w.not_time_out

-- ---- from writing to reading

pub written_formed : {F : Profile} → InRange F → Formed (image F)
unfolding profile
written_formed {F} r =
    let x = written_read r in record {
      version_one = version_back r;
      whole = length-image F ∙ ap (λ (n : ℕ). image_bytes n F.levels) x.n ∙ ap (image_bytes (actions (image F))) x.levels;
      header_spare_none = header_spare_back r;
      spare_none = λ a l. spare_back r a (omega (arith, x.n));
    }

formed_accepted : (s : List ℕ) → Formed s → Writable (profile s) → Accepted s
unfolding profile image_bytes
formed_accepted s f w = (accepted-sound s).1 (record {
  not_short = λ h. omega (arith, f.whole);
  not_version = λ h. h f.version_one;
  not_count = w.not_count;
  not_length = λ h. h f.whole;
  not_spare = ⊎_elim (λ h. h f.header_spare_none) (λ h. h.2 (f.spare_none h.0 h.1));
  not_range = w.not_range;
  not_table = w.not_table;
  not_looped = w.not_looped;
  not_unfit = w.not_unfit;
})

pub written-accepted : (F : Profile) (rooms : List (ℕ × ℕ)) → First (write_call F rooms) 0 → Accepted (image F)
written-accepted F rooms p =
    let w = ((write_sound F rooms).0 p).1 in
    let r = writable_range w in
    formed_accepted (image F) (written_formed r) (same_writable (written_read r) w)

-- ---- from reading to writing

pub accepted_formed : (s : List ℕ) → Accepted s → Formed s
unfolding profile
accepted_formed s a =
    let h = (accepted-sound s).0 a in record {
      version_one = is h.not_version;
      whole = is h.not_length;
      header_spare_none = is (λ n. h.not_spare (inl n));
      spare_none = λ a l. is (λ n. h.not_spare (inr (a, l, n)));
    }
  where
    is : {x y : ℕ} → (x ≢ y → ⊥) → x ≡ y
    is {x} {y} h = (Dec.not-not (ℕ_discrete x y)).0 h

accepted_writable : (s : List ℕ) → Bytes s → Accepted s → Writable (profile s)
accepted_writable s b a =
    let h = (accepted-sound s).0 a in record {
      not_count = h.not_count;
      not_range = h.not_range;
      not_time_out = times-small s b;
      not_table = h.not_table;
      not_looped = h.not_looped;
      not_unfit = h.not_unfit;
    }

pub tables-accepted : {s : List ℕ} {T : ProfileTables} → ReadFrom s T → Bytes s → Accepted s
    → (rooms : List (ℕ × ℕ)) → (Tight rooms → ⊥)
    → First (write_call (of_tables (actions s) (levels s) (cycle s) T) rooms) 0
tables-accepted {s} x b a rooms room = (write_sound _ rooms).1 (room, same_writable (same_back (tables-same x)) (accepted_writable s b a))

-- ---- each undoes the other on what it accepts

pub accepted-again : {s : List ℕ} {T : ProfileTables} → ReadFrom s T → Bytes s → Accepted s
    → image (of_tables (actions s) (levels s) (cycle s) T) ≡ s
accepted-again {s} x b a = tables-again x b (accepted_formed s a)

pub written_back : (n L c : ℕ) (T : ProfileTables) (rooms : List (ℕ × ℕ))
    → First (write_call (of_tables n L c T) rooms) 0
    → n ≤ length T.masks → n ≤ length T.deadlines → n * L ≤ length T.averages → n * L ≤ length T.worst
    → Gives (image (of_tables n L c T)) n L c (record {
      masks = take n T.masks;
      deadlines = take n T.deadlines;
      averages = take (n * L) T.averages;
      worst = take (n * L) T.worst;
    })
written_back n L c T rooms p =
    tables_back n L c T (writable_range ((write_sound (of_tables n L c T) rooms).0 p).1)
