-- Writing the encoder's profile is refused only for want of room: 17 where the image is shorter than its 546 bytes, else nothing. Assumes nothing.
use Prim.Native.Nat.{ℕ, zero, suc}
use mathlib.Core.Path.{◌≡◌, refl}
use mathlib.Core.Bool.{Bool, true, cond, ◌&&◌}
use mathlib.Core.List.{List, [], ◌∷◌}
use mathlib.Core.Logic.{inl, inr}
use native.Mathlib.Omega.{arith}
use borrow.Author.Tests.{lt-ltb, le-ltb}
use lib.Dec.{ltb, ltb→lt}
use Rattle.rules.specs.Words.{cat}
use Rattle.rules.specs.Image.{header, actions, levels, cycle, record_bytes, record_at, image_bytes, mask_of, deadline_of, average_of, worst_of, of_tables, header_of, level_image, record_image, image}
use Rattle.rules.specs.Refusals.{First}
use Rattle.rules.proofs.Differences.{not-above}
use Rattle.rules.proofs.Tests.{pass, and-true}
use Rattle.fields.proofs.Bytes.{Bytes}
use Rattle.fields.proofs.Holds.{whole}
use Rattle.image_write.specs.Writing.{writing}
use Rattle.image_laws.proofs.RoundTrip.{ReadFrom}
use Rattle.image_laws.proofs.Accepts.{Writable, write_sound, tables-accepted}
use Rattle.encoder.specs.Times.{masks, deadlines, times, column, encoder_tables, encoder}
use Rattle.encoder.proofs.Accepted.{accepted}

-- every number of a list is a byte, computed
all_bytes : List ℕ → Bool
all_bytes [] = true
all_bytes (x ∷ xs) = ltb x 256 && all_bytes xs

each_byte : (s : List ℕ) → all_bytes s ≡ true → Bytes s
unfolding all_bytes
each_byte [] h k = omega arith
each_byte (x ∷ xs) h zero = ltb→lt x 256 (pass _ ((and-true (ltb x 256) (all_bytes xs)).0 h).0)
each_byte (x ∷ xs) h (suc k) = each_byte xs ((and-true (ltb x 256) (all_bytes xs)).0 h).1 k

-- reading its image gives the tables back
read : ReadFrom (image encoder) encoder_tables
unfolding cat image header_of record_image level_image of_tables header actions levels record_bytes record_at mask_of deadline_of average_of worst_of
    masks deadlines times column encoder
read = record { masks_are = whole _; deadlines_are = whole _; averages_are = whole _; worst_are = whole _ }

sure : Writable encoder
unfolding cat image header_of record_image level_image of_tables header actions levels cycle record_bytes record_at mask_of deadline_of average_of worst_of
    masks deadlines times column encoder all_bytes
sure = ((write_sound encoder []).0 (tables-accepted read (each_byte (image encoder) refl) accepted [] (λ t. t))).1

pub only-room : (room k : ℕ) → First (writing 9 8 320000 encoder_tables room) k → k ≡ cond (ltb room 546) 17 0
unfolding cat masks deadlines times column encoder image_bytes record_bytes
only-room room k (inl p) = absurd (sure.not_count p.0)
only-room room k (inr (_, inl (inl h, e))) = absurd (omega arith)
only-room room k (inr (_, inl (inr (inl h), e))) = absurd (omega arith)
only-room room k (inr (_, inl (inr (inr (inl h)), e))) = absurd (omega arith)
only-room room k (inr (_, inl (inr (inr (inr (inl h))), e))) = absurd (omega arith)
only-room room k (inr (_, inl (inr (inr (inr (inr (inl h)))), e))) = rw (lt-ltb room 546 h) e
only-room room k (inr (_, inl (inr (inr (inr (inr (inr other)))), e))) = elim other [ ]
only-room room k (inr (_, inr (_, inl ((a, l, inl h), e)))) = absurd (sure.not_range (a, l, h))
only-room room k (inr (_, inr (_, inl ((a, l, inr h), e)))) = absurd (sure.not_time_out (a, l, h))
only-room room k (inr (_, inr (_, inr (_, inl (h, e))))) = absurd (sure.not_table h)
only-room room k (inr (_, inr (_, inr (_, inr (_, inl (h, e)))))) = absurd (sure.not_looped h)
only-room room k (inr (_, inr (_, inr (_, inr (_, inr (_, inl (h, e))))))) = absurd (sure.not_unfit h)
only-room room k (inr (_, inr (roomy, inr (_, inr (_, inr (_, inr (_, e))))))) =
    rw (le-ltb room 546 (not-above (λ l. roomy (inr (inr (inr (inr (inl l)))))))) e
