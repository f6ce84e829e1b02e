-- What a refresh answers and leaves is settled by what it is given; the new image is accepted, and differs in averages only. Assumes nothing.
use Prim.Native.Nat.{ℕ}
use mathlib.Core.Path.{◌≡◌, sym, ◌∙◌}
use mathlib.Core.List.{List, []}
use Rattle.rules.specs.Image.{profile}
use Rattle.rules.specs.Refusals.{First, Accepted}
use Rattle.rules.specs.declared.Fault.{Fault}
use Rattle.rules.specs.Refresh.{refreshed, new_image, refresh_call}
use Rattle.rules.proofs.Refusals.{Sound, refuses-one}
use Rattle.rules.proofs.Speed.Reading.{times-small}
use Rattle.rules.proofs.Refresh.{NoFault, refresh_sound, refreshed-table, refreshed-times, refreshed-grounds}
use Rattle.fields.proofs.Bytes.{Bytes}
use Rattle.image_laws.proofs.Same.{Same}
use Rattle.image_laws.proofs.Written.{in_range, written_read}
use Rattle.image_laws.proofs.Accepts.{Writable, write_sound, written-accepted}
use Rattle.refresh.specs.Refresh.{refreshing, Refreshes}

-- ---- the answer is settled

pub refreshes_one : {s trace before after after' : List ℕ} {refusal refusal' : Fault} {bytes bytes' : ℕ}
    → Refreshes s trace before after refusal bytes → Refreshes s trace before after' refusal' bytes'
    → (refusal ≡ refusal') × (bytes ≡ bytes') × (after ≡ after')
refreshes_one {s} {trace} {before} {refusal = r} {refusal' = r'} x y =
    let e = refuses-one (refreshing s trace before) r r' x.given y.given in
    (e, (rw e at x.count) ∙ sym y.count, (rw e at x.written) ∙ sym y.written)

-- ---- the new image

module _ (s trace : List ℕ) (rooms : List (ℕ × ℕ)) (is-bytes : Bytes s) (given : First (refresh_call s trace rooms) 0) where
  sound : Sound s × NoFault (profile s) trace
  sound = refresh_sound s trace rooms given

  writable : Writable (refreshed (profile s) trace)
  writable =
      let (h, no_fault) = sound in
      let same = refreshed-grounds (profile s) trace in record {
        not_count = λ c. h.not_count (same.count.0 c);
        not_range = λ c. h.not_range (same.range.0 c);
        not_time_out = refreshed-times (profile s) trace h.not_table no_fault (times-small s is-bytes);
        not_table = refreshed-table (profile s) trace h.not_table no_fault;
        not_looped = λ c. h.not_looped (same.looped.0 c);
        not_unfit = λ c. h.not_unfit (same.unfit.0 c);
      }

  -- It is accepted.
  pub new-accepted : Accepted (new_image s trace)
  unfolding new_image
  new-accepted = written-accepted (refreshed (profile s) trace) [] ((write_sound (refreshed (profile s) trace) []).1 ((λ x. x), writable))

  -- What is read of it is what was read of the image, but for the averages, which are the new ones.
  pub new-read : Same (refreshed (profile s) trace) (profile (new_image s trace))
  unfolding new_image
  new-read = written_read (in_range writable.not_count writable.not_range writable.not_time_out)
