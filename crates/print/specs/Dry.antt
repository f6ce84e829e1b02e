-- What the dry-run program prints of an image and the bytes of its durations, by a policy.
use Rattle.std.specs.Prelude.{ℕ, suc, ◌*◌, ◌≡◌, Bool, List, [], ◌∷◌, ◌++◌, length}
use Rattle.rules.specs.Words.{cat, one_if}
use Rattle.rules.specs.Image.{profile}
use Rattle.rules.specs.Order.{Order, TheOrder}
use Rattle.rules.specs.Refusals.{Refuses, kept}
use Rattle.rules.specs.declared.Fault.{Fault}
use Rattle.rules.specs.Run.{decides}
use Rattle.rules.specs.Dry.{frame_call}
use Rattle.dry_frame.specs.Frame.{run_at}
use Rattle.text.specs.Put.{Puts}
use Rattle.print_lines.specs.Lines.{four_line, fault_text}

-- Position, action, level and decided (1 or 0), a line for each position; then decisions, end, overrun, late, which the last record has.
abbrev pub dry_text : ℕ → (ℕ → ℕ) → (ℕ → ℕ) → (ℕ → ℕ) → ℕ → ℕ → Bool → Bool → List ℕ
dry_text n action level decided decisions end overrun late =
    cat (λ i. four_line i (action i) (level i) (decided i)) n ++ four_line decisions end (one_if overrun) (one_if late)

-- That text of the image s and the durations d by the policy, or their refusal, is put into the buffer from its start on. Without a refusal the order
-- is the profile's; with one o counts for nothing. Too few durations are 17.
pub record TellsDry (s : List ℕ) (policy : ℕ) (d out out' : List ℕ) (r : ℕ) : Type 0 where
  pub refusal : Fault
  pub given : Refuses (frame_call s policy d ((length d, (profile s).n * (profile s).levels) ∷ [])) refusal
  pub o : Order (profile s).n
  pub the_order : refusal.number ≡ 0 → TheOrder (profile s) o
  pub text : Puts out 0
      (kept refusal.number
      (dry_text (profile s).n o.at (λ i. (run_at s policy d o (suc i)).level) (λ i. one_if (decides (run_at s policy d o i)))
      (run_at s policy d o (profile s).n).decisions (run_at s policy d o (profile s).n).clock
      (run_at s policy d o (profile s).n).overrun (run_at s policy d o (profile s).n).late)
      (fault_text refusal))
      out' r
