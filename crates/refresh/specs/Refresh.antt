-- What a refresh answers, and what it leaves of the lent slice.
use Rattle.std.specs.Prelude.{ℕ, ◌+◌, ◌≤◌, ◌<◌, ◌≡◌, List, [], ◌∷◌, ◌++◌, ◌⊎◌, Result, Ok, Err, length, get_or}
use Rattle.rules.specs.Numbers.{most_actions, most_levels, header_bytes, refused_trace, refused_room}
use Rattle.rules.specs.Words.{cat}
use Rattle.rules.specs.Image.{Profile, levels, record_at, worst_of, profile, record_image}
use Rattle.rules.specs.Refusals.{Ground, ◌when◌, First, Refuses, kept, Tight}
use Rattle.rules.specs.Reasons.{fault}
use Rattle.rules.specs.declared.blame.Blame.{Blame}
use Rattle.rules.specs.declared.Fault.{Fault}
use Rattle.rules.specs.Refresh.{refreshed, new_image, Trace, refresh_call}
use Rattle.fields.specs.Fields.{splice}
use Rattle.trace.specs.Trace.{cells, cell_of, Ceilings, faults, Weighs}
use Rattle.refresh.specs.declared.Refreshed.{Refreshed}

-- The grounds for refusing to refresh the image s by the trace; of the lent slice as many bytes are needed as s has.
abbrev pub refreshing : List ℕ → List ℕ → List ℕ → List Ground
refreshing s trace out = refresh_call s trace ((length out, length s) ∷ [])

-- The refusal, the new image in the lent slice, whose tail is kept, and its bytes; with a refusal all of the slice is kept.
pub record Refreshes (s trace before after : List ℕ) (refusal : Fault) (bytes : ℕ) : Type 0 where
  pub given : Refuses (refreshing s trace before) refusal
  pub written : after ≡ kept refusal.number (splice before 0 (new_image s trace)) before
  pub count : bytes ≡ kept refusal.number (length s) 0

-- the bytes of the new image, 0 with a refusal
abbrev pub written_bytes : Result ℕ Blame → ℕ
written_bytes (Ok bytes) = bytes
written_bytes (Err _) = 0

-- the same with the refusal, as it is answered to C
abbrev pub flat : Result ℕ Blame → Refreshed
flat r = record { refusal = fault r; bytes = written_bytes r }

-- ---- asked between the functions of this crate

-- The call's own grounds, of a profile: `needed` bytes are needed of `room`.
abbrev pub own_grounds : Profile → List ℕ → ℕ → ℕ → List Ground
own_grounds F trace needed room = refused_trace when Trace trace ∷ (faults F trace ++ (refused_room when Tight ((room, needed) ∷ []) ∷ []))

-- The number of the call's own refusal and, with none, the tallies of the trace.
pub record Weighed (trace ceilings : List ℕ) (needed room : ℕ) (tallies : List ℕ) (k : ℕ) : Type 0 where
  pub number : (F : Profile) → Ceilings F ceilings → First (own_grounds F trace needed room) k
  pub weighs : k ≡ 0 → Weighs trace tallies

-- The table has the first durations that are too long for the first n actions of the image s, which has L levels, and 0 in all other cells.
pub record Ceiled (s : List ℕ) (n L : ℕ) (table : List ℕ) : Type 0 where
  pub size : length table ≡ cells
  pub present : (a q : ℕ) → a < n → q < L → get_or table (cell_of a q) 0 ≡ worst_of s a q + 1
  pub absent : (a q : ℕ) → a < most_actions → q < most_levels → (n ≤ a) ⊎ (L ≤ q) → get_or table (cell_of a q) 0 ≡ 0

-- The slice has a copy of the record of action a: writing it there again changes nothing.
abbrev pub Copied : List ℕ → List ℕ → ℕ → Type 0
Copied s out a = splice out (record_at (levels s) a) (record_image (profile s) a) ≡ out

-- The copy becomes the record of the new image.
abbrev pub Renews : List ℕ → ℕ → List ℕ → List ℕ → List ℕ → Type 0
Renews s a tallies before after =
    (trace : List ℕ) → Weighs trace tallies → Copied s before a
    → after ≡ splice before (record_at (levels s) a) (record_image (refreshed (profile s) trace) a)

-- So do those of the first n actions.
abbrev pub AllRenewed : List ℕ → ℕ → List ℕ → List ℕ → List ℕ → Type 0
AllRenewed s n tallies before after =
    (trace : List ℕ) → Weighs trace tallies → ((a : ℕ) → a < n → Copied s before a)
    → after ≡ splice before header_bytes (cat (record_image (refreshed (profile s) trace)) n)
