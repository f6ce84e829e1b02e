-- The dry run: a whole cycle of decisions and coasts over given durations.
use Rattle.std.specs.Prelude.{ℕ, zero, suc, ◌+◌, ◌*◌, ◌<◌, Bool, List, [], ◌∷◌, ◌++◌, get_or}
use Rattle.rules.specs.Numbers.{longest_time, longest_coast, refused_count, refused_duration, refused_room, refused_policy}
use Rattle.rules.specs.Words.{tab, one_if}
use Rattle.rules.specs.Limits.{LentTables, Plan}
use Rattle.rules.specs.Image.{profile}
use Rattle.rules.specs.Refusals.{Ground, ◌when◌, CountsOut, Tight, UnknownPolicy, image_checks}
use Rattle.rules.specs.Run.{Run, begun, decides, given, ended, lent}

-- An action asked for, and reported when the duration d (position, level) has passed; w has the worst times by position and level.
unfoldable pub step : ℕ → Plan → (ℕ → ℕ → ℕ) → (ℕ → ℕ → ℕ) → Run → Run
step cap P w d r =
    let next : Run = given cap P r in
    ended (w r.position next.level) (r.clock + d r.position next.level) next

-- The record before position i of a cycle begun at time t.
unfoldable pub before : ℕ → Plan → (ℕ → ℕ → ℕ) → (ℕ → ℕ → ℕ) → ℕ → ℕ → Run
before cap P w d t zero = begun P.n P.levels t
before cap P w d t (suc i) = step cap P w d (before cap P w d t i)

-- Of position i: the level that it gets, how long it then takes, whether it is decided.
abbrev pub level_of : ℕ → Plan → (ℕ → ℕ → ℕ) → (ℕ → ℕ → ℕ) → ℕ → ℕ → ℕ
level_of cap P w d t i = (before cap P w d t (suc i)).level

abbrev pub took : ℕ → Plan → (ℕ → ℕ → ℕ) → (ℕ → ℕ → ℕ) → ℕ → ℕ → ℕ
took cap P w d t i = d i (level_of cap P w d t i)

abbrev pub decided : ℕ → Plan → (ℕ → ℕ → ℕ) → (ℕ → ℕ → ℕ) → ℕ → ℕ → Bool
decided cap P w d t i = decides (before cap P w d t i)

-- ---- the call, on lent tables and n by L durations by position

abbrev pub cell : List ℕ → ℕ → ℕ → ℕ → ℕ
cell table L i q = get_or table (i * L + q) 0

-- It writes n levels and n decided marks (1 or 0), and answers decisions, end, overrun and late, the fields of the last record.
unfoldable pub dry_levels : ℕ → ℕ → LentTables → List ℕ → List ℕ
dry_levels n L T durations = tab (level_of longest_coast (lent n L T) (cell T.worst L) (cell durations L) 0) n

unfoldable pub dry_marks : ℕ → ℕ → LentTables → List ℕ → List ℕ
dry_marks n L T durations = tab (λ i. one_if (decided longest_coast (lent n L T) (cell T.worst L) (cell durations L) 0 i)) n

unfoldable pub dry_end : ℕ → ℕ → LentTables → List ℕ → Run
dry_end n L T durations = before longest_coast (lent n L T) (cell T.worst L) (cell durations L) 0 n

-- 16 Duration: an entry above 16,777,215
abbrev pub LongEntry : ℕ → List ℕ → Type 0
LongEntry cells durations = (k : ℕ) × (k < cells) × (longest_time < get_or durations k 0)

-- Refusals 3, 17, 16.
abbrev pub dry_call : ℕ → ℕ → List ℕ → List (ℕ × ℕ) → List Ground
dry_call n L durations rooms = refused_count when CountsOut n L ∷ refused_room when Tight rooms ∷ refused_duration when LongEntry (n * L) durations ∷ []

-- Of an image, a policy and durations: the image's, then 20, 17, 16.
abbrev pub frame_call : List ℕ → ℕ → List ℕ → List (ℕ × ℕ) → List Ground
frame_call s policy durations rooms =
    image_checks s
    ++ (refused_policy when UnknownPolicy policy
    ∷ refused_room when Tight rooms
    ∷ refused_duration when LongEntry ((profile s).n * (profile s).levels) durations
    ∷ [])
