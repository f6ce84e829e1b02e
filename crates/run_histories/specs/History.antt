-- A history: calls on the run record, one after another, accepted or refused, each on whatever it is lent.
use Rattle.std.specs.Prelude.{ℕ, zero, suc, ◌-◌, ◌≡◌, Bool, false, cond, List, [], ◌∷◌, ◌++◌, ◌≢◌, eqb, get_or}
use Rattle.rules.specs.Limits.{LentTables}
use Rattle.rules.specs.Run.{Run, Next, Answer, ask, report}

-- ---- calls and what they answer

-- An asking on the tables that it is lent, and a report on the worst times that it is lent, by a clock.
pub data Call : Type 0 where
  asks : LentTables → Call
  reports : List ℕ → ℕ → Call

pub data CallReply : Type 0 where
  to_ask : Answer → CallReply
  to_report : Next → CallReply

unfoldable pub reply : Call → Run → CallReply
reply (asks T) r = to_ask (ask T r)
reply (reports worst t) r = to_report (report worst t r)

-- the number of a refusal, 0 for none
unfoldable pub number : CallReply → ℕ
number (to_ask (Answer.refused k r)) = k
number (to_ask (Answer.gives action level decided late r)) = 0
number (to_report x) = x.number

-- the record handed back
unfoldable pub handed : CallReply → Run
handed (to_ask (Answer.refused k r)) = r
handed (to_ask (Answer.gives action level decided late r)) = r
handed (to_report x) = x.run

-- the record after a call
abbrev pub next : Call → Run → Run
next c r = handed (reply c r)

abbrev pub CallAccepted : Call → Run → Type 0
CallAccepted c r = number (reply c r) ≡ 0

abbrev pub CallRefused : Call → Run → Type 0
CallRefused c r = number (reply c r) ≢ 0

-- ---- a history

-- the record after a history
unfoldable pub after : List Call → Run → Run
after [] r = r
after (c ∷ cs) r = after cs (next c r)

-- what f gathers from each call and its answer
unfoldable pub along : {A : Type 0} → (Call → CallReply → List A) → List Call → Run → List A
along f [] r = []
along f (c ∷ cs) r = f c (reply c r) ++ along f cs (next c r)

-- the answers
abbrev pub replies : List Call → Run → List CallReply
replies cs r = along (λ c x. x ∷ []) cs r

-- the history without the refused calls, and the answers without the refusals
unfoldable pub accepted_calls : List Call → Run → List Call
accepted_calls [] r = []
accepted_calls (c ∷ cs) r = cond (eqb (number (reply c r)) 0) (c ∷ accepted_calls cs (next c r)) (accepted_calls cs (next c r))

unfoldable pub accepted_of : List CallReply → List CallReply
accepted_of [] = []
accepted_of (x ∷ xs) = cond (eqb (number x) 0) (x ∷ accepted_of xs) (accepted_of xs)

-- C holds of every accepted call; of a refused one it may hold or not.
pub data EachAccepted (C : Call → Type 0) : List Call → Run → Type 0 where
  none : {r : Run} → EachAccepted C [] r
  more : {c : Call} {cs : List Call} {r : Run} → (CallAccepted c r → C c) → EachAccepted C cs (next c r) → EachAccepted C (c ∷ cs) r

-- ---- what the accepted calls say

-- What an accepted asking answers.
pub record Asking : Type 0 where
  pub action : ℕ
  pub level : ℕ
  pub decided : Bool
  pub late : Bool

abbrev pub no_asking : Asking
no_asking = record { action = 0; level = 0; decided = false; late = false }

unfoldable pub asking_of : Call → CallReply → List Asking
asking_of c (to_ask (Answer.refused k r)) = []
asking_of c (to_ask (Answer.gives action level decided late r)) = record { action = action; level = level; decided = decided; late = late } ∷ []
asking_of c (to_report x) = []

-- The clock of an accepted report.
unfoldable pub clock_of : Call → CallReply → List ℕ
clock_of (asks T) x = []
clock_of (reports worst t) x = cond (eqb (number x) 0) (t ∷ []) []

-- of a history
abbrev pub askings : List Call → Run → List Asking
askings cs r = along asking_of cs r

abbrev pub clocks : List Call → Run → List ℕ
clocks cs r = along clock_of cs r

-- ---- positions

-- what was answered at position j
abbrev pub asking_at : List Asking → ℕ → Asking
asking_at xs j = get_or xs j no_asking

-- The last accepted clock before position j of a cycle begun at time t; a duration is the difference of two.
unfoldable pub clock_before : ℕ → List ℕ → ℕ → ℕ
clock_before t ks zero = t
clock_before t ks (suc j) = get_or ks j 0

unfoldable pub duration : ℕ → List ℕ → ℕ → ℕ
duration t ks j = get_or ks j 0 - clock_before t ks j

-- how many answers were decided
unfoldable pub decided_count : List Asking → ℕ
decided_count [] = 0
decided_count (x ∷ xs) = cond x.decided (suc (decided_count xs)) (decided_count xs)
