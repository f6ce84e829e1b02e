-- A refused call leaves the record and says nothing, so that a history says the same without it. Assumes nothing.
use Prim.Native.Nat.{ℕ}
use mathlib.Core.Path.{◌≡◌, refl, ap, sym, ◌∙◌}
use mathlib.Core.Bool.{Bool, true, false, cond}
use mathlib.Core.List.{List, [], ◌∷◌, ◌++◌, append_assoc}
use mathlib.Core.Logic.{◌≢◌}
use borrow.Author.Tests.{eqb-false, ne_eqb}
use lib.Dec.{eqb}
use Rattle.rules.specs.Run.{Run, Next, Answer, ask, ask_refusal, report, report_refusal}
use Rattle.run_histories.specs.History.{Call, CallReply, asks, reports, to_ask, to_report, reply, number, handed, next, CallRefused, after, along, replies, accepted_calls, accepted_of, asking_of, clock_of}

-- ---- one call

ask-stays : (b : Bool) (x : Answer) (k : ℕ) (r : Run) → number (to_ask x) ≡ 0 → number (to_ask (cond b x (Answer.refused k r))) ≢ 0
    → handed (to_ask (cond b x (Answer.refused k r))) ≡ r
unfolding handed
ask-stays true x k r e h = absurd (h e)
ask-stays false x k r e h = refl

report-stays : (b : Bool) (x : Next) (k : ℕ) (r : Run) → x.number ≡ 0 → (cond b x (record { number = k; run = r })).number ≢ 0
    → (cond b x (record { number = k; run = r })).run ≡ r
report-stays true x k r e h = absurd (h e)
report-stays false x k r e h = refl

-- A refused call leaves the record,
pub refused-stays : (c : Call) (r : Run) → CallRefused c r → next c r ≡ r
unfolding reply number handed ask report
refused-stays (asks T) r h = ask-stays (eqb (ask_refusal T r) 0) _ (ask_refusal T r) r refl h
refused-stays (reports worst t) r h = report-stays (eqb (report_refusal worst t r) 0) _ (report_refusal worst t r) r refl h

-- and gives neither an action nor a clock.
pub refused_asking : (c : Call) (x : CallReply) → number x ≢ 0 → asking_of c x ≡ []
unfolding number asking_of
refused_asking c (to_ask (Answer.refused k r)) h = refl
refused_asking c (to_ask (Answer.gives action level decided late r)) h = absurd (h refl)
refused_asking c (to_report x) h = refl

pub refused_clock : (c : Call) (x : CallReply) → number x ≢ 0 → clock_of c x ≡ []
unfolding clock_of
refused_clock (asks T) x h = refl
refused_clock (reports worst t) x h = ap (λ (b : Bool). cond b (t ∷ []) []) (ne_eqb (number x) 0 h)

-- ---- histories one after another

pub after-append : (cs ds : List Call) (r : Run) → after (cs ++ ds) r ≡ after ds (after cs r)
unfolding after
after-append [] ds r = refl
after-append (c ∷ cs) ds r = after-append cs ds (next c r)

pub along-append : {A : Type 0} (f : Call → CallReply → List A) (cs ds : List Call) (r : Run)
    → along f (cs ++ ds) r ≡ along f cs r ++ along f ds (after cs r)
unfolding along after
along-append f [] ds r = refl
along-append {A} f (c ∷ cs) ds r =
    ap (λ (l : List A). f c (reply c r) ++ l) (along-append f cs ds (next c r))
    ∙ sym (append_assoc (f c (reply c r)) (along f cs (next c r)) (along f ds (after cs (next c r))))

-- ---- one refused call dropped

module _ (cs : List Call) (c : Call) (ds : List Call) (r : Run) (h : CallRefused c (after cs r)) where
  pub drop-after : after (cs ++ c ∷ ds) r ≡ after (cs ++ ds) r
  unfolding after
  drop-after = after-append cs (c ∷ ds) r ∙ ap (after ds) (refused-stays c (after cs r) h) ∙ sym (after-append cs ds r)

  -- what is gathered before it and after it stays: the answers, where f is the answer
  pub drop-along : {A : Type 0} (f : Call → CallReply → List A)
      → along f (cs ++ c ∷ ds) r ≡ along f cs r ++ (f c (reply c (after cs r)) ++ along f ds (after cs r))
  unfolding along
  drop-along {A} f =
      along-append f cs (c ∷ ds) r
      ∙ ap (λ (s : Run). along f cs r ++ (f c (reply c (after cs r)) ++ along f ds s)) (refused-stays c (after cs r) h)

-- ---- all refused calls dropped

-- Where a history begins with the call c, it is judged accepted or refused.
module _ (c : Call) (cs : List Call) (r : Run) where
  abbrev judged : Bool → List Call
  judged b = cond b (c ∷ accepted_calls cs (next c r)) (accepted_calls cs (next c r))

pub accepted-after : (cs : List Call) (r : Run) → after (accepted_calls cs r) r ≡ after cs r
unfolding after accepted_calls
accepted-after [] r = refl
accepted-after (c ∷ cs) r = by (eqb (number (reply c r)) 0) refl (accepted-after cs (next c r))
  where
    by : (b : Bool) → eqb (number (reply c r)) 0 ≡ b → after (accepted_calls cs (next c r)) (next c r) ≡ after cs (next c r)
        → after (judged c cs r b) r ≡ after cs (next c r)
    by true e h = h
    by false e h = ap (after (accepted_calls cs (next c r))) (sym (refused-stays c r (eqb-false (number (reply c r)) 0 e))) ∙ h

-- The other answers stay: those of the history without its refused calls are the accepted ones.
pub accepted-replies : (cs : List Call) (r : Run) → replies (accepted_calls cs r) r ≡ accepted_of (replies cs r)
unfolding along accepted_calls accepted_of
accepted-replies [] r = refl
accepted-replies (c ∷ cs) r = by (eqb (number (reply c r)) 0) refl (accepted-replies cs (next c r))
  where
    by : (b : Bool) → eqb (number (reply c r)) 0 ≡ b → replies (accepted_calls cs (next c r)) (next c r) ≡ accepted_of (replies cs (next c r))
        → replies (judged c cs r b) r ≡ cond b (reply c r ∷ accepted_of (replies cs (next c r))) (accepted_of (replies cs (next c r)))
    by true e h = ap (λ (l : List CallReply). reply c r ∷ l) h
    by false e h = ap (replies (accepted_calls cs (next c r))) (sym (refused-stays c r (eqb-false (number (reply c r)) 0 e))) ∙ h

-- So does whatever is gathered from accepted calls alone.
pub accepted-along : {A : Type 0} (f : Call → CallReply → List A) → ((c : Call) (x : CallReply) → number x ≢ 0 → f c x ≡ [])
    → (cs : List Call) (r : Run) → along f (accepted_calls cs r) r ≡ along f cs r
unfolding along accepted_calls
accepted-along f none [] r = refl
accepted-along {A} f none (c ∷ cs) r = by (eqb (number (reply c r)) 0) refl (accepted-along f none cs (next c r))
  where
    by : (b : Bool) → eqb (number (reply c r)) 0 ≡ b → along f (accepted_calls cs (next c r)) (next c r) ≡ along f cs (next c r)
        → along f (judged c cs r b) r ≡ f c (reply c r) ++ along f cs (next c r)
    by true e h = ap (λ (l : List A). f c (reply c r) ++ l) h
    by false e h =
        let out = eqb-false (number (reply c r)) 0 e in
        ap (along f (accepted_calls cs (next c r))) (sym (refused-stays c r out)) ∙ h
        ∙ ap (λ (l : List A). l ++ along f cs (next c r)) (sym (none c (reply c r) out))

-- Levels given and clocks among them.
pub accepted-askings : (cs : List Call) (r : Run) → along asking_of (accepted_calls cs r) r ≡ along asking_of cs r
accepted-askings = accepted-along asking_of refused_asking

pub accepted-clocks : (cs : List Call) (r : Run) → along clock_of (accepted_calls cs r) r ≡ along clock_of cs r
accepted-clocks = accepted-along clock_of refused_clock
