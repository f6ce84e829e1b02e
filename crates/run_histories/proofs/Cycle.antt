-- A history of calls on lists that read as one plan is a part of the dry run over its durations: the same records, levels, marks and clocks.
-- Over any plan, whoever made it. Assumes nothing.
use Prim.Native.Nat.{ℕ, suc, ◌+◌, ◌-◌, ◌≤◌, ◌<◌, zero-le}
use mathlib.Core.Path.{◌≡◌, refl, ap, sym, subst, ◌∙◌}
use mathlib.Core.Bool.{Bool, true, false, not, cond, ◌&&◌}
use mathlib.Core.List.{List, [], ◌∷◌, ◌++◌, append_assoc, append-nil}
use native.Mathlib.Decide.{ℕ_discrete}
use native.Mathlib.Omega.{arith}
use lib.Dec.{eqb}
use lib.ListN.{length, get_or}
use lib.Seq.{get_or-append_seam}
use Rattle.rules.specs.Numbers.{longest_coast}
use Rattle.rules.specs.Words.{cat, tab}
use Rattle.rules.specs.Limits.{LentTables, Plan}
use Rattle.rules.specs.Run.{Run, Next, Answer, begun, decides, given, ended, fits, lent, ask}
use Rattle.rules.specs.Dry.{step, before, cell}
use Rattle.rules.proofs.Tests.{not-both}
use Rattle.rules.proofs.Calls.{in_range_facts}
use Rattle.rules.proofs.Demand.Record.{Same, given-same, n_is, levels-is, position-is}
use Rattle.rules.proofs.Demand.Alike.{Alike, fits-alike, given-alike}
use Rattle.fields.proofs.Tabs.{length-tab}
use Rattle.run_histories.specs.History.{Call, asks, reports, to_ask, reply, number, handed, next, CallAccepted, CallRefused, after, along, EachAccepted, Asking, asking_of, clock_of, askings, clocks, clock_before, duration}
use Rattle.run_histories.proofs.Replies.{refused-stays, refused_asking, refused_clock}
use Rattle.run_histories.proofs.Accepting.{gives_by, AskTaken, ask-taken, ReportTaken, report-taken, given-runs, before-waits}

-- What a call takes reads as the plan P, as the worst times w by position and level, and as the actions by position, where a cycle reads it.
abbrev pub OnPlan : (ℕ → ℕ) → Plan → (ℕ → ℕ → ℕ) → Call → Type 0
OnPlan acts P w (asks T) = ((j : ℕ) → j < P.n → get_or T.order j 0 ≡ acts j) × Alike longest_coast (lent P.n P.levels T) P
OnPlan acts P w (reports worst t) = (i q : ℕ) → i < P.n → q < P.levels → cell worst P.levels i q ≡ w i q

-- the durations of a list of clocks, whatever the level
abbrev pub taken : ℕ → List ℕ → ℕ → ℕ → ℕ
taken t ks p q = duration t ks p

-- what is answered at position j of a cycle begun at time t by the plan P
abbrev pub answer_by : (ℕ → ℕ) → Plan → (ℕ → ℕ → ℕ) → (ℕ → ℕ → ℕ) → ℕ → ℕ → Asking
answer_by acts P w d t j =
    let r = before longest_coast P w d t j in
    record {
      action = acts j;
      level = (before longest_coast P w d t (suc j)).level;
      decided = decides r;
      late = decides r && not (fits P r.clock j);
    }

module _ (acts : ℕ → ℕ) (P : Plan) (w : ℕ → ℕ → ℕ) (t₀ : ℕ) (K : List ℕ) where
  abbrev at : ℕ → Run
  at i = before longest_coast P w (taken t₀ K) t₀ i

  abbrev answers : ℕ → List Asking
  answers g = tab (answer_by acts P w (taken t₀ K) t₀) g

  -- i actions have ended, and one more is given where b says so: the clocks ks, the answers xs and the record r so far
  pub record Stands (i : ℕ) (b : Bool) (ks : List ℕ) (xs : List Asking) (r : Run) : Type 0 where
    pub run : r ≡ cond b (given longest_coast P (at i)) (at i)
    pub ends : ks ≡ tab (λ j. (at (suc j)).clock) i
    pub asked : xs ≡ answers (cond b (suc i) i)
    pub time : (at i).clock ≡ clock_before t₀ K i
    pub room : cond b (suc i) i ≤ P.n

  abbrev pub Standing : List ℕ → List Asking → Run → Type 0
  Standing ks xs r = (i : ℕ) × (b : Bool) × Stands i b ks xs r

  -- where the next call leads
  abbrev Stepped : Call → List ℕ → List Asking → Run → Type 0
  Stepped c ks xs r = Standing (ks ++ clock_of c (reply c r)) (xs ++ asking_of c (reply c r)) (next c r)

  -- a refused call changes nothing
  stay : (c : Call) (ks : List ℕ) (xs : List Asking) (r : Run) → CallRefused c r → Standing ks xs r → Stepped c ks xs r
  stay c ks xs r h (i, b, s) = (
    i,
    b,
    record {
      run = refused-stays c r h ∙ s.run;
      ends = ap (λ (l : List ℕ). ks ++ l) (refused_clock c (reply c r) h) ∙ append-nil ks ∙ s.ends;
      asked = ap (λ (l : List Asking). xs ++ l) (refused_asking c (reply c r) h) ∙ append-nil xs ∙ s.asked;
      time = s.time;
      room = s.room;
    },
  )

  n-at : (i : ℕ) → (at i).n ≡ P.n
  n-at i = n_is longest_coast P w (taken t₀ K) t₀ i

  levels-at : (i : ℕ) → (at i).levels ≡ P.levels
  levels-at i = levels-is longest_coast P w (taken t₀ K) t₀ i

  position_at : (i : ℕ) → (at i).position ≡ i
  position_at i = position-is longest_coast P w (taken t₀ K) t₀ i

  -- an accepted asking gives the next action
  module _ (T : LentTables) (names : (j : ℕ) → j < P.n → get_or T.order j 0 ≡ acts j)
      (alike : Alike longest_coast (lent P.n P.levels T) P)
      (ks : List ℕ) (xs : List Asking) (r : Run) (i : ℕ) (s : Stands i false ks xs r) (h : AskTaken T r) where
    more : i < P.n
    more = omega (
      arith,
      h.askable.is_open.more,
      ap (λ (x : Run). x.n) s.run,
      n-at i,
      ap (λ (x : Run). x.position) s.run,
      position_at i,
    )

    some : 0 < P.levels
    some = omega (arith, (in_range_facts r h.askable.is_open.ranged).some_level, ap (λ (x : Run). x.levels) s.run, levels-at i)

    -- by what is lent, and by the plan
    by_lent : ask T r ≡ gives_by T (at i) (lent P.n P.levels T)
    by_lent =
        h.answer
        ∙ ap (λ (x : Run). gives_by T x (lent x.n x.levels T)) s.run
        ∙ ap (λ (n : ℕ). gives_by T (at i) (lent n (at i).levels T)) (n-at i)
        ∙ ap (λ (L : ℕ). gives_by T (at i) (lent P.n L T)) (levels-at i)

    abbrev gives : ℕ → Bool → Run → Answer
    gives a f x = Answer.gives a x.level (decides (at i)) (decides (at i) && not f) x

    by_plan : ask T r ≡ gives (acts i) (fits P (at i).clock i) (given longest_coast P (at i))
    unfolding lent
    by_plan =
        let Q = lent P.n P.levels T in
        by_lent
        ∙ ap (λ (p : ℕ). gives (get_or T.order p 0) (fits Q (at i).clock p) (given longest_coast Q (at i))) (position_at i)
        ∙ ap (λ (a : ℕ). gives a (fits Q (at i).clock i) (given longest_coast Q (at i))) (names i more)
        ∙ ap (λ (f : Bool). gives (acts i) f (given longest_coast Q (at i))) (fits-alike alike some (at i).clock i more)
        ∙ ap (gives (acts i) (fits P (at i).clock i)) (given-alike alike some (at i) (omega (arith, more, position_at i)))

    ask_on_plan : Stepped (asks T) ks xs r
    unfolding clock_of asking_of reply handed cat before step ended
    ask_on_plan = (
      i,
      true,
      record {
        run = ap (λ (x : Answer). handed (to_ask x)) by_plan;
        ends = append-nil ks ∙ s.ends;
        asked = ap (λ (l : List Asking). l ++ asking_of (asks T) (reply (asks T) r)) s.asked
            ∙ ap (λ (x : Answer). answers i ++ asking_of (asks T) (to_ask x)) by_plan;
        time = s.time;
        room = more;
      },
    )

  -- an accepted report ends it
  module _ (worst : List ℕ) (t : ℕ) (times : (i q : ℕ) → i < P.n → q < P.levels → cell worst P.levels i q ≡ w i q)
      (ks : List ℕ) (xs : List Asking) (r : Run) (i : ℕ) (s : Stands i true ks xs r) (h : ReportTaken worst t r)
      (rest : List ℕ) (whole : (ks ++ t ∷ []) ++ rest ≡ K) where
    same : Same longest_coast P (at i) (given longest_coast P (at i))
    same = given-same longest_coast P (at i)

    -- the clock is the i-th of all
    listed : get_or K i 0 ≡ t
    listed =
        ap (λ (l : List ℕ). get_or l i 0) (sym whole ∙ append_assoc ks (t ∷ []) rest)
        ∙ ap (λ (k : ℕ). get_or (ks ++ t ∷ rest) k 0) (sym (ap length s.ends ∙ length-tab (λ j. (at (suc j)).clock) i))
        ∙ get_or-append_seam ks t rest 0

    on : (at i).clock ≤ t
    on = omega (arith, h.reportable.onward, ap (λ (x : Run). x.clock) s.run, same.clock)

    clock-is : (at i).clock + duration t₀ K (at i).position ≡ t
    unfolding duration
    clock-is = ap (λ (p : ℕ). (at i).clock + (get_or K p 0 - clock_before t₀ K p)) (position_at i) ∙ omega (arith, on, listed, s.time)

    level-low : (given longest_coast P (at i)).level < P.levels
    level-low = omega (
      arith,
      h.reportable.ranged.level,
      ap (λ (x : Run). x.level) s.run,
      ap (λ (x : Run). x.levels) s.run,
      same.levels,
      levels-at i,
    )

    ended_is : ended (cell worst r.levels r.position r.level) t r ≡ at (suc i)
    unfolding before step
    ended_is =
        let g = given longest_coast P (at i) in
        ap (λ (x : Run). ended (cell worst x.levels x.position x.level) t x) s.run
        ∙ ap (λ (p : ℕ). ended (cell worst g.levels p g.level) t g) same.position
        ∙ ap (λ (L : ℕ). ended (cell worst L (at i).position g.level) t g) (same.levels ∙ levels-at i)
        ∙ ap (λ (v : ℕ). ended v t g) (times (at i).position g.level (omega (arith, position_at i, s.room)) level-low)
        ∙ ap (λ (u : ℕ). ended (w (at i).position g.level) u g) (sym clock-is)

    clock-next : (at (suc i)).clock ≡ t
    unfolding ended
    clock-next = ap (λ (x : Run). x.clock) (sym ended_is)

    report_on_plan : Standing (ks ++ t ∷ []) (xs ++ asking_of (reports worst t) (reply (reports worst t) r)) (next (reports worst t) r)
    unfolding asking_of reply handed cat clock_before
    report_on_plan = (
      suc i,
      false,
      record {
        run = ap (λ (x : Next). x.run) h.answer ∙ ended_is;
        ends = ap (λ (l : List ℕ). l ++ t ∷ []) s.ends ∙ ap (λ (k : ℕ). tab (λ j. (at (suc j)).clock) i ++ k ∷ []) (sym clock-next);
        asked = append-nil xs ∙ s.asked;
        time = clock-next ∙ sym listed;
        room = s.room;
      },
    )

  -- The next call, whatever it is answered; `rest` are the clocks to come.
  stepped : (c : Call) (ks : List ℕ) (xs : List Asking) (r : Run) (rest : List ℕ) → (CallAccepted c r → OnPlan acts P w c)
      → (ks ++ clock_of c (reply c r)) ++ rest ≡ K → Standing ks xs r → Stepped c ks xs r
  unfolding clock_of
  stepped (asks T) ks xs r rest on whole now = by (ℕ_discrete (number (reply (asks T) r)) 0) now
    where
      by : Dec (CallAccepted (asks T) r) → Standing ks xs r → Stepped (asks T) ks xs r
      by (no h) now = stay (asks T) ks xs r h now
      by (yes h) (i, true, s) =
          absurd (not-both (ap (λ (x : Run). x.running) s.run ∙ given-runs longest_coast P (at i)) (ask-taken T r h).askable.is_open.waits)
      by (yes h) (i, false, s) = ask_on_plan T (on h).0 (on h).1 ks xs r i s (ask-taken T r h)
  stepped (reports worst t) ks xs r rest on whole now = by (ℕ_discrete (number (reply (reports worst t) r)) 0) now
    where
      by : Dec (CallAccepted (reports worst t) r) → Standing ks xs r → Stepped (reports worst t) ks xs r
      by (no h) now = stay (reports worst t) ks xs r h now
      by (yes h) (i, false, s) =
          absurd (not-both (report-taken worst t r h).reportable.runs
          (ap (λ (x : Run). x.running) s.run ∙ before-waits longest_coast P w (taken t₀ K) t₀ i))
      by (yes h) (i, true, s) =
          let one : clock_of (reports worst t) (reply (reports worst t) r) ≡ t ∷ [] = ap (λ (k : ℕ). cond (eqb k 0) (t ∷ []) []) h in
          let x = reply (reports worst t) r in
          subst (λ (l : List ℕ). Standing (ks ++ l) (xs ++ asking_of (reports worst t) x) (handed x)) (sym one)
          (report_on_plan worst t (on h) ks xs r i s (report-taken worst t r h) rest (ap (λ (l : List ℕ). (ks ++ l) ++ rest) (sym one) ∙ whole))

  walk : {cs : List Call} {r : Run} → EachAccepted (OnPlan acts P w) cs r → (ks : List ℕ) (xs : List Asking) → ks ++ clocks cs r ≡ K
      → Standing ks xs r → Standing K (xs ++ askings cs r) (after cs r)
  unfolding along after
  walk {r = r} EachAccepted.none ks xs e now =
      subst (λ (l : List ℕ). Standing l (xs ++ []) r) (sym (append-nil ks) ∙ e)
      (subst (λ (l : List Asking). Standing ks l r) (sym (append-nil xs)) now)
  walk {r = r} (EachAccepted.more {c = c} {cs = cs} on each) ks xs e now =
      let whole = append_assoc ks (clock_of c (reply c r)) (clocks cs (next c r)) ∙ e in
      subst (λ (l : List Asking). Standing K l (after cs (next c r))) (append_assoc xs (asking_of c (reply c r)) (askings cs (next c r)))
      (walk each (ks ++ clock_of c (reply c r)) (xs ++ asking_of c (reply c r)) whole (stepped c ks xs r (clocks cs (next c r)) on whole now))

  begins : Stands 0 false [] [] (begun P.n P.levels t₀)
  unfolding before begun cat clock_before
  begins = record { run = refl; ends = refl; asked = refl; time = refl; room = zero-le }

-- Any history whose accepted calls are on one plan, from a start at time t.
pub cycle-part : (acts : ℕ → ℕ) (P : Plan) (w : ℕ → ℕ → ℕ) (t : ℕ) (cs : List Call) → let r = begun P.n P.levels t in
    EachAccepted (OnPlan acts P w) cs r → Standing acts P w t (clocks cs r) (clocks cs r) (askings cs r) (after cs r)
cycle-part acts P w t cs on =
    let ks = clocks cs (begun P.n P.levels t) in
    walk acts P w t ks on [] [] refl (0, false, begins acts P w t ks)
