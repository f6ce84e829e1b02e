-- What a host may count on: each contract settles the answer and the lent record, and a refusal leaves the record. Assumes nothing.
use Prim.Native.Nat.{ℕ}
use mathlib.Core.Path.{◌≡◌, refl, sym, ap, ◌∙◌}
use mathlib.Core.Bool.{Bool, true, false, cond}
use mathlib.Core.List.{List}
use mathlib.Core.Logic.{◌≢◌}
use lib.Dec.{eqb}
use Rattle.rules.specs.Limits.{LentTables}
use Rattle.rules.specs.Run as rules
use Rattle.rules.specs.Repeat.{LentBody, positions, no_body, known_tests, body_start, body_ask_refusal, body_ask, body_report_refusal, body_report}
use Rattle.rules.specs.Refusals.{first}
use Rattle.rules.specs.declared.Body.{Body}
use Rattle.rules.specs.declared.Refusal.{Refusal}
use Rattle.run.specs.declared.Run.{Run}
use Rattle.run.specs.declared.Answer.TheVariants.{Refused}
use Rattle.run.specs.Calls.{run_of}
use Rattle.run.proofs.Answers.{run_of-one, asked-kept, reported-kept, started-kept}
use Rattle.repeat_run.specs.declared.BodyRun.{BodyRun}
use Rattle.repeat_run.specs.Calls.{steps_of}
use Rattle.speed_stretch.specs.declared.Reading.{Reading}
use Rattle.speed_stretch.specs.Answer.{reading_of}
use Rattle.speed.proofs.Answers.{reads_settled}
use Rattle.nyokazerubi.specs.declared.runs.Given.{Given}
use Rattle.nyokazerubi.specs.declared.readings.Read.{Read}
use Rattle.nyokazerubi.specs.Flat.{next_flat, given_of, next_run, Asks, read_of, ReadsFlat}

-- ---- start and report

-- the rules' answer settles the record and the refusal
pub next_one : {r s : Run} {k m : Refusal} {x : rules.Next} → next_flat (run_of r) k ≡ x → next_flat (run_of s) m ≡ x → (r ≡ s) × (k ≡ m)
next_one {r} {s} e f = (
  run_of-one r s (ap (λ (x : rules.Next). x.run) (e ∙ sym f)),
  ap (λ (x : rules.Next). record { number = x.number })
      (e ∙ sym f),
)

-- a refused start leaves a record of zero actions
pub start-refused : (n L : ℕ) {r : Run} {k : Refusal} → next_flat (run_of r) k ≡ rules.start n L → k.number ≢ 0 → run_of r ≡ rules.begun 0 0 0
start-refused n L {r} {k} e = (started-kept n L (record { run = r; refusal = k }) e).refused

pub report-refused : (worst : List ℕ) (t : ℕ) (h : Run) {r : Run} {k : Refusal} → next_flat (run_of r) k ≡ rules.report worst t (run_of h) → k.number ≢ 0
    → r ≡ h
report-refused worst t h {r} {k} e = (reported-kept worst t h (record { run = r; refusal = k }) e).refused

-- ---- ask

pub ask-one : {x : rules.Answer} {r s : Run} {g h : Given} → Asks x (run_of r) g → Asks x (run_of s) h → (r ≡ s) × (g ≡ h)
ask-one {r = r} {s = s} p q = (run_of-one r s (p.run ∙ sym q.run), p.given ∙ sym q.given)

pub ask-refused : (T : LentTables) (h : Run) {r : Run} {g : Given} → Asks (rules.ask T (run_of h)) (run_of r) g
    → g.refusal.number ≢ 0 → r ≡ h
ask-refused T h {r} {g} a = by (rules.ask T (run_of h)) refl a.run a.given
  where
    by : (x : rules.Answer) → x ≡ rules.ask T (run_of h) → run_of r ≡ next_run x → g ≡ given_of x → g.refusal.number ≢ 0 → r ≡ h
    by (rules.refused k s) e next flat some = asked-kept T h (record { run = r; answer = Refused (record { number = k }) })
        (ap (rules.refused k) next ∙ e)
    by (rules.gives action level decided late s) e next flat some = absurd (some (ap (λ (y : Given). y.refusal.number) flat))

-- ---- a body repeated

back : Body → rules.Run → BodyRun
back b r = record {
  clock = r.clock;
  body = b;
  position = r.position;
  level = r.level;
  left = r.left;
  decisions = r.decisions;
  running = r.running;
  overrun = r.overrun;
  late = r.late;
}

-- the body and the steps settle the record
pub body_run-one : {r s : BodyRun} → r.body ≡ s.body → steps_of r ≡ steps_of s → r ≡ s
unfolding back
body_run-one b e = λ i. back (b i) (e i)

pub body_start-one : {r s : BodyRun} {k m : Refusal} {x : Body × rules.Next} → (r.body, next_flat (steps_of r) k) ≡ x
    → (s.body, next_flat (steps_of s) m) ≡ x → (r ≡ s) × (k ≡ m)
body_start-one e f =
    let same = e ∙ sym f in (
      body_run-one (λ i. (same i).0) (λ i. (same i).1.run),
      λ i. record { number = (same i).1.number },
    )

-- a refused start leaves a record of zero actions
abbrev pub zero_actions : BodyRun
zero_actions = record { clock = 0; body = no_body; position = 0; level = 0; left = 0; decisions = 0; running = false; overrun = false; late = false }

pub body_start-refused : (b : Body) {r : BodyRun} {k : Refusal} → (r.body, next_flat (steps_of r) k) ≡ body_start b → k.number ≢ 0
    → r ≡ zero_actions
unfolding body_start rules.begun
body_start-refused b {r} {k} e some = by (eqb (first (known_tests b)) 0) e
  where
    by : (c : Bool) → (r.body, next_flat (steps_of r) k) ≡ cond {A = Body × rules.Next} c
        (b, record { number = 0; run = rules.begun (positions b) b.levels 0 })
        (no_body, record { number = first (known_tests b); run = rules.begun 0 0 0 })
        → r ≡ zero_actions
    by true e = absurd (some (λ i. (e i).1.number))
    by false e = body_run-one (λ i. (e i).0) (λ i. (e i).1.run)

pub body-next-one : {b : Body} {r s : BodyRun} {k m : Refusal} {x : rules.Next} → r.body ≡ b → s.body ≡ b → next_flat (steps_of r) k ≡ x
    → next_flat (steps_of s) m ≡ x → (r ≡ s) × (k ≡ m)
body-next-one p q e f =
    let same = e ∙ sym f in
    (body_run-one (p ∙ sym q) (λ i. (same i).run), λ i. record { number = (same i).number })

pub body_report-refused : (worst : List ℕ) (t : ℕ) (h : BodyRun) {r : BodyRun} {k : Refusal} → r.body ≡ h.body
    → next_flat (steps_of r) k ≡ body_report h.body worst t (steps_of h) → k.number ≢ 0 → r ≡ h
unfolding body_report
body_report-refused worst t h {r} {k} b e some = by _ _ (eqb (body_report_refusal h.body worst t (steps_of h)) 0) e
  where
    by : (m : ℕ) (s : rules.Run) (c : Bool) → next_flat (steps_of r) k ≡ cond {A = rules.Next} c (record { number = 0; run = s })
        (record { number = m; run = steps_of h }) → r ≡ h
    by m s true e = absurd (some (λ i. (e i).number))
    by m s false e = body_run-one b (λ i. (e i).run)

pub body_ask-one : {x : rules.Answer} {b : Body} {r s : BodyRun} {g d : Given} → r.body ≡ b → s.body ≡ b → Asks x (steps_of r) g
    → Asks x (steps_of s) d → (r ≡ s) × (g ≡ d)
body_ask-one b c p q = (body_run-one (b ∙ sym c) (p.run ∙ sym q.run), p.given ∙ sym q.given)

pub body_ask-refused : (T : LentBody) (h : BodyRun) {r : BodyRun} {g : Given} → r.body ≡ h.body
    → Asks (body_ask h.body T (steps_of h)) (steps_of r) g → g.refusal.number ≢ 0 → r ≡ h
unfolding body_ask
body_ask-refused T h {r} {g} b a some = by _ _ _ _ _ _ (eqb (body_ask_refusal h.body T (steps_of h)) 0) a
  where
    by : (m action level : ℕ) (decided late : Bool) (s : rules.Run) (c : Bool)
        → Asks (cond c (rules.gives action level decided late s) (rules.refused m (steps_of h))) (steps_of r) g → r ≡ h
    by m action level decided late s true a = absurd (some (λ i. (a.given i).refusal.number))
    by m action level decided late s false a = body_run-one b a.run

-- ---- the speed reading

pub reading-one : {s : List ℕ} {first last level t : ℕ} {r r' : Read} → ReadsFlat s first last level t r → ReadsFlat s first last level t r' → r ≡ r'
reading-one x y =
    x.flat ∙ ap (λ (a : Reading). read_of (reading_of a)) (reads_settled x.reading y.reading x.reads y.reads) ∙ sym y.flat
