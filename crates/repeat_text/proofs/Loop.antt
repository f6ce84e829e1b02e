-- A loop that puts the lines of positions one after another, each whole. Assumes nothing.
use Prim.Native.Nat.{ℕ, ◌+◌, ◌-◌, ◌≤◌, ◌<◌}
use mathlib.Core.Path.{◌≡◌, sym, ap, ◌∙◌}
use mathlib.Core.List.{List}
use native.Mathlib.Numerals.{add-one}
use native.Mathlib.Decide.{dec_lt}
use native.Mathlib.Omega.{arith}
use lib.ListN.{length, length-append}
use Rattle.rules.specs.Words.{cat}
use Rattle.rules.specs.Repeat.{positions}
use Rattle.rules.specs.declared.Body.{Body}
use Rattle.text.specs.Put.{Puts}
use Rattle.text.proofs.Puts.{put_as}
use Rattle.print.proofs.Lines.{loop-none, loop_turn, loop_done}
use Rattle.repeat_limits.specs.Limits.{CountsIn}
use Rattle.repeat_text.specs.Text.{longest_line, lent_line, lent_lines, TellsLines}
use Rattle.repeat_text.proofs.Lines.{line-length, lines-unrolled}

-- the lines from one position to the next are there, whole, and there are some unless the buffer still has room for one
pub record Lined (b : Body) (order summaries out : List ℕ) (at from : ℕ) (out' : List ℕ) (to next : ℕ) : Type 0 where
  pub onward : from ≤ next
  pub first : next ≡ from → to ≡ at
  pub text : Puts out at (lent_lines b order summaries from next) out' to
  pub whole : to ≡ at + length (lent_lines b order summaries from next)

abbrev line_from : Body → List ℕ → List ℕ → ℕ → ℕ → List ℕ
line_from b order summaries from k = lent_line b order summaries (from + k)

module _ {b : Body} {order summaries out : List ℕ} {at from : ℕ} (h : at ≤ length out) where
  pub none_lined : Lined b order summaries out at from out at from
  unfolding cat
  none_lined =
      let line : ℕ → List ℕ = line_from b order summaries from in
      let none : 0 ≡ from - from = omega arith in
      record {
        onward = omega arith;
        first = λ e. omega arith;
        text = loop_done h line 0 (from - from) none (loop-none h line);
        whole = let l : 0 ≡ length (cat line (from - from)) = ap (λ (k : ℕ). length (cat line k)) none in omega (arith, l);
      }

  pub one_more : {mid end : List ℕ} {m r next : ℕ} → CountsIn b → Lined b order summaries out at from mid m next → m + longest_line ≤ length mid
      → Puts mid m (lent_line b order summaries next) end r → Lined b order summaries out at from end r (next + 1)
  unfolding cat
  one_more {mid} {m = m} {r} {next} c l room put =
      let line : ℕ → List ℕ = line_from b order summaries from in
      let k : ℕ = next - from in
      let this : from + k ≡ next = omega (arith, l.onward) in
      let more : k + 1 ≡ next + 1 - from = omega (arith, l.onward) in
      let own = line-length b order summaries next c in
      let long : length (cat line (k + 1)) ≡ length (cat line k) + length (lent_line b order summaries next) =
      ap (λ (j : ℕ). length (cat line j)) (add-one k) ∙ length-append (cat line k) (line k)
      ∙ ap (λ (j : ℕ). length (cat line k) + length (lent_line b order summaries j)) this in
      let all : length (cat line (k + 1)) ≡ length (cat line (next + 1 - from)) = ap (λ (j : ℕ). length (cat line j)) more in
      record {
        onward = omega (arith, l.onward);
        first = λ e. absurd (omega (arith, l.onward));
        text = loop_done h line (k + 1) (next + 1 - from) more
            (loop_turn h line k l.text (put_as (ap (lent_line b order summaries) (sym this)) put));
        whole = omega (arith, own, long, all, l.whole, put.count);
      }

  -- where no line more is sure to fit, one was put
  pub some_lined : {end : List ℕ} {r next : ℕ} → Lined b order summaries out at from end r next → at + longest_line ≤ length out
      → length out - r < longest_line → from < next
  some_lined {r = r} {next} l room full = by (dec_lt from next)
    where
      by : Dec (from < next) → from < next
      by (yes m) = m
      by (no m) = let e : r ≡ at = l.first (omega (arith, l.onward)) in absurd (omega arith)

  pub lines-told : {end : List ℕ} {r next : ℕ} → Lined b order summaries out at from end r next → from < next → next ≤ positions b
      → TellsLines b order summaries out at from end (record { next = next; at = r })
  lines-told {next = next} l some most = record {
    onward = some;
    most = most;
    text = l.text;
    whole = l.whole;
    unrolled_lines = λ {F} {o} {T} same-o same_s P {p} y.
        ap (λ (x : List ℕ). lent_lines b x summaries from next) (sym same-o)
        ∙ ap (λ (x : List ℕ). lent_lines b T.order x from next) (sym same_s)
        ∙ lines-unrolled P y from next most;
  }
