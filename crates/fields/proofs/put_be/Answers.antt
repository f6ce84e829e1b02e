-- The loop goes down: the bytes from at + j on are written, and `rest` is what is left of v. Assumes nothing.
use mathlib.Core.Path.{◌≡◌, sym, ◌∙◌}
use mathlib.Core.List.{List, [], ◌∷◌}
use Prim.Native.Nat.{ℕ, suc, ◌+◌, ◌-◌, ◌/◌, ◌%◌, ◌^◌, ◌≤◌}
use native.Mathlib.Nat.{pow-zero, pow-suc, div-one, div-div-eq-div-mul}
use native.Mathlib.Omega.{arith}
use lib.ListN.{length, set, length-set}
use borrow.Author.Rules.{rules}
use Rattle.rules.specs.Image.{bytes}
use Rattle.fields.specs.Fields.{splice}
use Rattle.fields.proofs.Bytes.{bytes-suc}
use Rattle.fields.proofs.Splice.{splice-nil, splice_front, set-splice}
use Rattle.fields.proofs.put_be.Goals as goal

-- before the loop
none : (out : List ℕ) (at w v : ℕ) → out ≡ splice out (at + w) (bytes (w - w) v)
none out at w v =
    let e : w - w ≡ 0 = omega arith in
    rw e (sym (splice-nil out (at + w)))

all_left : (w v : ℕ) → v ≡ v / 256 ^ (w - w)
all_left w v =
    let e : w - w ≡ 0 = omega arith in
    rw (e, pow-zero, div-one)

-- a turn
one_more : (w i j : ℕ) → j ≡ i + 1 → j ≤ w → w - i ≡ suc (w - j)
one_more w i j e h = omega arith

byte_more : (out₀ : List ℕ) {out : List ℕ} (at w v i j : ℕ) {rest : ℕ} → j ≡ i + 1 → j ≤ w → at + w ≤ length out₀ → length out ≡ length out₀
    → out ≡ splice out₀ (at + j) (bytes (w - j) v) → rest ≡ v / 256 ^ (w - j) → set out (at + i) (rest % 256) ≡ splice out₀ (at + i) (bytes (w - i) v)
byte_more out₀ {out} at w v i j {rest} e h room b was is =
    let s : at + j ≡ at + i + 1 = omega arith in
    set-splice out (at + i) (rest % 256) (omega arith)
    ∙ rw (was, s, is, one_more w i j e h, bytes-suc (w - j) v)
    (splice_front out₀ (at + i) (v / 256 ^ (w - j) % 256 ∷ []) (omega arith) (bytes (w - j) v))

left-more : (w v i j : ℕ) {rest : ℕ} → j ≡ i + 1 → j ≤ w → rest ≡ v / 256 ^ (w - j) → rest / 256 ≡ v / 256 ^ (w - i)
left-more w v i j e h is = rw (is, one_more w i j e h, pow-suc 256 (w - j)) (div-div-eq-div-mul v (256 ^ (w - j)) 256)

pub loop-j-init : goal.loop-j-init
loop-j-init c = (search rules, search rules, none _ _ c.args.w c.args.v, all_left c.args.w _)

pub loop-j-preserved : goal.loop-j-preserved
loop-j-preserved c =
    let x = c.args in
    let t = c.loop-j in (
      search rules,
      simp length-set (omega arith),
      byte_more _ _ x.w x.v (t.j - 1) t.j (omega arith) (omega arith) (omega arith) (omega arith) t.invariant.2 t.invariant.3,
      omega (arith, left-more x.w x.v (t.j - 1) t.j (omega arith) (omega arith) t.invariant.3),
    )
