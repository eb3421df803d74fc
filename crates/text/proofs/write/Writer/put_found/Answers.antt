-- The name is the bytes at a span of the line (`name_is`); each turn pastes one more of them (`paste-suc`), and at the end all are put (`put_all`).
use mathlib.Core.Path.{◌≡◌, sym, ap, ◌∙◌}
use Prim.Native.Nat.{ℕ, ◌+◌}
use native.Mathlib.Numerals.{add-one}
use native.Mathlib.Omega.{arith}
use lib.ListN.{length, set}
use lib.Seq.{paste-suc, paste-zero}
use Rattle.frame.specs.Frame.{body_of}
use Rattle.alias_entry.specs.Internal.Spans.{span_bytes}
use Rattle.hexline.proofs.StandingLaws.{span_at, span_length}
use Rattle.octets.proofs.ByteLaws.{put_all}
use Rattle.text.proofs.WriteLaws.{name_is}
use Rattle.text.proofs.write.Writer.put_found.Goals as goal

pub loop-i-init : goal.loop-i-init
loop-i-init c =
    let n = ap length (name_is _ _ _ c.requires.in_table c.line-line.ensures c.written_in-s.ensures.value) in
    (omega (arith, c.requires.room), paste-zero c.args.out.now c.args.at (span_bytes (body_of c.line-line.result.now) c.written_in-s.result))

pub bounds-out-at : goal.bounds-out-at
bounds-out-at c = let n = span_length (body_of c.line-line.result.now) c.written_in-s.result in omega arith

pub loop-i-preserved : goal.loop-i-preserved
loop-i-preserved c =
    let body = body_of c.line-line.result.now in
    let s = c.written_in-s.result in
    let at = c.args.at in
    let i = c.loop-i.i in
    let n = span_length body s in (
      c.loop-i.invariant.0,
      ap (λ (b : ℕ). set c.loop-i.out (at + i) b) (c.byte.ensures ∙ sym (span_at body s i (omega arith)))
          ∙ rw (c.loop-i.invariant.1, add-one) (paste-suc c.args.out.now at (span_bytes body s) i 0 (omega arith) (omega arith)),
    )

pub returns : goal.returns
returns c =
    let name = span_bytes (body_of c.line-line.result.now) c.written_in-s.result in
    let e : c.written_in-s.result.length ≡ length name = sym (span_length (body_of c.line-line.result.now) c.written_in-s.result) in
    let j : c.loop-i.i ≡ length name = omega arith in
    rw (name_is _ _ _ c.requires.in_table c.line-line.ensures c.written_in-s.ensures.value)
    (record { past = ap (λ (k : ℕ). c.args.at + k) e; written = c.loop-i.invariant.1 ∙ rw j (put_all c.args.out.now c.args.at name) })
