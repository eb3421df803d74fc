-- What fills the buffer is the body (`body_taken`), and its sum with the last byte is that of all bytes (`framed_by`).
use Rattle.std.proofs.Common.{ℕ, ◌≡◌, ◌+◌, ◌%◌, eqb, List, length, get_or, ap, ◌∙◌, ap₂, arith}
use Rattle.frame.specs.Frame.{bytes_of, sum_of}
use Rattle.frame.proofs.FrameLaws.{body_length}
use Rattle.frame.proofs.FrameLoops.{body_taken, framed_by}
use Rattle.frame.proofs.decode_spelled.Goals as goal

pub returns-clause-value : goal.returns-clause-value
returns-clause-value c =
    let line = c.args.line.now in
    let n = length c.args.out.now in
    let b = c.fill.ensures ∙ body_taken line n c.requires.1 in
    let k : length c.fill.new.out ≡ n = omega (arith, ap length b, body_length line, c.requires.1) in
    c.sums_up.ensures ∙ ap₂ (λ (l : List ℕ) (x : ℕ). eqb ((sum_of l + x) % 256) 0) b (c.byte_at.ensures ∙ ap (λ (i : ℕ). get_or (bytes_of line) i 0) k)
    ∙ framed_by line n c.requires.1 c.requires.0

pub returns-clause-out_after : goal.returns-clause-out_after
returns-clause-out_after c = c.fill.ensures ∙ body_taken c.args.line.now (length c.args.out.now) c.requires.1
