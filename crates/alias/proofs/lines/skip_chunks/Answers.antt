use borrow.Author.Rules.{rules}
use Rattle.alias.proofs.LinesLaws.{chunks_skipped}
use Rattle.alias.proofs.lines.skip_chunks.Goals as goal

pub returns : goal.returns
returns c =
    rw (c.unwrap_or.ensures, ← c.chunks_exact.ensures.rest)
    (chunks_skipped _ (λ x q k. search rules) c.chunks_exact.result _ c.position.result c.chunks_exact.ensures.size c.position.ensures.ran)
