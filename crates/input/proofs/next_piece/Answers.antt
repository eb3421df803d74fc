use Rattle.input.proofs.InputLaws.{piece_taken}
use Rattle.input.proofs.next_piece.Goals as goal

pub returns : goal.returns
returns c = piece_taken c.front.ensures c.take-piece.ensures
