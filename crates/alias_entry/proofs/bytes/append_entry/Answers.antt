-- Whether the entry fits its bytes is tested first, since only then they can be counted; the two tests are the one of `code_left_out` and `code_put`.
use mathlib.Core.Path.{refl, sym, ◌∙◌}
use lib.ListN.{length}
use Rattle.label_codec.specs.Codec.{width}
use Rattle.alias_entry.specs.Codec.{entry_code, entry_fits}
use Rattle.alias_entry.specs.Entry.{entry_bytes}
use Rattle.label_codec.proofs.BodyLoops.{code_left_out, code_put}
use Rattle.alias_entry.proofs.bytes.append_entry.Goals as goal
use Rattle.alias_entry.proofs.bytes.append_entry.Goals.{else-fits-via-then-fits+else-fits-2, else-fits-via-else-fits}

pub returns-then-fits-2 : goal.returns-then-fits-2
unfolding entry_code
returns-then-fits-2 c =
    let a = c.args in
    code_put a.out.now a.at (entry_bytes (width a.words) a.e) (entry_fits a.e) c.size.result (sym c.size.ensures)
    (rw (sym c.fits.ensures ∙ c.if-fits.true) (sym c.fits-then-fits.ensures ∙ c.if-fits-2.true)) c.put.ensures

pub returns : goal.returns
unfolding entry_code
returns c =
    let a = c.args in
    let left = code_left_out a.out.now a.at (entry_bytes (width a.words) a.e) (entry_fits a.e) in
    elim c.else-fits.branch [
      | else-fits-via-then-fits+else-fits-2 w ↦
          left w.size.result (sym w.size.ensures) (rw (sym c.fits.ensures ∙ w.if-fits.true) (sym w.fits-then-fits.ensures ∙ w.if-fits-2.false))
      | else-fits-via-else-fits w ↦ left (length (entry_bytes (width a.words) a.e)) refl (rw (sym c.fits.ensures ∙ w.if-fits.false))
    ]
