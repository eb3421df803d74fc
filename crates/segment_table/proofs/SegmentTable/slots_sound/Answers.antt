use borrow.Author.Rules.{rules}
use mathlib.Core.Path.{sym, ◌∙◌}
use Prim.Native.Nat.{ℕ}
use Rattle.std.proofs.lemmas.Iterator.{YieldsList-from_slice}
use Rattle.std.proofs.lemmas.Iterator.Consumers.{YieldsList-from_enumerate}
use Rattle.std.proofs.lemmas.Iterator.Search.{all_from_yields_List}
use Rattle.segment_table.specs.Internal.SoundParts.{held}
use Rattle.segment_table.specs.Segments.{slot, slot_total}
use Rattle.segment_table.specs.Sound.{slot_sound}
use Rattle.segment_table.specs.declared.Segment.{Segment}
use Rattle.common.proofs.ChainLaws.{every_indexed}
use Rattle.segment_table.proofs.SoundLaws.{slot_held}
use Rattle.segment_table.proofs.SegmentTable.slots_sound.Goals as goal

pub returns : goal.returns
returns c =
    let s = c.args.self.now in
    all_from_yields_List (λ (p : ℕ × Segment). held s (slot p.0) p.1) _ _ _ c.all.ensures.ran (YieldsList-from_enumerate (YieldsList-from_slice s.segments (search rules)) (search rules)) (λ x b q k. search rules)
    ∙ every_indexed (λ (p : ℕ × Segment). held s (slot p.0) p.1) (λ p. slot_sound s (slot p)) s.segments slot_total _ (search rules) (λ i l. sym (slot_held s (slot i)))
