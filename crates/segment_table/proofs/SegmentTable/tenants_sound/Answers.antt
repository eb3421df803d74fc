use borrow.Author.Rules.{rules}
use mathlib.Core.Path.{refl, ◌∙◌}
use Rattle.std.proofs.lemmas.Iterator.{YieldsList-from_slice}
use Rattle.std.proofs.lemmas.Iterator.Search.{all_from_yields_List}
use Rattle.segment_table.specs.Segments.{tenant_at, tenant_id, tenant_total}
use Rattle.segment_table.specs.Sound.{tenant_sound}
use Rattle.common.proofs.ChainLaws.{every_element}
use Rattle.segment_table.proofs.SegmentTable.tenants_sound.Goals as goal

pub returns : goal.returns
returns c =
    let s = c.args.self.now in
    all_from_yields_List tenant_sound _ _ _ c.all.ensures.ran (YieldsList-from_slice s.tenants (search rules)) (λ x b q k. search rules)
    ∙ every_element tenant_sound (λ t. tenant_sound (tenant_at s (tenant_id t))) s.tenants tenant_total _ (search rules) (λ i l. refl)
