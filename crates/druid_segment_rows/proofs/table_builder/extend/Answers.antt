use Rattle.std.proofs.Common.{◌∙◌, map, take, ap}
use Rattle.druid_segment_rows.proofs.GrowLemmas.{cut_lengthened}
use Rattle.druid_segment_rows.proofs.table_builder.extend.Goals as goal

pub returns-in_default-clause-same_texts : goal.returns-in_default-clause-same_texts
returns-in_default-clause-same_texts g c =
    c.cut_texts.ensures ∙ ap (map (take c.args.rows)) c.in_ok-extend_texts.ensures.ok ∙ cut_lengthened c.args.rows c.args.dimensions.now _ c.requires.texts
