use Rattle.std.proofs.Common.{◌∙◌, map, take, ap, sym}
use Rattle.std.proofs.lemmas.List.{take-map}
use Rattle.druid_segment_rows.specs.Columns.{value_at}
use Rattle.druid_segment_rows.proofs.column_builder.ColumnBuilder.truncate.Goals as goal

pub returns : goal.returns
returns c =
    let a = c.self.inside in
    ap (map (value_at a.texts)) c.truncate.ensures.items ∙ sym (take-map (value_at a.texts) c.args.len a.codes.items) ∙ ap (take c.args.len) c.self.view_is
