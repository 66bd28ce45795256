use Rattle.std.proofs.Common.{◌∙◌, ap, sym, subst, length}
use Rattle.druid_segment_rows.specs.Segment.{IsSegment}
use Rattle.druid_segment_file.specs.Parts.{Shape, shape_of}
use Rattle.druid_segment_file.specs.ColumnReader.{Columns}
use Rattle.druid_segment_file.proofs.KeepLemmas.{whole_ok, whole_read, segment_kept}
use Rattle.druid_segment_file.proofs.reader.Judged.of_columns.Goals as goal

pub columns-requires-clause-judged : goal.columns-requires-clause-judged
columns-requires-clause-judged c =
    let d = c.args.self.now.announcement in
    let fields = c.args.self.now.fields in
    let shape = c.shape_of-shape.result in
    let bytes = c.args.self.now.rows.now in
    let count = c.args.self.now.count in
    let k0 = c.new-cursor.result in
    whole_ok c.args.short shape (shape_of d fields) count bytes k0 c.shape_of-shape.ensures c.new-cursor.ensures c.requires.1

pub of_columns-requires-clause-valid : goal.of_columns-requires-clause-valid
of_columns-requires-clause-valid c =
    let d = c.args.self.now.announcement in
    let fields = c.args.self.now.fields in
    let shape = c.shape_of-shape.result in
    let bytes = c.args.self.now.rows.now in
    let count = c.args.self.now.count in
    let k0 = c.new-cursor.result in
    let kept = c.in_ok-columns.ensures in
    let times = c.in_ok-columns.columns.times.items in
    let texts = c.in_ok-columns.columns.dimensions.items in
    let metrics = c.in_ok-columns.columns.metrics.items in
    let columns : Columns = record { times = times; dimensions = kept.dimensions; metrics = metrics } in
    let read = whole_read c.args.short shape (shape_of d fields) count bytes k0 c.shape_of-shape.ensures c.new-cursor.ensures (columns, c.columns.new.self.rest) kept.read in
    let segment = segment_kept c.in_ok-descriptor.descriptor d c.in_ok-schema.schema fields times texts kept.dimensions metrics c.in_ok-descriptor.ensures c.in_ok-schema.ensures kept.same in
    subst IsSegment (sym segment) (c.requires.2 _ _ read)

pub of_columns-requires-clause-dimensions : goal.of_columns-requires-clause-dimensions
of_columns-requires-clause-dimensions c =
    c.in_ok-columns.ensures.dimensions_are ∙ ap (λ (s : Shape). s.dimensions) c.shape_of-shape.ensures ∙ sym (ap (λ s. length s.dimensions) c.in_ok-schema.ensures)

pub of_columns-requires-clause-metrics : goal.of_columns-requires-clause-metrics
of_columns-requires-clause-metrics c =
    c.in_ok-columns.ensures.metrics_are ∙ ap (λ (s : Shape). s.metrics) c.shape_of-shape.ensures ∙ sym (ap (λ s. length s.metrics) c.in_ok-schema.ensures)

pub returns : goal.returns
returns c =
    let d = c.args.self.now.announcement in
    let fields = c.args.self.now.fields in
    let shape = c.shape_of-shape.result in
    let bytes = c.args.self.now.rows.now in
    let count = c.args.self.now.count in
    let k0 = c.new-cursor.result in
    let kept = c.in_ok-columns.ensures in
    let times = c.in_ok-columns.columns.times.items in
    let texts = c.in_ok-columns.columns.dimensions.items in
    let metrics = c.in_ok-columns.columns.metrics.items in
    let columns : Columns = record { times = times; dimensions = kept.dimensions; metrics = metrics } in
    let read = whole_read c.args.short shape (shape_of d fields) count bytes k0 c.shape_of-shape.ensures c.new-cursor.ensures (columns, c.columns.new.self.rest) kept.read in
    let segment = segment_kept c.in_ok-descriptor.descriptor d c.in_ok-schema.schema fields times texts kept.dimensions metrics c.in_ok-descriptor.ensures c.in_ok-schema.ensures kept.same in
    (columns, c.columns.new.self.rest, read, c.of_columns.ensures ∙ segment)
