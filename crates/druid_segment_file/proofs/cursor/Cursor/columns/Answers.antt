use Rattle.std.proofs.Common.{◌∙◌, length, refl, sym, subst, ap, List, ℕ, Option}
use Rattle.std.proofs.lemmas.List.{length-map}
use Rattle.druid_segment_rows.specs.Columns.{AreLong}
use Rattle.druid_segment_file.specs.Parts.{Shape}
use Rattle.druid_segment_file.specs.ColumnReader.{decoded}
use Rattle.druid_segment_file.proofs.KeepLemmas.{times_ok, dimensions_ok, metrics_ok, columns_kept, dimensions_long, metrics_long, texts_long, numbers_long}
use Rattle.druid_segment_file.proofs.cursor.Cursor.columns.Goals as goal

pub times-requires : goal.times-requires
times-requires c =
    let old = c.args.self.now in
    let shape : Shape = record { interval = c.shape.inside.interval; dimensions = c.shape.inside.dimensions; metrics = c.shape.inside.metrics } in
    let count = c.args.rows in
    times_ok old.short shape c.args.shape count old.rest old c.shape.view_is refl c.requires.judged

pub dimensions-requires : goal.dimensions-requires
dimensions-requires c =
    let old = c.args.self.now in
    let shape : Shape = record { interval = c.shape.inside.interval; dimensions = c.shape.inside.dimensions; metrics = c.shape.inside.metrics } in
    let count = c.args.rows in
    let read1 = c.in_ok-times.ensures in
    dimensions_ok old.short shape c.args.shape count old.rest old c.shape.view_is refl c.in_ok-times.times.items c.times.new.self read1.short read1.is c.requires.judged

pub metrics-requires-clause-judged : goal.metrics-requires-clause-judged
metrics-requires-clause-judged c =
    let old = c.args.self.now in
    let shape : Shape = record { interval = c.shape.inside.interval; dimensions = c.shape.inside.dimensions; metrics = c.shape.inside.metrics } in
    let count = c.args.rows in
    let read1 = c.in_ok-times.ensures in
    let found = c.in_ok-dimensions.ensures in
    metrics_ok old.short shape c.args.shape count old.rest old c.shape.view_is refl c.in_ok-times.times.items c.times.new.self read1.short read1.is found.0 c.dimensions.new.self found.1.short found.1.is c.requires.judged

pub returns : goal.returns
returns c =
    let old = c.args.self.now in
    let shape : Shape = record { interval = c.shape.inside.interval; dimensions = c.shape.inside.dimensions; metrics = c.shape.inside.metrics } in
    let count = c.args.rows in
    let read1 = c.in_ok-times.ensures in
    let times = c.in_ok-times.times.items in
    let found = c.in_ok-dimensions.ensures in
    let metrics = c.in_ok-metrics.metrics.items in
    let read3 = c.in_ok-metrics.ensures in
    let k1 = c.times.new.self in
    let k2 = c.dimensions.new.self in
    let k3 = c.metrics.new.self in
    record {
      dimensions = found.0;
      read = columns_kept old.short shape c.args.shape count old.rest old c.shape.view_is refl times k1 read1.short read1.is found.0 k2 found.1.short found.1.is metrics k3 read3.is;
      same = found.2;
      texts_long = subst (λ (texts : List (List (Option (List ℕ)))). AreLong (length times) texts) (sym found.2)
          (texts_long old.short shape c.args.shape count old.rest old c.shape.view_is refl times k1 read1.short read1.is found.0 k2 found.1.short found.1.is metrics k3 read3.is);
      numbers_long = numbers_long old.short shape c.args.shape count old.rest old c.shape.view_is refl times k1 read1.short read1.is found.0 k2 found.1.short found.1.is metrics k3 read3.is;
      dimensions_are = ap length found.2 ∙ length-map found.0 decoded
          ∙ (dimensions_long old.short shape c.args.shape count old.rest old c.shape.view_is refl times k1 read1.short read1.is found.0 k2 found.1.short found.1.is metrics k3 read3.is).0 ∙ ap (λ (s : Shape). s.dimensions) c.shape.view_is;
      metrics_are = (metrics_long old.short shape c.args.shape count old.rest old c.shape.view_is refl times k1 read1.short read1.is found.0 k2 found.1.short found.1.is metrics k3 read3.is).0 ∙ ap (λ (s : Shape). s.metrics) c.shape.view_is;
    }
