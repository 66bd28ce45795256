use Rattle.std.proofs.Common.{◌≡◌, ◌∙◌, ◌+◌, ◌*◌, Ok, subst, arith}
use Rattle.druid_segment_file.specs.Parts.{each_at, Shape}
use Rattle.druid_segment_file.specs.ColumnReader.{dimension_at, metric_at, Columns, columns_at}
use Rattle.druid_segment_file.specs.FileRules.{columns_length}
use Rattle.druid_segment_file.proofs.JudgeLemmas.{columns_found, times_counted}
use Rattle.druid_segment_file.proofs.cursor.Cursor.columns_length.Goals as goal

pub returns-clause-found : goal.returns-clause-found
returns-clause-found c =
    let short = c.args.self.now.short in
    let rest = c.args.self.now.rest in
    let rows = c.args.rows in
    let shape : Shape = record { interval = c.shape.inside.interval; dimensions = c.shape.inside.dimensions; metrics = c.shape.inside.metrics } in
    let b1 = c.skip_times.new.self in
    let b2 = c.dimensions_length.new.self in
    let b3 = c.metrics_length.new.self in
    let times = c.in_ok-skip_times.ensures in
    let texts = c.in_ok-texts.ensures.found in
    let numbers = c.in_ok-numbers.ensures.found in
    let second = subst (λ s. each_at (dimension_at s rows) shape.dimensions b1.rest ≡ Ok (texts.0.0, b2.rest)) times.1 texts.0.1 in
    let third = subst (λ s. each_at (metric_at s rows) shape.metrics b2.rest ≡ Ok (numbers.0.0, b3.rest)) (texts.1 ∙ times.1) numbers.0.1 in
    let read = columns_found short shape rows rest b1.rest b2.rest b3.rest times.0.0 texts.0.0 numbers.0.0 times.0.1 second third in
    let long = times_counted short shape rows rest b1.rest times.0.0 times.0.1 in
    subst (λ (s : Shape). ((x : Columns) × (columns_at short s rows rest ≡ Ok (x, b3.rest)) × (8 * rows + c.in_ok-texts.texts + c.in_ok-numbers.numbers ≡ columns_length x)) × (b3.short ≡ short)) c.shape.view_is
    ((record { times = times.0.0; dimensions = texts.0.0; metrics = numbers.0.0 }, read, omega (arith, long, texts.0.2, numbers.0.2)), numbers.1 ∙ texts.1 ∙ times.1)
