use Rattle.std.proofs.Common.{◌≡◌, ◌∙◌, suc, [], ◌∷◌, ◌++◌, length, ap, sym, subst, arith, rules}
use Rattle.std.proofs.lemmas.List.{with_items_is, length_push}
use Rattle.druid_segment_rows.specs.Columns.{AreLong}
use Rattle.druid_segment_rows.specs.Table.{Table, HasWidths, with_values, table_of, with_one_more}
use Rattle.druid_segment_rows.proofs.GrowLemmas.{table_push, AreLong_lengthened, length_lengthened}
use Rattle.druid_segment_rows.proofs.table_builder.TableBuilder.push.Goals as goal

pub invariant_of-self-2 : goal.invariant_of-self-2
invariant_of-self-2 g c =
    let a = c.self.inside in
    let row = c.args.row.now in
    let wide : HasWidths (length a.dimensions.items) (length a.metrics.items) row = subst (λ (t : Table). HasWidths t.dimensions t.metrics row) (sym c.self.view_is) c.requires in
    let texts = c.in_ok-extend.ensures.texts ∙ ap (λ columns. with_values columns row.dimensions) c.deref_mut.ensures.value in
    let numbers = c.in_ok-extend.ensures.numbers ∙ ap (λ columns. with_values columns row.metrics) c.deref_mut-2.ensures.value in
    let d : a.dimensions.len ≡ length a.dimensions.items = search rules in
    let m : a.metrics.len ≡ length a.metrics.items = search rules in
    let dimensions = with_items_is a.dimensions c.extend.new.dimensions (ap length texts ∙ length_lengthened a.dimensions.items row.dimensions ∙ sym d) ∙ texts in
    let metrics = with_items_is a.metrics c.extend.new.metrics (ap length numbers ∙ length_lengthened a.metrics.items row.metrics ∙ sym m) ∙ numbers in
    let times : c.push_reserved.new.self.items ≡ a.times.items ++ row.time ∷ [] = search rules in
    let long : suc (length a.times.items) ≡ length c.push_reserved.new.self.items = omega (arith, ap length times, length_push a.times.items row.time) in (
      subst (λ columns. AreLong (length c.push_reserved.new.self.items) columns) (sym dimensions) (subst (λ n. AreLong n (with_values a.dimensions.items row.dimensions)) long (AreLong_lengthened (length a.times.items) a.dimensions.items row.dimensions wide.dimensions_are c.self.invariant.0)),
      subst (λ columns. AreLong (length c.push_reserved.new.self.items) columns) (sym metrics) (subst (λ n. AreLong n (with_values a.metrics.items row.metrics)) long (AreLong_lengthened (length a.times.items) a.metrics.items row.metrics wide.metrics_are c.self.invariant.1)),
      c.self.invariant.2,
      omega (arith, ap length dimensions, length_lengthened a.dimensions.items row.dimensions, c.self.invariant.3),
    )

pub returns-clause-ok : goal.returns-clause-ok
returns-clause-ok g c =
    let a = c.self.inside in
    let row = c.args.row.now in
    let wide : HasWidths (length a.dimensions.items) (length a.metrics.items) row = subst (λ (t : Table). HasWidths t.dimensions t.metrics row) (sym c.self.view_is) c.requires in
    let texts = c.in_ok-extend.ensures.texts ∙ ap (λ columns. with_values columns row.dimensions) c.deref_mut.ensures.value in
    let numbers = c.in_ok-extend.ensures.numbers ∙ ap (λ columns. with_values columns row.metrics) c.deref_mut-2.ensures.value in
    let d : a.dimensions.len ≡ length a.dimensions.items = search rules in
    let m : a.metrics.len ≡ length a.metrics.items = search rules in
    let dimensions = with_items_is a.dimensions c.extend.new.dimensions (ap length texts ∙ length_lengthened a.dimensions.items row.dimensions ∙ sym d) ∙ texts in
    let metrics = with_items_is a.metrics c.extend.new.metrics (ap length numbers ∙ length_lengthened a.metrics.items row.metrics ∙ sym m) ∙ numbers in
    let times : c.push_reserved.new.self.items ≡ a.times.items ++ row.time ∷ [] = search rules in
    (λ i. table_of (times i) (dimensions i) (metrics i)) ∙ table_push a.times.items a.dimensions.items a.metrics.items row c.self.invariant.0 c.self.invariant.1 wide ∙ ap (λ t. with_one_more t row) c.self.view_is
