use Rattle.std.proofs.Common.{◌≡◌, ◌∙◌, ◌∷◌, ◌++◌, [], None, get_or, option_map, take, ap, sym, arith, length, ◌<◌}
use Rattle.std.proofs.lemmas.List.{length-map, get_or-map}
use Rattle.druid_segment_rows.specs.Rows.{texts_by}
use Rattle.druid_segment_rows.proofs.NumberingLemmas.{on_err}
use Rattle.druid_segment_rows.proofs.GrowLemmas.{lengthened_none, lengthened_more, cut_unchanged}
use Rattle.druid_segment_rows.proofs.table_builder.push_texts.Goals as goal

pub loop-place-init : goal.loop-place-init
loop-place-init g c = sym (lengthened_none c.args.columns.now)

pub returns-in_err-push_text-clause-err : goal.returns-in_err-push_text-clause-err
returns-in_err-push_text-clause-err g c =
    on_err c.from_residual.result (cut_unchanged c.args.columns.now c.loop-place.columns (take c.loop-place.place (texts_by g.T.AsStr.text c.args.values.now)) c.loop-place.place c.push_text.new.column c.index-columns-place.result c.loop-place.invariant c.in_err-push_text.ensures.err)

pub loop-place-preserved : goal.loop-place-preserved
loop-place-preserved g c =
    let text = g.T.AsStr.text in
    let values = c.args.values.now in
    let i = c.loop-place.place in
    let v = c.index-values-place.result in
    let within : i < length values = omega (arith, c.loop-place-test.true, c.requires) in
    let inside : i < length (texts_by text values) = omega (arith, within, length-map values (option_map text)) in
    let here : option_map text v ≡ get_or (texts_by text values) i None = ap (option_map text) c.index-values-place.is ∙ sym (get_or-map (option_map text) values i v None within) in
    let column = c.in_ok-push_text.ensures.ok ∙ ap (λ x. get_or c.loop-place.columns i c.index-columns-place.result ++ x ∷ []) here in
    lengthened_more c.args.columns.now c.loop-place.columns (texts_by text values) i c.push_text.new.column c.index-columns-place.result None c.loop-place-test.true inside c.loop-place.invariant column
