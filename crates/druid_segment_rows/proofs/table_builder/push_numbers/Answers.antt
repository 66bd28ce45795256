use Rattle.std.proofs.Common.{None, take, sym, arith, length, ◌<◌}
use Rattle.druid_segment_rows.proofs.NumberingLemmas.{on_err}
use Rattle.druid_segment_rows.proofs.GrowLemmas.{lengthened_none, lengthened_more, cut_unchanged}
use Rattle.druid_segment_rows.proofs.table_builder.push_numbers.Goals as goal

pub loop-place-init : goal.loop-place-init
loop-place-init c = sym (lengthened_none c.args.columns.now)

pub returns-in_err-push-clause-err : goal.returns-in_err-push-clause-err
returns-in_err-push-clause-err c =
    on_err c.from_residual.result (cut_unchanged c.args.columns.now c.loop-place.columns (take c.loop-place.place c.args.values.now) c.loop-place.place c.push.new.self c.index-columns-place.result c.loop-place.invariant c.in_err-push.ensures.err)

pub loop-place-preserved : goal.loop-place-preserved
loop-place-preserved c =
    let within : c.loop-place.place < length c.args.values.now = omega (arith, c.loop-place-test.true, c.requires) in
    lengthened_more c.args.columns.now c.loop-place.columns c.args.values.now c.loop-place.place c.push.new.self c.index-columns-place.result None c.loop-place-test.true within c.loop-place.invariant c.in_ok-push.ensures.ok
