use Rattle.std.proofs.Common.{rules}
use Rattle.druid_serve_node.specs.Looks.{IsGone}
use Rattle.druid_serve_node.proofs.WatchLemmas.{fold_more}
use Rattle.druid_serve_node.proofs.watch.Watch.forget_files.Goals as goal

pub loop-name-preserved : goal.loop-name-preserved
loop-name-preserved g c = record {
  gone =
      fold_more (IsGone g.I.Incarnation.number) c.args.names.now c.loop-name.name-index c.name-item.result c.args.self.now c.loop-name.self c.forget.new.self _ c.loop-name-test.true c.name-item.is c.as_str.ensures.value c.loop-name.invariant.gone c.forget.ensures.gone;
  risen = search rules;
  own = search rules;
}
