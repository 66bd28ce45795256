use Rattle.std.proofs.Common.{rules}
use Rattle.druid_serve_node.specs.Looks.{IsTried}
use Rattle.druid_serve_node.proofs.WatchLemmas.{fold_more, both}
use Rattle.druid_serve_node.proofs.watch.Watch.try_files.Goals as goal

pub loop-name-preserved : goal.loop-name-preserved
loop-name-preserved g c = record {
  tried =
      both c.loop-name.tried c.try_file-last.result c.and-tried.result c.and-tried.ensures
      (fold_more (IsTried g.I.Incarnation.number c.args.look) c.args.names.now c.loop-name.name-index c.name-item.result c.args.self.now c.loop-name.self c.try_file-last.new.self _ c.loop-name-test.true c.name-item.is c.as_str.ensures.value)
      c.loop-name.invariant.tried c.try_file-last.ensures.tried;
  risen = search rules;
  own = search rules;
  content = search rules;
  honest = search rules;
}
