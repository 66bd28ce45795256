use Rattle.std.proofs.Common.{arith}
use Rattle.druid_partial_scan.specs.declared.field_sources.NumberSource.TheVariants as sources
use Rattle.druid_partial_scan.proofs.SourceLemmas.{numbers_more}
use Rattle.druid_partial_scan.proofs.field_sources.numbers_of.Goals as goal

pub loop-source-preserved : goal.loop-source-preserved
loop-source-preserved c =
    numbers_more c.args.segment.now c.args.sources.now c.loop-source.source-index sources.One c.loop-source.numbers.items c.push.new.self.items c.numbers_from.result
    (omega arith) c.loop-source.invariant c.numbers_from.ensures c.in_ok-push.ensures.items
