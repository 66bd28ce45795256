use Rattle.std.proofs.Common.{rules}
use Rattle.druid_segment_descriptor.specs.Described.{IsDescribed}
use Rattle.druid_sync_text.proofs.TextLemmas.{each_more}
use Rattle.druid_laws_tests.proofs.nodes.describe_all.Goals as goal

pub loop-i-preserved : goal.loop-i-preserved
loop-i-preserved c =
    each_more IsDescribed c.args.segments.now c.loop-i.i c.index-segments-i.result (search rules) (search rules) (search rules) c.loop-i.invariant
