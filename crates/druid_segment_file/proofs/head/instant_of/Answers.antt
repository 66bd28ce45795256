use Rattle.std.proofs.Common.{ap, ◌∙◌, to_z, of_z}
use Rattle.std.specs.Int.{w64}
use Rattle.std.proofs.lemmas.Int.{to_z-of_z}
use Rattle.druid_segment_file.specs.Parts.{instant_of}
use Rattle.druid_segment_file.proofs.MomentLemmas.{instant_made}
use Rattle.druid_segment_file.proofs.head.instant_of.Goals as goal

pub returns : goal.returns
returns c =
    instant_made (to_z w64 (of_z w64 c.args.ms)) c.new.result c.new.ensures.valid c.new.ensures.value c.new.ensures.range
    ∙ ap instant_of (to_z-of_z w64 c.args.ms c.ranges.ms)
