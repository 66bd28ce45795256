use Rattle.std.proofs.Common.{take}
use Rattle.druid_partial_scan.specs.Scans.{AreNumbers}
use Rattle.druid_partial_scan.proofs.field_sources.numbers_of.Given as goal

abbrev pub invariant-loop-source : goal.invariant-loop-source
invariant-loop-source l = AreNumbers l.segment (take l.source-index l.sources) l.numbers.items
