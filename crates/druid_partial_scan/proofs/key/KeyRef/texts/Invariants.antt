use Rattle.std.proofs.Common.{◌≡◌, take}
use Rattle.druid_segment_rows.specs.Rows.{nullable_texts_of}
use Rattle.druid_partial_scan.proofs.KeyLemmas.{borrowed}
use Rattle.druid_partial_scan.proofs.key.KeyRef.texts.Given as goal

abbrev pub invariant-loop-value : goal.invariant-loop-value
invariant-loop-value l = nullable_texts_of l.texts.items ≡ borrowed (take l.value-index l.value-items)
