use Rattle.std.proofs.Common.{◌≡◌, take}
use Rattle.druid_segment_rows.specs.Rows.{texts_of}
use Rattle.druid_segment_file.specs.Borrowed.{texts_borrowed}
use Rattle.druid_segment_file.proofs.fields.strings.Given as goal

abbrev pub invariant-loop-name : goal.invariant-loop-name
invariant-loop-name l = texts_of l.strings.items ≡ texts_borrowed (take l.name-index l.names)
