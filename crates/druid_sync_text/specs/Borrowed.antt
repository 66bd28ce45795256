-- What the reader borrows of a reply: only proofs use this.
use Rattle.serde_json.specs.View.{view, items_view}
use Rattle.druid_segment_descriptor.specs.declared.change.Change.{Change}
use Rattle.druid_segment_descriptor.specs.declared.change.Change.TheVariants.{Load, Drop}
use Rattle.druid_sync_text.specs.Read.{Five}
use Rattle.druid_sync_text.specs.declared.reply_reader.Borrowed.{Borrowed}
use Rattle.druid_sync_text.specs.declared.reply_reader.ChangeRef.{ChangeRef}
use Rattle.druid_sync_text.specs.declared.reply_reader.ChangeRef.TheVariants as borrowed

-- its five fields
abbrev pub five_borrowed : Borrowed → Five
five_borrowed a = record {
  at = a.at;
  from = view a.from.now;
  requests = items_view a.requests.now;
  cause = view a.cause.now;
  reset = a.reset;
}

-- a change
abbrev pub change_borrowed : ChangeRef → Change
change_borrowed (borrowed.Load segment) = Load segment
change_borrowed (borrowed.Drop segment) = Drop segment
