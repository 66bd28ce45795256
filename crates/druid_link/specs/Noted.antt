-- The exchange that a note of a `TcpLink` tells of.
use Rattle.druid_link.specs.Exchanged.{Exchanged}
use Rattle.druid_link.specs.Links.{came_of}
use Rattle.druid_link.specs.declared.log.ExchangeNote.{ExchangeNote}

abbrev pub exchange_of : ExchangeNote → Exchanged
exchange_of note = record { request = note.request.now; came = came_of note.came.now }
