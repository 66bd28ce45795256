use Rattle.std.proofs.Common.{sym, ◌∙◌}
use Rattle.druid_http_wire.proofs.WriteLemmas.{sent_as}
use Rattle.druid_http_wire.proofs.server.send_response.Goals as goal

pub returns-in-Ok-clause-ok : goal.returns-in-Ok-clause-ok
returns-in-Ok-clause-ok g c = record {
  written = rw (sym c.status-status.ensures, sym c.pieces-pieces.ensures) c.in-Ok.ensures.ok;
  status_is = rw (sym c.status-status.ensures, sym c.pieces-pieces.ensures) (c.status_sent.ensures ∙ sent_as _ _ _ c.length_of-count.ensures);
}

pub returns-in-Err-clause-err : goal.returns-in-Err-clause-err
returns-in-Err-clause-err g c = record { front = rw (sym c.status-status.ensures, sym c.pieces-pieces.ensures) c.in-Err.ensures.err; reported = c.in-Err.ensures.faults }
