use Rattle.std.proofs.Common.{ap, length, arith}
use Rattle.druid_http_wire.proofs.WriteLemmas.{lacks_request}
use Rattle.druid_http_wire.proofs.writer.write_request.Goals as goal

pub returns-in-Err-clause-err : goal.returns-in-Err-clause-err
returns-in-Err-clause-err g c =
    lacks_request c.args.request.now _ _ c.write_fault.result (omega (arith, c.if-body-gt-MAX_BODY.false, ap length c.body.ensures)) c.write_fault.ensures.fault c.in-Err.ensures.err
