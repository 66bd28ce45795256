use Rattle.std.proofs.lemmas.Result.{IfErr-weaker}
use Rattle.druid_http_wire.specs.Messages.{RequestSays}
use Rattle.druid_http_wire.proofs.MessageLemmas.{bodiless, request_said}
use Rattle.druid_http_wire.proofs.ResponseLemmas.{request_head_faulty}
use Rattle.druid_http_wire.proofs.TakenLemmas.{message_takes, body_refused, memory_refused, request_within}
use Rattle.druid_http_wire.proofs.reader.read_request.Goals as goal

pub returns-in-Err-parse_request_head-clause-err : goal.returns-in-Err-parse_request_head-clause-err
returns-in-Err-parse_request_head-clause-err g c =
    request_head_faulty _ _ c.deref.result.now _ c.in-Err-parse_request_head.fault c.in-Ok.ensures.ok c.deref.ensures.value c.in-Err-parse_request_head.ensures.err

pub returns-in-Err-take_body-clause-err : goal.returns-in-Err-take_body-clause-err
returns-in-Err-take_body-clause-err g c =
    bodiless RequestSays _ _ c.deref.result.now _ c.in-Ok-parse_request_head.parts.length c.in-Err-take_body.fault c.in-Ok.ensures.ok c.deref.ensures.value
    (request_said _ c.in-Ok-parse_request_head.parts c.in-Ok-parse_request_head.ensures.ok) c.in-Err-take_body.ensures.err

pub returns-in-Err-take_body-clause-taken : goal.returns-in-Err-take_body-clause-taken
returns-in-Err-take_body-clause-taken g c =
    message_takes c.in-Ok-parse_request_head.parts.length _ _ _ _ c.in-Ok.ensures.ok c.take_body.ensures.taken (request_within _ c.in-Ok-parse_request_head.parts c.in-Ok-parse_request_head.ensures.ok)

pub returns-in-Err-take_body-clause-refused : goal.returns-in-Err-take_body-clause-refused
returns-in-Err-take_body-clause-refused g c =
    body_refused c.in-Ok-parse_request_head.parts.length c.in-Err-take_body.fault _ _ _ _ c.in-Ok.ensures.ok c.take_body.ensures.taken (request_within _ c.in-Ok-parse_request_head.parts c.in-Ok-parse_request_head.ensures.ok) c.in-Err-take_body.ensures.err

pub returns-clause-taken : goal.returns-clause-taken
returns-clause-taken g c = message_takes c.in-Ok-parse_request_head.parts.length _ _ _ _ c.in-Ok.ensures.ok c.take_body.ensures.taken (request_within _ c.in-Ok-parse_request_head.parts c.in-Ok-parse_request_head.ensures.ok)

pub returns-clause-refused : goal.returns-clause-refused
returns-clause-refused g c =
    IfErr-weaker c.request_of.result _ _
    (λ fault is. memory_refused c.in-Ok-parse_request_head.parts.length fault _ _ _ _ is c.in-Ok.ensures.ok c.take_body.ensures.taken (request_within _ c.in-Ok-parse_request_head.parts c.in-Ok-parse_request_head.ensures.ok)) c.request_of.ensures.err
