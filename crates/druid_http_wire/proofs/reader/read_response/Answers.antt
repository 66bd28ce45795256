use Rattle.druid_http_wire.specs.Messages.{ResponseSays}
use Rattle.druid_http_wire.proofs.MessageLemmas.{bodiless, response_said}
use Rattle.druid_http_wire.proofs.TakenLemmas.{message_takes, body_refused, response_within}
use Rattle.druid_http_wire.proofs.reader.read_response.Goals as goal

pub returns-in-Err-take_body-clause-err : goal.returns-in-Err-take_body-clause-err
returns-in-Err-take_body-clause-err g c =
    bodiless ResponseSays _ _ c.deref.result.now _ c.in-Ok-parse_response_head.parts.length c.in-Err-take_body.fault c.in-Ok.ensures.ok c.deref.ensures.value
    (response_said _ c.in-Ok-parse_response_head.parts c.in-Ok-parse_response_head.ensures.ok) c.in-Err-take_body.ensures.err

pub returns-in-Err-take_body-clause-taken : goal.returns-in-Err-take_body-clause-taken
returns-in-Err-take_body-clause-taken g c =
    message_takes c.in-Ok-parse_response_head.parts.length _ _ _ _ c.in-Ok.ensures.ok c.take_body.ensures.taken (response_within _ c.in-Ok-parse_response_head.parts c.in-Ok-parse_response_head.ensures.ok)

pub returns-in-Err-take_body-clause-refused : goal.returns-in-Err-take_body-clause-refused
returns-in-Err-take_body-clause-refused g c =
    body_refused c.in-Ok-parse_response_head.parts.length c.in-Err-take_body.fault _ _ _ _ c.in-Ok.ensures.ok c.take_body.ensures.taken (response_within _ c.in-Ok-parse_response_head.parts c.in-Ok-parse_response_head.ensures.ok) c.in-Err-take_body.ensures.err

pub returns-clause-taken : goal.returns-clause-taken
returns-clause-taken g c = message_takes c.in-Ok-parse_response_head.parts.length _ _ _ _ c.in-Ok.ensures.ok c.take_body.ensures.taken (response_within _ c.in-Ok-parse_response_head.parts c.in-Ok-parse_response_head.ensures.ok)
