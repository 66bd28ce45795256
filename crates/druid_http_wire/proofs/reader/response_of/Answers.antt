use Rattle.druid_http_message.specs.declared.fault.WireFault.TheVariants.{Cut}
use Rattle.druid_http_wire.proofs.ResponseLemmas.{lacking_head, response_head_faulty, of_bytes, body_cut, no_response_with}
use Rattle.druid_http_wire.proofs.reader.response_of.Goals as goal

pub returns-in-Err-clause-none : goal.returns-in-Err-clause-none
returns-in-Err-clause-none c = no_response_with _ c.in-Err.fault (lacking_head _ c.in-Err.fault c.in-Err.ensures.err) c.in-Err.ensures.never

pub returns-in-Err-parse_response_head-clause-err : goal.returns-in-Err-parse_response_head-clause-err
returns-in-Err-parse_response_head-clause-err c = response_head_faulty _ _ _ c.in-Err-parse_response_head.fault c.in-Ok.ensures.ok c.in-Err-parse_response_head.ensures.err

pub returns-in-Err-parse_response_head-clause-none : goal.returns-in-Err-parse_response_head-clause-none
returns-in-Err-parse_response_head-clause-none c =
    let has = response_head_faulty _ _ _ c.in-Err-parse_response_head.fault c.in-Ok.ensures.ok c.in-Err-parse_response_head.ensures.err in
    no_response_with _ c.in-Err-parse_response_head.fault has (of_bytes _ c.in-Err-parse_response_head.fault c.in-Err-parse_response_head.ensures.err)

pub returns-then-rest-parts-clause-err : goal.returns-then-rest-parts-clause-err
returns-then-rest-parts-clause-err c = body_cut _ _ _ c.in-Ok-parse_response_head.parts c.in-Ok.ensures.ok c.in-Ok-parse_response_head.ensures.ok c.if-rest-parts.true

pub returns-then-rest-parts-clause-none : goal.returns-then-rest-parts-clause-none
returns-then-rest-parts-clause-none c =
    no_response_with _ Cut (body_cut _ _ _ c.in-Ok-parse_response_head.parts c.in-Ok.ensures.ok c.in-Ok-parse_response_head.ensures.ok c.if-rest-parts.true) tt
