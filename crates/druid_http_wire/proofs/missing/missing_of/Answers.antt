use Rattle.druid_http_wire.proofs.MissingLemmas.{refused}
use Rattle.druid_http_wire.proofs.missing.missing_of.Goals as goal

pub returns-in-Err-parse_request_head : goal.returns-in-Err-parse_request_head
returns-in-Err-parse_request_head c = refused _ _ _ c.in-Err-parse_request_head.field-0 c.in-Ok.ensures.ok c.in-Err-parse_request_head.ensures.err
