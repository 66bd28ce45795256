use Rattle.druid_http_wire.proofs.GrammarLines.{request_bare, response_bare}
use Rattle.druid_http_wire.proofs.laws.heads_are_framed.Goals as goal

pub returns-clause-requests : goal.returns-clause-requests
returns-clause-requests c = request_bare

pub returns-clause-responses : goal.returns-clause-responses
returns-clause-responses c = response_bare
