use Rattle.druid_http_wire.proofs.BackLemmas.{request_back}
use Rattle.druid_http_wire.proofs.laws.requests_are_read_back.Goals as goal

pub returns : goal.returns
returns c = request_back
