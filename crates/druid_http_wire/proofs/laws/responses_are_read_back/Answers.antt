use Rattle.druid_http_wire.proofs.BackLemmas.{response_back}
use Rattle.druid_http_wire.proofs.laws.responses_are_read_back.Goals as goal

pub returns : goal.returns
returns c = response_back
