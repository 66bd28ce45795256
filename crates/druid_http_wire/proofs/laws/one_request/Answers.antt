use Rattle.druid_http_wire.proofs.OnceLemmas.{one_request}
use Rattle.druid_http_wire.proofs.laws.one_request.Goals as goal

pub returns : goal.returns
returns c = one_request
