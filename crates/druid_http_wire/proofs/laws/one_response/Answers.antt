use Rattle.druid_http_wire.proofs.OnceLemmas.{one_response}
use Rattle.druid_http_wire.proofs.laws.one_response.Goals as goal

pub returns : goal.returns
returns c = one_response
