use Rattle.druid_http_wire.proofs.OnceLemmas.{response_faults}
use Rattle.druid_http_wire.proofs.laws.responses_have_no_fault.Goals as goal

pub returns : goal.returns
returns c = response_faults
