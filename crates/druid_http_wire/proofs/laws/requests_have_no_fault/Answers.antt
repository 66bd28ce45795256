use Rattle.druid_http_wire.proofs.OnceLemmas.{request_faults}
use Rattle.druid_http_wire.proofs.laws.requests_have_no_fault.Goals as goal

pub returns : goal.returns
returns c = request_faults
