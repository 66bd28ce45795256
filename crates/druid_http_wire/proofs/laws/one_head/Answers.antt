use Rattle.druid_http_wire.proofs.FramedLemmas.{one_head, not_cut, not_long}
use Rattle.druid_http_wire.proofs.laws.one_head.Goals as goal

pub returns-clause-one : goal.returns-clause-one
returns-clause-one c = one_head

pub returns-clause-whole : goal.returns-clause-whole
returns-clause-whole c = not_cut

pub returns-clause-short : goal.returns-clause-short
returns-clause-short c = not_long
