use Rattle.druid_segment_id.proofs.GroupLemmas.{Outranks-cases, Outranks-one_way, Outranks-onward}
use Rattle.druid_segment_id.proofs.laws.ranks_are_total.Goals as goal

pub returns-clause-one_outranks : goal.returns-clause-one_outranks
returns-clause-one_outranks c = Outranks-cases

pub returns-clause-one_way : goal.returns-clause-one_way
returns-clause-one_way c = Outranks-one_way

pub returns-clause-onward : goal.returns-clause-onward
returns-clause-onward c = Outranks-onward
