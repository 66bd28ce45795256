use Rattle.druid_query_slice_text.proofs.BackLemmas.{asked_back}
use Rattle.druid_query_slice_text.proofs.laws.asked_are_read_back.Goals as goal

pub returns : goal.returns
returns c = asked_back
