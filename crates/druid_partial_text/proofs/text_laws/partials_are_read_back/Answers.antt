use Rattle.druid_partial_text.proofs.ReadBackLemmas.{partial_back}
use Rattle.druid_partial_text.proofs.text_laws.partials_are_read_back.Goals as goal

pub returns : goal.returns
returns c = partial_back
