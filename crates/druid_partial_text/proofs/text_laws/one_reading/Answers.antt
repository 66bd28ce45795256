use Rattle.druid_partial_text.proofs.ReadBackLemmas as back
use Rattle.druid_partial_text.proofs.text_laws.one_reading.Goals as goal

pub returns : goal.returns
returns c = back.one_reading
