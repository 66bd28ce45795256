use Rattle.druid_time.proofs.TextLemmas.{instant_at-instant_text, extent_at-extent_text}
use Rattle.druid_time.proofs.laws.texts_are_read_back.Goals as goal

pub returns-clause-instants : goal.returns-clause-instants
returns-clause-instants c = instant_at-instant_text

pub returns-clause-intervals : goal.returns-clause-intervals
returns-clause-intervals c = extent_at-extent_text
