use Rattle.druid_laws_headline.proofs.SocketLemmas.{kept_of_query}
use Rattle.druid_laws_headline.proofs.laws.kept_exchanges_are_of_the_query.Goals as goal

pub returns : goal.returns
returns c = kept_of_query
