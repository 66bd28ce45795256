use Rattle.druid_laws_headline.proofs.SocketLemmas.{fetched_kept, kept_honest}
use Rattle.druid_laws_headline.proofs.laws.kept_exchanges_are_of_the_call.Goals as goal

pub returns-clause-kept : goal.returns-clause-kept
returns-clause-kept c = fetched_kept

pub returns-clause-honest : goal.returns-clause-honest
returns-clause-honest c = kept_honest
