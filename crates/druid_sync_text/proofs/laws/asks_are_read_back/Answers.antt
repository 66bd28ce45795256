use Rattle.druid_sync_text.proofs.AskBackLemmas.{ask_back, page_back, whole_back}
use Rattle.druid_sync_text.proofs.laws.asks_are_read_back.Goals as goal

pub returns-clause-whole : goal.returns-clause-whole
returns-clause-whole c = whole_back

pub returns-clause-since : goal.returns-clause-since
returns-clause-since c = ask_back

pub returns-clause-page : goal.returns-clause-page
returns-clause-page c = page_back
