use Rattle.druid_sync_pages.proofs.SetLemmas.{is_page_of}
use Rattle.druid_sync_pages.proofs.laws.pages_fit_replies.Goals as goal

pub returns : goal.returns
returns c = is_page_of
