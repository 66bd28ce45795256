use Rattle.druid_time.proofs.TextLemmas.{slice_cmp-instant_text}
use Rattle.druid_time.proofs.laws.texts_keep_order.Goals as goal

pub returns : goal.returns
returns c = slice_cmp-instant_text
