use Rattle.std.proofs.Common.{◌∙◌, sym}
use Rattle.druid_partial_scan.proofs.TextLemmas.{text_there}
use Rattle.druid_partial_scan.proofs.texts.is_at.Goals as goal

pub returns-clause-there : goal.returns-clause-there
returns-clause-there c = λ t. text_there c.args.texts.now c.args.place _ c.args.text.now c.if-place-texts.false (sym c.eq.ensures ∙ t)
