use Rattle.druid_partial_scan.proofs.TextLemmas.{plain_codes}
use Rattle.druid_partial_scan.proofs.column.Column.new.Goals as goal

pub returns : goal.returns
returns c = (λ i. record { size = c.args.size; codes = plain_codes c.args.codes i })
