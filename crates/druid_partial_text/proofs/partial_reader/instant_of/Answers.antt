use Rattle.std.proofs.Common.{rules}
use Rattle.druid_partial_text.proofs.ReadLemmas.{instant_new}
use Rattle.druid_partial_text.proofs.partial_reader.instant_of.Goals as goal

pub returns : goal.returns
returns c = instant_new c.new.result c.args.ms (search rules) (search rules) (search rules)
