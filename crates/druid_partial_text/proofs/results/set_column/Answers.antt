use Rattle.std.proofs.Common.{rules}
use Rattle.druid_partial_text.proofs.NamedLemmas.{column_set}
use Rattle.druid_partial_text.proofs.results.set_column.Goals as goal

pub returns : goal.returns
returns c g = column_set g c.args.columns.now.entries c.insert.new.self.entries c.args.name.now c.in_ok-name.name c.args.column (search rules) (search rules)
