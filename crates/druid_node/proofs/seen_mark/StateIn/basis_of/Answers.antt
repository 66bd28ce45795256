use Rattle.std.proofs.Common.{rules}
use Rattle.druid_node.proofs.seen_mark.StateIn.basis_of.Goals as goal

pub returns-clause-from : goal.returns-clause-from
returns-clause-from g c = (c.args.self.now, c.basis_of.new.self, search rules, search rules)
