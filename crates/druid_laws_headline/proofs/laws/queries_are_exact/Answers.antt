use Rattle.std.proofs.Common.{map}
use Rattle.druid_inventory.specs.Entry.{fresh}
use Rattle.druid_laws_headline.proofs.FoldLemmas.{of_world}
use Rattle.druid_laws_headline.proofs.HeadlineLemmas.{exact_answer}
use Rattle.druid_laws_headline.proofs.laws.queries_are_exact.Goals as goal

pub returns : goal.returns
returns g c order world names seen now request asked old new status body valid long honest posted responds =
    exact_answer g.L.Link.exchanges order world (map fresh names) seen now request asked old new status body (of_world world names now valid long honest) posted responds
