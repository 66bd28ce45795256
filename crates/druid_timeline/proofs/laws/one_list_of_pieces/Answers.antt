use Rattle.druid_timeline.proofs.RunsLemmas.{ArePiecesIn-one_list}
use Rattle.druid_timeline.proofs.laws.one_list_of_pieces.Goals as goal

pub returns-clause-cut : goal.returns-clause-cut
returns-clause-cut c parts held ps qs hp hq = ArePiecesIn-one_list hp hq

pub returns-clause-whole : goal.returns-clause-whole
returns-clause-whole c held ps qs hp hq = ArePiecesIn-one_list hp hq
