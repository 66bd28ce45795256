use Rattle.druid_timeline.proofs.CutLemmas.{ArePiecesIn-cut}
use Rattle.druid_timeline.proofs.laws.cut_is_the_pieces_within.Goals as goal

pub returns : goal.returns
returns c parts held ps whole h = ArePiecesIn-cut parts held ps whole h
