use Rattle.druid_laws_headline.proofs.HonestLemmas.{honest_in_turn}
use Rattle.druid_laws_headline.proofs.laws.nodes_are_honest.Goals as goal

pub returns : goal.returns
returns c state next query asked node status body segments valid is pieces =
    honest_in_turn state next query asked node status body segments is pieces valid.words
