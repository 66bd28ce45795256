use Rattle.druid_time.specs.Texts.{civil_parts}
use Rattle.druid_time.proofs.CivilLemmas.{civil_same}
use Rattle.druid_time.proofs.civil.Civil.read.Goals as goal

pub returns : goal.returns
unfolding civil_parts
returns c =
    civil_same _ _ c.number.ensures c.number-2.ensures c.number-3.ensures c.number-4.ensures c.number-5.ensures c.number-6.ensures c.number-7.ensures
