use Rattle.druid_laws_world.proofs.NextLemmas.{marks_rise}
use Rattle.druid_laws_world.proofs.laws.marks_never_fall.Goals as goal

pub returns : goal.returns
returns c = marks_rise
