use Rattle.druid_time.proofs.CivilLemmas.{IsCivil-civil_of, instant_of-civil_of, IsInstant-instant_of, civil_of-instant_of, instant_of-1970}
use Rattle.druid_time.proofs.laws.calendar_is_exact.Goals as goal

pub returns-clause-instants : goal.returns-clause-instants
returns-clause-instants c t h = (IsCivil-civil_of t h, instant_of-civil_of t h)

pub returns-clause-dates : goal.returns-clause-dates
returns-clause-dates c date h = (IsInstant-instant_of date h, civil_of-instant_of date h)

pub returns-clause-epoch : goal.returns-clause-epoch
returns-clause-epoch c = instant_of-1970
