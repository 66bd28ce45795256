use Rattle.druid_segment_rows.proofs.ColumnLemmas.{IsDictionary_unique, one_code}
use Rattle.druid_segment_rows.proofs.laws.values_have_one_dictionary.Goals as goal

pub returns-clause-dictionary : goal.returns-clause-dictionary
returns-clause-dictionary c = IsDictionary_unique

pub returns-clause-code : goal.returns-clause-code
returns-clause-code c = one_code
