use Rattle.druid_segment_file.specs.Borrowed.{bytes_of}
use Rattle.std.proofs.Common.{rules}
use Rattle.std.specs.Prelude.{bytes_eq}
use Rattle.std.proofs.lemmas.Iterator.{YieldsList-from_slice}
use Rattle.std.proofs.lemmas.Iterator.Search.{any_from_yields_List}
use borrow.Author.Tests.{tests}
use Rattle.druid_segment_file.proofs.FieldLemmas.{any_text}
use Rattle.druid_segment_file.proofs.fields.is_among.Goals as goal

pub returns : goal.returns
returns c =
    any_text (bytes_eq c.args.name.now) c.args.names.now c.any.result
    (any_from_yields_List (λ other. bytes_eq c.args.name.now (bytes_of other)) _ _ c.any.result c.any.ensures.ran (YieldsList-from_slice c.args.names.now cc) (λ x b q k. search (rules, tests)))
