use Rattle.std.proofs.Common.{rules}
use Rattle.druid_partial_text.proofs.SpeltLemmas.{spells_bucket}
use Rattle.druid_partial_text.proofs.whole_answer.bucket_in.Goals as goal

pub returns-then-is_bucket-clause-spells : goal.returns-then-is_bucket-clause-spells
returns-then-is_bucket-clause-spells c =
    spells_bucket c.args.reader.now c.next.new.self c.in-Some-Number.text.now _ c.in_ok-bucket.bucket (search rules) c.in_ok-ms.ensures (search rules)
