use Rattle.std.proofs.Common.{◌↔◌, IsTrue, All, string_bytes, rules}
use Rattle.druid_segment_rows.specs.Names.{IsFieldName}
use Rattle.druid_segment_rows.proofs.EachLemmas.{All-mapped}
use Rattle.druid_segment_rows.proofs.schema.are_field_names.Goals as goal

pub returns : goal.returns
returns c =
    let names = c.args.names.now in
    let each : IsTrue c.all.result ↔ All (λ name. IsFieldName (string_bytes name)) names = search rules in
    let mapped = All-mapped IsFieldName string_bytes names in
    (λ yes. mapped.1 (each.0 yes), λ all. each.1 (mapped.0 all))
