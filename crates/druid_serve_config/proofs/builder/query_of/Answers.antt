use Rattle.std.proofs.Common.{◌∙◌, ap, Some, string_bytes, sym}
use Rattle.serde_json.specs.Read.{max_depth}
use Rattle.serde_json.specs.View.{view}
use Rattle.druid_serve_config.specs.Configs.{asked_of}
use Rattle.druid_serve_config.proofs.DepthLemmas.{object_shallow, text_compact, query_built}
use Rattle.druid_serve_config.proofs.builder.query_of.Goals as goal

pub new-requires : goal.new-requires
new-requires c =
    let q = view c.in-Some-object_field.query.now in
    let reads = c.in_ok-text.ensures.reads_back (object_shallow (view c.args.value.now) q max_depth (sym c.in-Some-object_field.ensures) c.requires.shallow) in
    text_compact q (string_bytes c.in_ok-text.text) reads c.in_ok-text.ensures.text

pub returns : goal.returns
returns c =
    let q = view c.in-Some-object_field.query.now in
    let reads = c.in_ok-text.ensures.reads_back (object_shallow (view c.args.value.now) q max_depth (sym c.in-Some-object_field.ensures) c.requires.shallow) in
    query_built c.args.brokers (view c.args.value.now) q c.in-Some.broker (string_bytes c.in_ok-text.text) c.in-Some.ensures c.in-Some-object_field.ensures reads
    ∙ ap (λ p. Some (asked_of p)) (sym c.new.ensures)
