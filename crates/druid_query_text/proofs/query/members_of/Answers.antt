use Rattle.std.proofs.Common.{codes, ap, ◌∙◌}
use Rattle.serde_json.specs.Data.{array, string, object, put, no_members}
use Rattle.serde_json.specs.View.{view, members_view}
use Rattle.serde_json.proofs.Views.{view-Array}
use Rattle.druid_query.specs.Written.{wanted_data, granularity_text, aggregations_data}
use Rattle.druid_query_text.specs.Members.{kind_text, dimensions_put}
use Rattle.druid_query_text.proofs.WrittenLemmas.{put_same, members_written}
use Rattle.druid_query_text.proofs.query.members_of.Goals as goal

pub returns : goal.returns
returns c =
    let q = c.args.query.now in
    let none = ap members_view c.new-members.ensures.empty in
    let all = view-Array c.in_ok-aggregations.aggregations ∙ ap array (c.in_ok-aggregations.ensures ∙ ap aggregations_data c.aggregations.ensures) in
    let aggregations = c.in_ok-put.ensures.ok ∙ put_same (codes "aggregations") _ (array (aggregations_data q.aggregations)) _ no_members all none in
    let source = c.in_ok-put-2.ensures.ok ∙ put_same (codes "dataSource") _ (string q.source) _ _ (c.in_ok-source.ensures ∙ ap string (c.as_str.ensures.value ∙ c.source.ensures)) aggregations in
    let dimensions = c.in_ok-put_dimensions.ensures ∙ ap (dimensions_put q.kind q.dimensions) source in
    let filter = c.in_ok-put-3.ensures.ok ∙ put_same (codes "filter") _ (wanted_data q.filter) _ _ (c.in_ok-filter.ensures ∙ ap wanted_data c.filter.ensures) dimensions in
    let granularity = c.in_ok-put-4.ensures.ok ∙ put_same (codes "granularity") _ (string (granularity_text q.granularity)) _ _ (c.in_ok-granularity.ensures ∙ ap string (c.granularity_text.ensures ∙ ap granularity_text c.granularity.ensures)) filter in
    let intervals = c.in_ok-put-5.ensures.ok ∙ ap (put (codes "intervals") (view c.args.intervals)) granularity in
    ap object (c.in_ok-put-6.ensures.ok ∙ put_same (codes "queryType") _ (string (kind_text q.kind)) _ _ (c.in_ok-kind.ensures ∙ ap string (c.kind_text.ensures ∙ ap kind_text c.kind.ensures.value)) intervals)
    ∙ members_written q.kind q (view c.args.intervals)
