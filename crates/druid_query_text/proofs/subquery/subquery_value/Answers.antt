use Rattle.std.proofs.Common.{codes, refl, ap, ◌∙◌}
use Rattle.serde_json.specs.Data.{array, object}
use Rattle.serde_json.specs.View.{view, members_view}
use Rattle.serde_json.proofs.Views.{view-Array, view-Object}
use Rattle.druid_query.specs.SubQuery.{segments_data}
use Rattle.druid_query.specs.Written.{intervals_data, kinded_data}
use Rattle.druid_query_text.proofs.WrittenLemmas.{put_same, sub_written}
use Rattle.druid_query_text.proofs.subquery.subquery_value.Goals as goal

pub returns : goal.returns
returns c =
    let sub = c.args.subquery.now in
    let q = sub.query in
    let members = members_view c.in_ok-members.members.entries in
    let own = view-Array c.in_ok-intervals.intervals ∙ ap array (c.in_ok-intervals.ensures ∙ ap intervals_data (c.intervals.ensures ∙ ap (λ x. x.intervals) c.query-query.ensures)) in
    let written = c.in_ok-members.ensures ∙ ap (λ x. kinded_data x.kind x (view c.in_ok-segments.segments)) c.query-query.ensures ∙ ap (kinded_data q.kind q) (c.in_ok-segments.ensures ∙ ap segments_data c.asked.ensures) in
    view-Object c.put.new.map
    ∙ ap object (c.in_ok-put.ensures.ok ∙ put_same (codes "queryIntervals") _ (array (intervals_data q.intervals)) members members own refl)
    ∙ sub_written q.kind q (segments_data sub.asked) members written
