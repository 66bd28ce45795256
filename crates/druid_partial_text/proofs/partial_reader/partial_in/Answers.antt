use Rattle.std.proofs.Common.{◌≡◌, All, rules, Some, sym, subst}
use Rattle.std.specs.List.Sorted.{IsPermutation}
use Rattle.serde_json.specs.View.{items_view}
use Rattle.druid_base.specs.Each.{each_of}
use Rattle.druid_partial.specs.Groups.{InOrder}
use Rattle.druid_partial.specs.Partials.{kinds_of, Partial, IsPartialFor}
use Rattle.druid_partial_text.specs.Read.{group_at}
use Rattle.druid_partial_text.specs.Borrowed.{AreRows, HasWords}
use Rattle.druid_partial_text.proofs.MadeLemmas.{reported_for, reported_valid}
use Rattle.druid_partial_text.proofs.partial_reader.partial_in.Goals as goal

pub new-requires : goal.new-requires
new-requires c =
    let items = items_view c.args.rows.now in
    let made = c.in_ok-groups.groups.items in
    let groups = c.in-Some.groups.items in
    let rows : AreRows c.args.query.now items = search rules in
    let read : each_of group_at items ≡ Some made = search rules in
    let moved : IsPermutation made groups = search rules in
    let ordered : InOrder groups = search rules in
    let is : c.in_ok-kinds.kinds.items ≡ kinds_of c.args.query.now = search rules in
    let words : All HasWords made = search rules in
    reported_valid c.args.query.now items c.in_ok-kinds.kinds.items made groups rows read moved ordered words is

pub returns-in-Some-clause-of_query : goal.returns-in-Some-clause-of_query
returns-in-Some-clause-of_query c =
    let items = items_view c.args.rows.now in
    let made = c.in_ok-groups.groups.items in
    let groups = c.in-Some.groups.items in
    let rows : AreRows c.args.query.now items = search rules in
    let read : each_of group_at items ≡ Some made = search rules in
    let moved : IsPermutation made groups = search rules in
    let is : c.in_ok-kinds.kinds.items ≡ kinds_of c.args.query.now = search rules in
    let for : IsPartialFor c.args.query.now (record { kinds = c.in_ok-kinds.kinds.items; groups = groups }) = reported_for c.args.query.now items c.in_ok-kinds.kinds.items made groups rows read moved is in
    subst (λ (p : Partial). IsPartialFor c.args.query.now p) (sym c.new.ensures) for
