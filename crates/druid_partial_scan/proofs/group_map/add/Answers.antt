use Rattle.std.proofs.Common.{◌≡◌, ◌∙◌, ap, sym, Vec, Global, Option, ℤ, arith}
use Rattle.std.specs.BTreeMap.{BTreeMap, insert_entry}
use Rattle.std.specs.Vec.{with_items}
use Rattle.druid_partial.specs.Groups.{Key, key_cmp}
use Rattle.druid_partial.specs.Joined.{join_numbers}
use Rattle.druid_partial.proofs.JoinLemmas.{written_is}
use Rattle.druid_partial_scan.proofs.EntryLemmas.{inserted, written}
use Rattle.druid_partial_scan.proofs.group_map.add.Goals as goal

pub returns-in-Some : goal.returns-in-Some
returns-in-Some c =
    let kinds = c.args.kinds.now in
    let joined : c.join_numbers.new.mine ≡ join_numbers kinds c.args.numbers.items c.in-Some.held.now.items =
    c.join_numbers.ensures ∙ ap (λ l. join_numbers kinds l c.deref.result.now) c.deref_mut.ensures.value
    ∙ ap (join_numbers kinds c.args.numbers.items) c.deref.ensures.value in
    rw (c.get_mut.follows.holds (with_items c.args.numbers c.join_numbers.new.mine)).0
    (written kinds c.args.found.now.entries c.args.key c.args.numbers.items c.in-Some.held.now (with_items c.args.numbers c.join_numbers.new.mine)
    c.len.ensures.ordered (sym c.in-Some.ensures.value)
    (written_is c.args.numbers.len c.join_numbers.new.mine c.args.numbers.items (let a = c.join_numbers.auto.mine in let b = c.deref_mut.ensures.len in omega arith) ∙ joined))

pub returns : goal.returns
returns c =
    let new : c.insert.new.self.entries ≡ insert_entry key_cmp c.args.found.now.entries c.args.key c.args.numbers =
    c.in_ok-insert.ensures.entries
    ∙ ap (λ (m : BTreeMap Key (Vec (Option ℤ) Global)). insert_entry key_cmp m.entries c.args.key c.args.numbers) c.get_mut.follows.holds-at-none in
    rw new (inserted c.args.kinds.now c.args.found.now.entries c.args.key c.args.numbers (sym c.in_default.ensures.value))
