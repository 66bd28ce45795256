use Rattle.std.proofs.Common.{◌≡◌, take, arith, ap, sym, subst, ◌∙◌}
use Rattle.std.specs.Option.{IsSome}
use Rattle.std.proofs.lemmas.List.{take_all}
use Rattle.std.proofs.lemmas.Option.{same_Some}
use Rattle.druid_segment_id.specs.Identifier.{Identifier}
use Rattle.druid_segment_descriptor.specs.Described.{Described}
use Rattle.druid_segment_descriptor.specs.Replay.{after, replay_from}
use Rattle.druid_segment_descriptor.proofs.ReplayLemmas.{replay_from-set}
use Rattle.druid_inventory.specs.Timelines.{ServesWith}
use Rattle.druid_inventory.specs.Transactions.{edited, AreAfter}
use Rattle.druid_inventory.proofs.ReplayedLemmas.{replayed-next}
use Rattle.druid_inventory.proofs.TransactionLemmas.{AreAfter-made, AreBefore-goes, edit_taken}
use Rattle.druid_inventory.proofs.transactions.edit_each.Goals as goal

pub change_edited-requires : goal.change_edited-requires
change_edited-requires c =
    let entries = c.requires.0 in
    let s = c.requires.1 in
    let t = c.requires.2 in
    let u = c.loop-change.invariant.after entries s t c.requires.3 c.requires.4 c.requires.5 in
    let next = replayed-next s u.0 t c.args.changes.now c.loop-change.change-index c.change-item.result c.requires.4 u.1 c.loop-change-test.true c.change-item.is in
    let same = c.source.ensures.value ∙ ap (λ (id : Identifier). id.source) (c.id.ensures.value ∙ ap (λ (d : Described). d.id) c.segment_of.ensures) in
    edit_taken entries c.args.node u.0 c.change-item.result c.begin.new.timelines c.begin.new.edits
    (c.begin.ensures.after entries c.args.node u.0 u.2) next.0
    (subst (λ x. IsSome (edited c.begin.new.edits x)) same c.in_ok-begin.ensures.ok)

pub returns-in_err-change_edited-clause-before : goal.returns-in_err-change_edited-clause-before
returns-in_err-change_edited-clause-before c entries node set h =
    AreBefore-goes (ServesWith entries node set) c.begin.new.timelines c.begin.new.edits c.change_edited.new.edits _ c.change_edited.ensures.goes
    (c.begin.ensures.before entries node set (c.loop-change.invariant.before entries node set h))

pub loop-change-preserved : goal.loop-change-preserved
loop-change-preserved c = record {
  after = λ entries s t set made h.
      let u = c.loop-change.invariant.after entries s t set made h in
      let next = replayed-next s u.0 t c.args.changes.now c.loop-change.change-index c.change-item.result made u.1 c.loop-change-test.true c.change-item.is in (
        after u.0 c.change-item.result,
        next.2,
        AreAfter-made entries c.args.node u.0 c.change-item.result c.begin.new.timelines c.begin.new.edits c.change_edited.new.edits
            (replay_from-set s u.0 (take c.loop-change.change-index c.args.changes.now) set u.1) next.0 c.in_ok-change_edited.ensures.ok
            (c.begin.ensures.after entries c.args.node u.0 u.2),
      );
  before = λ entries node set h.
      AreBefore-goes (ServesWith entries node set) c.begin.new.timelines c.begin.new.edits c.change_edited.new.edits _ c.change_edited.ensures.goes
      (c.begin.ensures.before entries node set (c.loop-change.invariant.before entries node set h));
}

pub returns-clause-ok : goal.returns-clause-ok
returns-clause-ok c entries s t set made h =
    let u = c.loop-change.invariant.after entries s t set made h in
    let all : take c.loop-change.change-index c.args.changes.now ≡ c.args.changes.now = take_all c.loop-change.change-index c.args.changes.now (omega arith) in
    let same : u.0 ≡ t = same_Some u.0 t (sym u.1 ∙ ap (replay_from s) all ∙ made) in
    subst (λ x. AreAfter entries c.args.node x c.loop-change.timelines c.loop-change.edits) same u.2
