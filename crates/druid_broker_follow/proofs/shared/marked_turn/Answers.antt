use Rattle.std.proofs.Common.{List, Ok, Err, subst, ap, ◌∙◌}
use Rattle.druid_inventory.specs.Entry.{Entry}
use Rattle.druid_broker_follow.specs.Shown.{marks_at}
use Rattle.druid_broker_follow.specs.Turns.{IsFetchedFrom}
use Rattle.druid_broker_follow.proofs.TurnLemmas.{given_ok, unfetched, published, unpublished}
use Rattle.druid_broker_follow.proofs.shared.marked_turn.Goals as goal

pub returns-in-Err-fetch-clause-err : goal.returns-in-Err-fetch-clause-err
returns-in-Err-fetch-clause-err g c =
    unfetched g.L.Link.exchanges g.J.Publication.opening c.args.node c.args.view.now c.read_shown.new.view c.args.link.now c.fetch.new.link c.in-Err-fetch.fault c.in-Ok.ensures.prefix
    (subst (λ (i : List Entry). IsFetchedFrom g.L.Link.exchanges i c.args.node c.args.link.now c.fetch.new.link (Err c.in-Err-fetch.fault)) (c.deref.ensures ∙ c.in-Ok.ensures.ok) c.in-Err-fetch.ensures)

pub returns-clause-ok : goal.returns-clause-ok
returns-clause-ok g c =
    published g.L.Link.exchanges g.J.Publication.opening c.args.node c.args.view.now c.read_shown.new.view c.publish_locked-turned.result.1 c.learn.new.self c.args.link.now c.fetch.new.link c.in-Ok-fetch.reply c.in-Ok.ensures.prefix
    (subst (λ (i : List Entry). IsFetchedFrom g.L.Link.exchanges i c.args.node c.args.link.now c.fetch.new.link (Ok c.in-Ok-fetch.reply)) (c.deref.ensures ∙ c.in-Ok.ensures.ok) c.in-Ok-fetch.ensures)
    c.learn.ensures.this c.learn.ensures.that c.learn.ensures.one c.publish_locked-turned.result.0 c.publish_locked-turned.ensures.ok

pub returns-clause-err : goal.returns-clause-err
returns-clause-err g c =
    unpublished g.L.Link.exchanges g.J.Publication.opening c.args.node c.args.view.now c.read_shown.new.view c.publish_locked-turned.result.1 c.learn.new.self c.args.link.now c.fetch.new.link c.in-Ok-fetch.reply c.in-Ok.ensures.prefix
    (subst (λ (i : List Entry). IsFetchedFrom g.L.Link.exchanges i c.args.node c.args.link.now c.fetch.new.link (Ok c.in-Ok-fetch.reply)) (c.deref.ensures ∙ c.in-Ok.ensures.ok) c.in-Ok-fetch.ensures)
    c.learn.ensures.this c.learn.ensures.that c.learn.ensures.one c.publish_locked-turned.result.0 c.publish_locked-turned.ensures.err

pub returns-clause-marks : goal.returns-clause-marks
returns-clause-marks g c =
    let same = c.deref.ensures ∙ c.in-Ok.ensures.ok in
    given_ok _ c.publish_locked-turned.result.0 (
      c.read_shown.new.view,
      c.in-Ok-fetch.reply,
      subst (λ (i : List Entry). IsFetchedFrom g.L.Link.exchanges i c.args.node c.args.link.now c.fetch.new.link (Ok c.in-Ok-fetch.reply)) same c.in-Ok-fetch.ensures,
      c.marks_at.ensures ∙ ap (λ (i : List Entry). marks_at i c.args.node c.in-Ok-fetch.reply) (c.deref-2.ensures ∙ c.in-Ok.ensures.ok),
    )
