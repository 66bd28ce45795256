use Rattle.std.proofs.Common.{List, ℕ, subst, ◌∙◌}
use Rattle.druid_segment_descriptor.specs.declared.change.Ask.TheVariants.{Whole}
use Rattle.druid_broker_follow.specs.Turns.{IsAsked}
use Rattle.druid_broker_follow.specs.Pages.{request_at}
use Rattle.druid_broker_follow.proofs.turns.fetch_entry.Goals as goal

pub returns-in-Ok : goal.returns-in-Ok
returns-in-Ok g c =
    subst (λ (path : List ℕ). IsAsked g.L.Link.exchanges (request_at path) Whole c.args.peer.now c.ask_all.new.link c.ask_all.result) (c.deref.ensures ∙ c.in-Ok.ensures) c.ask_all.ensures
