use Rattle.std.proofs.Common.{◌↔◌, List, refl, ap, subst}
use Rattle.std.specs.Bool.{IsTrue}
use Rattle.druid_timeline.specs.Holding.{Held, Serving, IsHeld}
use Rattle.druid_timeline.proofs.ChunkLemmas.{holds_held}
use Rattle.druid_timeline.proofs.timeline.Timeline.is_held.Goals as goal

pub returns : goal.returns
returns c =
    subst (λ (hs : List Held). IsTrue c.holds.result ↔ IsHeld hs c.args.node c.args.id.now) (ap (λ (s : Serving). s.held) c.self.view_is)
    (holds_held c.self.inside.chunks c.holds.ensures.chunks c.args.node c.args.id.now c.args.id.now c.holds.result refl c.holds.ensures.held)
