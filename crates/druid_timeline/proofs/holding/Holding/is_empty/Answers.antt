use Rattle.std.proofs.Common.{◌↔◌, List, ap, subst}
use Rattle.std.specs.Bool.{IsTrue}
use Rattle.druid_timeline.specs.Holding.{Held, Serving, HoldsNothing}
use Rattle.druid_timeline.proofs.ChunkLemmas.{HoldsNothing-chunks}
use Rattle.druid_timeline.proofs.holding.Holding.is_empty.Goals as goal

pub returns : goal.returns
returns c =
    let bare = HoldsNothing-chunks c.self.inside.chunks c.as_slice.ensures.chunks in
    subst (λ (hs : List Held). IsTrue c.is_empty.result ↔ HoldsNothing hs) (ap (λ (s : Serving). s.held) c.self.view_is)
    (λ e. bare.0 (c.is_empty.ensures.0 e), λ h. c.is_empty.ensures.1 (bare.1 h))
