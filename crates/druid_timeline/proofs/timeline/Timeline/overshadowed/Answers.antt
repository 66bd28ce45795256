use Rattle.std.proofs.Common.{◌↔◌, List, map, ap, sym, subst}
use Rattle.std.specs.List.{Contains}
use Rattle.druid_timeline.specs.Chunks.{held_in}
use Rattle.druid_timeline.specs.Holding.{Held, Serving}
use Rattle.druid_timeline.specs.Overshadowed.{IsOvershadowed}
use Rattle.druid_timeline.specs.Pieces.{ArePieces, shown_at}
use Rattle.druid_timeline.proofs.LookupLemmas.{if_both}
use Rattle.druid_timeline.proofs.SweepLemmas.{Run}
use Rattle.druid_timeline.proofs.UnseenLemmas.{IsOvershadowed-unshown}
use Rattle.druid_timeline.proofs.timeline.Timeline.overshadowed.Goals as goal

pub returns-clause-all : goal.returns-clause-all
returns-clause-all c =
    if_both c.overshadowed_in.result _ _ _ c.overshadowed_in.ensures.all c.overshadowed_in.ensures.chunks (λ v all are g.
    let pieces = subst (λ (rs : List Run). ArePieces (held_in c.self.inside.chunks) (map shown_at rs)) (sym c.deref.ensures.value) c.self.invariant in
    let same = IsOvershadowed-unshown c.self.inside.chunks c.deref.result.now are pieces g in
    subst (λ (hs : List Held). Contains v.items g ↔ IsOvershadowed hs g) (ap (λ (s : Serving). s.held) c.self.view_is)
    (λ there. same.0 ((all g).0 there), λ h. (all g).1 (same.1 h)))
