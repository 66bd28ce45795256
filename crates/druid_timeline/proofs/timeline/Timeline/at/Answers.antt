use Rattle.std.proofs.Common.{List, Option, Some, None, MatchOption, ℕ, map, ap, sym, subst, Bor}
use Rattle.druid_timeline.proofs.SweepLemmas.{Run}
use Rattle.druid_segment_id.specs.Group.{Group}
use Rattle.druid_timeline.specs.Holding.{Held, Serving}
use Rattle.druid_timeline.specs.Pieces.{Shown, Shows, ArePieces, shown_at}
use Rattle.druid_timeline.specs.Visible.{IsVisible, NothingVisible}
use Rattle.druid_timeline.specs.Chunks.{held_in}
use Rattle.druid_timeline.proofs.VisibleLemmas.{nothing_shown}
use Rattle.druid_timeline.proofs.timeline.Timeline.at.Goals as goal

seen : (held : List Held) (ps : List Shown) (t : ℕ) (r : Option (Bor Group)) → ArePieces held ps → MatchOption r ((g : Group) → Shows ps t g → ⊥) (λ key. Shows ps t key.now) → MatchOption r (NothingVisible held t) (λ key. IsVisible held t key.now)
seen held ps t None h none = nothing_shown held ps t h none
seen held ps t (Some key) h s = ((h.shows t key.now).0 s).1

pub returns : goal.returns
returns c =
    subst (λ (hs : List Held). MatchOption c.chunk_at.result (NothingVisible hs c.args.instant) (λ key. IsVisible hs c.args.instant key.now)) (ap (λ (s : Serving). s.held) c.self.view_is)
    (seen (held_in c.self.inside.chunks) (map shown_at c.deref.result.now) c.args.instant c.chunk_at.result (subst (λ (rs : List Run). ArePieces (held_in c.self.inside.chunks) (map shown_at rs)) (sym c.deref.ensures.value) c.self.invariant) c.chunk_at.ensures)
