use Rattle.std.proofs.Common.{List, map, ap, sym, subst}
use Rattle.std.specs.List.{All}
use Rattle.druid_time.specs.Extent.{Extent, AnyHas, AreParts}
use Rattle.druid_timeline.specs.Chunks.{held_in}
use Rattle.druid_timeline.specs.Holding.{Held, Serving, members_of}
use Rattle.druid_timeline.specs.Pieces.{Shown, Reported, ArePieces, ArePiecesIn, ArePartitions, cut, shown_at, shown_of}
use Rattle.druid_timeline.proofs.CutLemmas.{ArePiecesIn-cut}
use Rattle.druid_timeline_chunks.proofs.EditLemmas.{if_ok_weaker}
use Rattle.druid_timeline.proofs.LookupLemmas.{parts_held}
use Rattle.druid_timeline.proofs.SweepLemmas.{Run}
use Rattle.druid_timeline.proofs.timeline.Timeline.lookup.Goals as goal

pub returns-clause-pieces : goal.returns-clause-pieces
returns-clause-pieces c =
    let pieces = subst (λ (rs : List Run). ArePieces (held_in c.self.inside.chunks) (map shown_at rs)) (sym c.deref.ensures.value) c.self.invariant in
    let valid = subst AreParts (sym c.parts.ensures.value) c.parts.ensures.valid in
    if_ok_weaker c.pieces_in.result _ _ c.pieces_in.ensures.shown (λ found shown.
    subst (λ (hs : List Held). ArePiecesIn (AnyHas c.args.set.now) hs (map shown_of found.items)) (ap (λ (s : Serving). s.held) c.self.view_is)
    (subst (λ (ps : List Shown). ArePiecesIn (AnyHas c.args.set.now) (held_in c.self.inside.chunks) ps) (sym shown)
    (subst (λ (parts : List Extent). ArePiecesIn (AnyHas parts) (held_in c.self.inside.chunks) (cut c.parts.result.now (map shown_at c.deref.result.now))) c.parts.ensures.value
    (ArePiecesIn-cut c.parts.result.now (held_in c.self.inside.chunks) (map shown_at c.deref.result.now) valid pieces))))

pub returns-clause-parts : goal.returns-clause-parts
returns-clause-parts c =
    if_ok_weaker c.pieces_in.result _ _ c.pieces_in.ensures.parts (λ found parts.
    subst (λ (hs : List Held). All (λ (p : Reported). ArePartitions (members_of hs p.group) p.parts) found.items) (ap (λ (s : Serving). s.held) c.self.view_is)
    (parts_held c.self.inside.chunks found.items c.pieces_in.ensures.chunks parts))
