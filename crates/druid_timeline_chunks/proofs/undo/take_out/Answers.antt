use Rattle.std.proofs.Common.{◌≡◌, ◌∙◌, ◌<◌, List, length, get_or, sym, ap, subst}
use Rattle.druid_segment_id.specs.Group.{Group}
use Rattle.druid_timeline_chunks.specs.Chunks.{Chunk, HasNoChunk, members_at}
use Rattle.druid_timeline_chunks.specs.Places.{AreInOrder}
use Rattle.druid_timeline_chunks.proofs.OrderLemmas.{AreInOrder-remove}
use Rattle.druid_timeline_chunks.proofs.UndoLemmas.{taken-none, taken-remove}
use Rattle.druid_timeline_chunks.proofs.undo.take_out.Goals as goal

pub returns-in-Ok-clause-ordered : goal.returns-in-Ok-clause-ordered
returns-in-Ok-clause-ordered c =
    let cs = c.args.items.now.items in
    let within : c.in-Ok.i < length cs = subst (λ (xs : List Chunk). c.in-Ok.i < length xs) c.deref.ensures.value c.in-Ok.ensures.within in
    subst AreInOrder (sym c.remove.ensures.items) (AreInOrder-remove cs c.in-Ok.i c.remove.result c.requires.ordered within (sym c.remove.ensures.value))

pub returns-in-Ok-clause-taken : goal.returns-in-Ok-clause-taken
returns-in-Ok-clause-taken c g =
    let cs = c.args.items.now.items in
    let own = c.remove.result in
    let within : c.in-Ok.i < length cs = subst (λ (xs : List Chunk). c.in-Ok.i < length xs) c.deref.ensures.value c.in-Ok.ensures.within in
    let here : get_or cs c.in-Ok.i own ≡ own = sym c.remove.ensures.value in
    let named : record { interval = c.interval.result; version = c.version.result.now } ≡ c.args.key.now = λ i. record { interval = c.interval.ensures.value i; version = c.version.ensures.value i } in
    let at : own.0 ≡ c.args.key.now = ap (λ (x : Chunk). x.0) (sym here) ∙ subst (λ (xs : List Chunk). (get_or xs c.in-Ok.i own).0 ≡ record { interval = c.interval.result; version = c.version.result.now }) c.deref.ensures.value (c.in-Ok.ensures.found own) ∙ named in
    ap (λ (xs : List Chunk). members_at xs g) c.remove.ensures.items ∙ taken-remove cs c.in-Ok.i own c.args.key.now c.requires.ordered.are within here at g

pub returns-in_default-clause-taken : goal.returns-in_default-clause-taken
returns-in_default-clause-taken c =
    let named : record { interval = c.interval.result; version = c.version.result.now } ≡ c.args.key.now = λ i. record { interval = c.interval.ensures.value i; version = c.version.ensures.value i } in
    taken-none c.args.items.now.items c.args.key.now (subst (λ (p : List Chunk × Group). HasNoChunk p.0 p.1) (λ i. (c.deref.ensures.value i, named i)) c.in_default.ensures.absent)
