use Rattle.std.proofs.Common.{◌≡◌, ◌∙◌, ◌<◌, ◌≤◌, Bool, List, cond, length, get_or, sym, ap, subst}
use Rattle.std.specs.List.{AllWithin, insert}
use Rattle.druid_time.specs.Extent.{IsExtent}
use Rattle.druid_segment_id.specs.Group.{Group}
use Rattle.druid_timeline_chunks.specs.Chunks.{Chunk, HasNoChunk, members_at}
use Rattle.druid_timeline_chunks.specs.Places.{AreInOrder, chunk_place, place_of}
use Rattle.druid_timeline_chunks.proofs.OrderLemmas.{AreInOrder-insert, AreInOrder-set}
use Rattle.druid_timeline_chunks.proofs.UndoLemmas.{put-insert, put-set}
use Rattle.druid_timeline_chunks.proofs.undo.put.Goals as goal

pub returns-in-Ok-clause-ordered : goal.returns-in-Ok-clause-ordered
returns-in-Ok-clause-ordered c =
    let cs = c.args.items.now.items in
    let own = c.index_mut.result.now in
    let within : c.in-Ok.i < length cs = subst (λ (xs : List Chunk). c.in-Ok.i < length xs) c.deref.ensures.value c.in-Ok.ensures.within in
    let here : get_or cs c.in-Ok.i own ≡ own = sym c.index_mut.ensures.value in
    let named : record { interval = c.interval.result; version = c.version.result.now } ≡ c.args.chunk.0 = λ i. record { interval = (c.interval.ensures.value ∙ ap (λ (g : Group). g.interval) c.key.ensures) i; version = (c.version.ensures.value ∙ ap (λ (g : Group). g.version) c.key-2.ensures) i } in
    let at : own.0 ≡ c.args.chunk.0 = ap (λ (x : Chunk). x.0) (sym here) ∙ subst (λ (xs : List Chunk). (get_or xs c.in-Ok.i own).0 ≡ record { interval = c.interval.result; version = c.version.result.now }) c.deref.ensures.value (c.in-Ok.ensures.found own) ∙ named in
    AreInOrder-set cs c.in-Ok.i own c.args.chunk c.requires.ordered within here (sym at) c.requires.inhabited

pub returns-in-Ok-clause-put : goal.returns-in-Ok-clause-put
returns-in-Ok-clause-put c =
    let cs = c.args.items.now.items in
    let own = c.index_mut.result.now in
    let within : c.in-Ok.i < length cs = subst (λ (xs : List Chunk). c.in-Ok.i < length xs) c.deref.ensures.value c.in-Ok.ensures.within in
    let here : get_or cs c.in-Ok.i own ≡ own = sym c.index_mut.ensures.value in
    let named : record { interval = c.interval.result; version = c.version.result.now } ≡ c.args.chunk.0 = λ i. record { interval = (c.interval.ensures.value ∙ ap (λ (g : Group). g.interval) c.key.ensures) i; version = (c.version.ensures.value ∙ ap (λ (g : Group). g.version) c.key-2.ensures) i } in
    let at : own.0 ≡ c.args.chunk.0 = ap (λ (x : Chunk). x.0) (sym here) ∙ subst (λ (xs : List Chunk). (get_or xs c.in-Ok.i own).0 ≡ record { interval = c.interval.result; version = c.version.result.now }) c.deref.ensures.value (c.in-Ok.ensures.found own) ∙ named in
    let ordered = AreInOrder-set cs c.in-Ok.i own c.args.chunk c.requires.ordered within here (sym at) c.requires.inhabited in
    put-set cs c.in-Ok.i own c.args.chunk ordered.are within here (sym at)

pub returns-in-Err-clause-ordered : goal.returns-in-Err-clause-ordered
returns-in-Err-clause-ordered c =
    let cs = c.args.items.now.items in
    let new = c.args.chunk in
    let named : record { interval = c.interval.result; version = c.version.result.now } ≡ new.0 = λ i. record { interval = (c.interval.ensures.value ∙ ap (λ (g : Group). g.interval) c.key.ensures) i; version = (c.version.ensures.value ∙ ap (λ (g : Group). g.version) c.key-2.ensures) i } in
    let reported = subst (λ (p : List Chunk × Group). HasNoChunk p.0 p.1 × (c.in-Err.i ≤ length p.0) × AllWithin (λ x. chunk_place x ≤ place_of p.1.interval) p.0 0 c.in-Err.i × AllWithin (λ x. place_of p.1.interval ≤ chunk_place x) p.0 c.in-Err.i (length p.0))
    (λ i. (c.deref.ensures.value i, named i)) (c.in-Err.ensures.absent, c.in-Err.ensures.end, c.in-Err.ensures.before, c.in-Err.ensures.after) in
    let valid : IsExtent new.0.interval = subst (λ (g : Group). IsExtent g.interval) c.key.ensures c.interval.ensures.valid.interval in
    let made : c.insert.new.self.items ≡ insert cs c.in-Err.i new = c.insert.ensures.items ∙ ap (λ (b : Bool). cond b (insert cs c.in-Err.i new) cs) (c.insert.ensures.succeeds c.requires.room) in
    subst AreInOrder (sym made) (AreInOrder-insert cs c.in-Err.i new c.requires.ordered reported.0 c.requires.inhabited valid reported.1 reported.2 reported.3)

pub returns-in-Err-clause-put : goal.returns-in-Err-clause-put
returns-in-Err-clause-put c g =
    let cs = c.args.items.now.items in
    let new = c.args.chunk in
    let named : record { interval = c.interval.result; version = c.version.result.now } ≡ new.0 = λ i. record { interval = (c.interval.ensures.value ∙ ap (λ (g : Group). g.interval) c.key.ensures) i; version = (c.version.ensures.value ∙ ap (λ (g : Group). g.version) c.key-2.ensures) i } in
    let reported = subst (λ (p : List Chunk × Group). HasNoChunk p.0 p.1 × (c.in-Err.i ≤ length p.0) × AllWithin (λ x. chunk_place x ≤ place_of p.1.interval) p.0 0 c.in-Err.i × AllWithin (λ x. place_of p.1.interval ≤ chunk_place x) p.0 c.in-Err.i (length p.0))
    (λ i. (c.deref.ensures.value i, named i)) (c.in-Err.ensures.absent, c.in-Err.ensures.end, c.in-Err.ensures.before, c.in-Err.ensures.after) in
    let valid : IsExtent new.0.interval = subst (λ (g : Group). IsExtent g.interval) c.key.ensures c.interval.ensures.valid.interval in
    let made : c.insert.new.self.items ≡ insert cs c.in-Err.i new = c.insert.ensures.items ∙ ap (λ (b : Bool). cond b (insert cs c.in-Err.i new) cs) (c.insert.ensures.succeeds c.requires.room) in
    let ordered = AreInOrder-insert cs c.in-Err.i new c.requires.ordered reported.0 c.requires.inhabited valid reported.1 reported.2 reported.3 in
    ap (λ (xs : List Chunk). members_at xs g) made ∙ put-insert cs c.in-Err.i new ordered.are g
