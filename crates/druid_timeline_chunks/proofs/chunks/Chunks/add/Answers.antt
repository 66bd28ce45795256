use Rattle.std.proofs.Common.{◌≡◌, ◌∙◌, ◌<◌, ◌≤◌, List, [], length, get_or, inl, refl, sym, ap, subst}
use Rattle.std.specs.List.{AllWithin}
use Rattle.std.specs.Result.{OnOk, OnErr}
use Rattle.druid_time.specs.Extent.{Extent, IsExtent}
use Rattle.druid_segment_id.specs.Group.{Group, group_of}
use Rattle.druid_segment_id.specs.Identifier.{Identifier}
use Rattle.druid_timeline_members.specs.Members.{Member, HasMember, HoldsPlace, member_of, Adds, SameMembers}
use Rattle.druid_timeline_chunks.specs.Chunks.{Chunk, AreChunks, HasNoChunk, members_at}
use Rattle.druid_timeline_chunks.specs.Places.{AreInOrder, chunk_place, place_of}
use Rattle.druid_timeline_chunks.proofs.ChunkLemmas.{members_at-none}
use Rattle.druid_timeline_chunks.proofs.EditLemmas.{HasMember-added, found_members, written_members, inserted_members, set-other, insert-other}
use Rattle.druid_timeline_chunks.proofs.OrderLemmas.{AreInOrder-set, AreInOrder-insert}
use Rattle.druid_timeline_chunks.proofs.chunks.Chunks.add.Goals as goal

pub add-requires : goal.add-requires
add-requires c place =
    let cs = c.self.inside.items.items in
    let g : Group = group_of c.args.descriptor.now.id in
    let own = c.index_mut-chunk.result.now in
    let within : c.in-Ok.i < length cs = subst (λ (xs : List Chunk). c.in-Ok.i < length xs) c.deref.ensures.value c.in-Ok.ensures.within in
    let here : get_or cs c.in-Ok.i own ≡ own = sym c.index_mut-chunk.ensures.value in
    let named : record { interval = c.interval.result; version = c.version.result.now } ≡ g = (λ i. record { interval = c.interval.ensures.value i; version = c.version.ensures.value i }) ∙ ap group_of c.id-id.ensures.value in
    let at : own.0 ≡ g = ap (λ (x : Chunk). x.0) (sym here) ∙ subst (λ (xs : List Chunk). (get_or xs c.in-Ok.i own).0 ≡ record { interval = c.interval.result; version = c.version.result.now }) c.deref.ensures.value (c.in-Ok.ensures.found own) ∙ named in
    let old = found_members cs c.args.self.now c.in-Ok.i own g c.self.invariant.are c.self.view_is within here at in
    c.requires (subst (λ (ms : List Member). HoldsPlace ms c.args.descriptor.now.id.partition c.args.node) old place)

pub invariant_of-self : goal.invariant_of-self
invariant_of-self c =
    let cs = c.self.inside.items.items in
    let g : Group = group_of c.args.descriptor.now.id in
    let own = c.index_mut-chunk.result.now in
    let new = c.add.new.self in
    let within : c.in-Ok.i < length cs = subst (λ (xs : List Chunk). c.in-Ok.i < length xs) c.deref.ensures.value c.in-Ok.ensures.within in
    let here : get_or cs c.in-Ok.i own ≡ own = sym c.index_mut-chunk.ensures.value in
    let named : record { interval = c.interval.result; version = c.version.result.now } ≡ g = (λ i. record { interval = c.interval.ensures.value i; version = c.version.ensures.value i }) ∙ ap group_of c.id-id.ensures.value in
    let at : own.0 ≡ g = ap (λ (x : Chunk). x.0) (sym here) ∙ subst (λ (xs : List Chunk). (get_or xs c.in-Ok.i own).0 ≡ record { interval = c.interval.result; version = c.version.result.now }) c.deref.ensures.value (c.in-Ok.ensures.found own) ∙ named in
    let some = HasMember-added c.add.result own.1 new.1 (member_of c.args.node c.args.descriptor.now) c.add.ensures.added c.add.ensures.err (subst (λ (x : Chunk). HasMember x.1) here (c.self.invariant.are.inhabited c.in-Ok.i own within)) in
    AreInOrder-set cs c.in-Ok.i own new c.self.invariant within here c.add.ensures.key some

pub invariant_of-self-in-Err : goal.invariant_of-self-in-Err
invariant_of-self-in-Err c =
    let cs = c.self.inside.items.items in
    let g : Group = group_of c.args.descriptor.now.id in
    let new = c.in_ok-chunk-in-Err.chunk in
    let named : record { interval = c.interval.result; version = c.version.result.now } ≡ g = (λ i. record { interval = c.interval.ensures.value i; version = c.version.ensures.value i }) ∙ ap group_of c.id-id.ensures.value in
    let reported = subst (λ (p : List Chunk × Group). HasNoChunk p.0 p.1 × (c.in-Err.i ≤ length p.0) × AllWithin (λ x. chunk_place x ≤ place_of p.1.interval) p.0 0 c.in-Err.i × AllWithin (λ x. place_of p.1.interval ≤ chunk_place x) p.0 c.in-Err.i (length p.0))
    (λ i. (c.deref.ensures.value i, (named ∙ sym c.in_ok-chunk-in-Err.ensures.key) i)) (c.in-Err.ensures.absent, c.in-Err.ensures.end, c.in-Err.ensures.before, c.in-Err.ensures.after) in
    let valid : IsExtent new.0.interval = subst (λ (e : Extent). IsExtent e) (ap (λ (id : Identifier). id.interval) c.id-id.ensures.value ∙ sym (ap (λ (k : Group). k.interval) c.in_ok-chunk-in-Err.ensures.key)) c.interval.ensures.valid.interval in
    let ordered = AreInOrder-insert cs c.in-Err.i new c.self.invariant reported.0 (member_of c.args.node c.args.descriptor.now, (c.in_ok-chunk-in-Err.ensures.added (member_of c.args.node c.args.descriptor.now)).1 (inl refl)) valid reported.1 reported.2 reported.3 in
    subst AreInOrder (sym c.in_ok-insert-in-Err.ensures.items) ordered

pub returns-in-Ok-clause-added : goal.returns-in-Ok-clause-added
returns-in-Ok-clause-added c =
    let cs = c.self.inside.items.items in
    let g : Group = group_of c.args.descriptor.now.id in
    let own = c.index_mut-chunk.result.now in
    let new = c.add.new.self in
    let within : c.in-Ok.i < length cs = subst (λ (xs : List Chunk). c.in-Ok.i < length xs) c.deref.ensures.value c.in-Ok.ensures.within in
    let here : get_or cs c.in-Ok.i own ≡ own = sym c.index_mut-chunk.ensures.value in
    let named : record { interval = c.interval.result; version = c.version.result.now } ≡ g = (λ i. record { interval = c.interval.ensures.value i; version = c.version.ensures.value i }) ∙ ap group_of c.id-id.ensures.value in
    let at : own.0 ≡ g = ap (λ (x : Chunk). x.0) (sym here) ∙ subst (λ (xs : List Chunk). (get_or xs c.in-Ok.i own).0 ≡ record { interval = c.interval.result; version = c.version.result.now }) c.deref.ensures.value (c.in-Ok.ensures.found own) ∙ named in
    let some = HasMember-added c.add.result own.1 new.1 (member_of c.args.node c.args.descriptor.now) c.add.ensures.added c.add.ensures.err (subst (λ (x : Chunk). HasMember x.1) here (c.self.invariant.are.inhabited c.in-Ok.i own within)) in
    let ordered = AreInOrder-set cs c.in-Ok.i own new c.self.invariant within here c.add.ensures.key some in
    let old = found_members cs c.args.self.now c.in-Ok.i own g c.self.invariant.are c.self.view_is within here at in
    let now = written_members cs c.in-Ok.i new g ordered.are within (c.add.ensures.key ∙ at) in
    subst (λ (p : List Member × List Member). OnOk c.add.result (Adds p.0 p.1 (member_of c.args.node c.args.descriptor.now))) (λ i. (old i, now i)) c.add.ensures.added

pub returns-in-Ok-clause-err : goal.returns-in-Ok-clause-err
returns-in-Ok-clause-err c =
    let cs = c.self.inside.items.items in
    let g : Group = group_of c.args.descriptor.now.id in
    let own = c.index_mut-chunk.result.now in
    let new = c.add.new.self in
    let within : c.in-Ok.i < length cs = subst (λ (xs : List Chunk). c.in-Ok.i < length xs) c.deref.ensures.value c.in-Ok.ensures.within in
    let here : get_or cs c.in-Ok.i own ≡ own = sym c.index_mut-chunk.ensures.value in
    let named : record { interval = c.interval.result; version = c.version.result.now } ≡ g = (λ i. record { interval = c.interval.ensures.value i; version = c.version.ensures.value i }) ∙ ap group_of c.id-id.ensures.value in
    let at : own.0 ≡ g = ap (λ (x : Chunk). x.0) (sym here) ∙ subst (λ (xs : List Chunk). (get_or xs c.in-Ok.i own).0 ≡ record { interval = c.interval.result; version = c.version.result.now }) c.deref.ensures.value (c.in-Ok.ensures.found own) ∙ named in
    let some = HasMember-added c.add.result own.1 new.1 (member_of c.args.node c.args.descriptor.now) c.add.ensures.added c.add.ensures.err (subst (λ (x : Chunk). HasMember x.1) here (c.self.invariant.are.inhabited c.in-Ok.i own within)) in
    let ordered = AreInOrder-set cs c.in-Ok.i own new c.self.invariant within here c.add.ensures.key some in
    let old = found_members cs c.args.self.now c.in-Ok.i own g c.self.invariant.are c.self.view_is within here at in
    let now = written_members cs c.in-Ok.i new g ordered.are within (c.add.ensures.key ∙ at) in
    subst (λ (p : List Member × List Member). OnErr c.add.result (SameMembers p.0 p.1)) (λ i. (old i, now i)) c.add.ensures.err

pub returns-in-Ok-clause-others : goal.returns-in-Ok-clause-others
returns-in-Ok-clause-others c q other =
    let cs = c.self.inside.items.items in
    let g : Group = group_of c.args.descriptor.now.id in
    let own = c.index_mut-chunk.result.now in
    let new = c.add.new.self in
    let within : c.in-Ok.i < length cs = subst (λ (xs : List Chunk). c.in-Ok.i < length xs) c.deref.ensures.value c.in-Ok.ensures.within in
    let here : get_or cs c.in-Ok.i own ≡ own = sym c.index_mut-chunk.ensures.value in
    let named : record { interval = c.interval.result; version = c.version.result.now } ≡ g = (λ i. record { interval = c.interval.ensures.value i; version = c.version.ensures.value i }) ∙ ap group_of c.id-id.ensures.value in
    let at : own.0 ≡ g = ap (λ (x : Chunk). x.0) (sym here) ∙ subst (λ (xs : List Chunk). (get_or xs c.in-Ok.i own).0 ≡ record { interval = c.interval.result; version = c.version.result.now }) c.deref.ensures.value (c.in-Ok.ensures.found own) ∙ named in
    set-other cs c.in-Ok.i own new q within here c.add.ensures.key (λ same. other (sym same ∙ at)) ∙ ap (λ (xs : List Chunk). members_at xs q) c.self.view_is

pub returns-in-Ok-clause-chunks : goal.returns-in-Ok-clause-chunks
returns-in-Ok-clause-chunks c =
    let cs = c.self.inside.items.items in
    let g : Group = group_of c.args.descriptor.now.id in
    let own = c.index_mut-chunk.result.now in
    let new = c.add.new.self in
    let within : c.in-Ok.i < length cs = subst (λ (xs : List Chunk). c.in-Ok.i < length xs) c.deref.ensures.value c.in-Ok.ensures.within in
    let here : get_or cs c.in-Ok.i own ≡ own = sym c.index_mut-chunk.ensures.value in
    let named : record { interval = c.interval.result; version = c.version.result.now } ≡ g = (λ i. record { interval = c.interval.ensures.value i; version = c.version.ensures.value i }) ∙ ap group_of c.id-id.ensures.value in
    let at : own.0 ≡ g = ap (λ (x : Chunk). x.0) (sym here) ∙ subst (λ (xs : List Chunk). (get_or xs c.in-Ok.i own).0 ≡ record { interval = c.interval.result; version = c.version.result.now }) c.deref.ensures.value (c.in-Ok.ensures.found own) ∙ named in
    let some = HasMember-added c.add.result own.1 new.1 (member_of c.args.node c.args.descriptor.now) c.add.ensures.added c.add.ensures.err (subst (λ (x : Chunk). HasMember x.1) here (c.self.invariant.are.inhabited c.in-Ok.i own within)) in
    let ordered = AreInOrder-set cs c.in-Ok.i own new c.self.invariant within here c.add.ensures.key some in
    ordered.are

pub returns-in_ok-insert-in-Err-clause-added : goal.returns-in_ok-insert-in-Err-clause-added
returns-in_ok-insert-in-Err-clause-added c =
    let cs = c.self.inside.items.items in
    let g : Group = group_of c.args.descriptor.now.id in
    let new = c.in_ok-chunk-in-Err.chunk in
    let named : record { interval = c.interval.result; version = c.version.result.now } ≡ g = (λ i. record { interval = c.interval.ensures.value i; version = c.version.ensures.value i }) ∙ ap group_of c.id-id.ensures.value in
    let reported = subst (λ (p : List Chunk × Group). HasNoChunk p.0 p.1 × (c.in-Err.i ≤ length p.0) × AllWithin (λ x. chunk_place x ≤ place_of p.1.interval) p.0 0 c.in-Err.i × AllWithin (λ x. place_of p.1.interval ≤ chunk_place x) p.0 c.in-Err.i (length p.0))
    (λ i. (c.deref.ensures.value i, (named ∙ sym c.in_ok-chunk-in-Err.ensures.key) i)) (c.in-Err.ensures.absent, c.in-Err.ensures.end, c.in-Err.ensures.before, c.in-Err.ensures.after) in
    let valid : IsExtent new.0.interval = subst (λ (e : Extent). IsExtent e) (ap (λ (id : Identifier). id.interval) c.id-id.ensures.value ∙ sym (ap (λ (k : Group). k.interval) c.in_ok-chunk-in-Err.ensures.key)) c.interval.ensures.valid.interval in
    let ordered = AreInOrder-insert cs c.in-Err.i new c.self.invariant reported.0 (member_of c.args.node c.args.descriptor.now, (c.in_ok-chunk-in-Err.ensures.added (member_of c.args.node c.args.descriptor.now)).1 (inl refl)) valid reported.1 reported.2 reported.3 in
    let old : [] ≡ members_at c.args.self.now g = sym (members_at-none cs g (subst (HasNoChunk cs) c.in_ok-chunk-in-Err.ensures.key reported.0)) ∙ ap (λ (xs : List Chunk). members_at xs g) c.self.view_is in
    let now : new.1 ≡ members_at c.insert.new.self.items g = inserted_members cs c.in-Err.i new g ordered.are c.in_ok-chunk-in-Err.ensures.key ∙ ap (λ (xs : List Chunk). members_at xs g) (sym c.in_ok-insert-in-Err.ensures.items) in
    subst (λ (p : List Member × List Member). Adds p.0 p.1 (member_of c.args.node c.args.descriptor.now)) (λ i. (old i, now i)) c.in_ok-chunk-in-Err.ensures.added

pub returns-in_ok-insert-in-Err-clause-others : goal.returns-in_ok-insert-in-Err-clause-others
returns-in_ok-insert-in-Err-clause-others c q other =
    let cs = c.self.inside.items.items in
    let new = c.in_ok-chunk-in-Err.chunk in
    ap (λ (xs : List Chunk). members_at xs q) c.in_ok-insert-in-Err.ensures.items ∙ insert-other cs c.in-Err.i new q (λ same. other (sym same ∙ c.in_ok-chunk-in-Err.ensures.key)) ∙ ap (λ (xs : List Chunk). members_at xs q) c.self.view_is

pub returns-in_ok-insert-in-Err-clause-chunks : goal.returns-in_ok-insert-in-Err-clause-chunks
returns-in_ok-insert-in-Err-clause-chunks c =
    let cs = c.self.inside.items.items in
    let g : Group = group_of c.args.descriptor.now.id in
    let new = c.in_ok-chunk-in-Err.chunk in
    let named : record { interval = c.interval.result; version = c.version.result.now } ≡ g = (λ i. record { interval = c.interval.ensures.value i; version = c.version.ensures.value i }) ∙ ap group_of c.id-id.ensures.value in
    let reported = subst (λ (p : List Chunk × Group). HasNoChunk p.0 p.1 × (c.in-Err.i ≤ length p.0) × AllWithin (λ x. chunk_place x ≤ place_of p.1.interval) p.0 0 c.in-Err.i × AllWithin (λ x. place_of p.1.interval ≤ chunk_place x) p.0 c.in-Err.i (length p.0))
    (λ i. (c.deref.ensures.value i, (named ∙ sym c.in_ok-chunk-in-Err.ensures.key) i)) (c.in-Err.ensures.absent, c.in-Err.ensures.end, c.in-Err.ensures.before, c.in-Err.ensures.after) in
    let valid : IsExtent new.0.interval = subst (λ (e : Extent). IsExtent e) (ap (λ (id : Identifier). id.interval) c.id-id.ensures.value ∙ sym (ap (λ (k : Group). k.interval) c.in_ok-chunk-in-Err.ensures.key)) c.interval.ensures.valid.interval in
    let ordered = AreInOrder-insert cs c.in-Err.i new c.self.invariant reported.0 (member_of c.args.node c.args.descriptor.now, (c.in_ok-chunk-in-Err.ensures.added (member_of c.args.node c.args.descriptor.now)).1 (inl refl)) valid reported.1 reported.2 reported.3 in
    subst AreChunks (sym c.in_ok-insert-in-Err.ensures.items) ordered.are
