use Rattle.std.proofs.Common.{◌≡◌, ◌∙◌, ◌<◌, ℕ, List, [], length, get_or, sym, ap, subst}
use Rattle.std.specs.Result.{OnOk, OnErr}
use Rattle.std.proofs.lemmas.Bool.{false≢true}
use Rattle.std.proofs.lemmas.List.{get_or_default}
use Rattle.druid_segment_id.specs.Group.{Group, group_of}
use Rattle.druid_timeline_members.specs.Members.{Member, HasMember, HoldsPlace, AllAt, RemovesPlace, RemovesOne, SameMembers, ServedOnce}
use Rattle.druid_timeline_chunks.specs.Chunks.{Chunk, AreChunks, HasNoChunk, members_at}
use Rattle.druid_timeline_chunks.specs.Places.{AreInOrder}
use Rattle.druid_timeline_chunks.proofs.ChunkLemmas.{members_at-none}
use Rattle.druid_timeline_chunks.proofs.EditLemmas.{HasMember-removed, RemovesPlace-all, RemovesOne-once, found_members, nothing_there, removed_members, written_members, remove-other, set-other}
use Rattle.druid_timeline_chunks.proofs.OrderLemmas.{AreInOrder-remove, AreInOrder-set}
use Rattle.druid_timeline_chunks.proofs.chunks.Chunks.remove.Goals as goal

pub unreachable-requires : goal.unreachable-requires
unreachable-requires c =
    let g : Group = group_of c.args.id.now in
    let none = subst (λ (p : List Chunk × Group). HasNoChunk p.0 p.1) (λ i. ((c.deref.ensures.value ∙ c.self.view_is) i, record { interval = c.interval.ensures.value i; version = c.version.ensures.value i })) c.in_default.ensures.absent in
    nothing_there (members_at c.args.self.now g) c.args.id.now.partition c.args.node (members_at-none c.args.self.now g none) c.requires

pub invariant_of-self : goal.invariant_of-self
invariant_of-self c =
    let cs = c.self.inside.items.items in
    let g : Group = group_of c.args.id.now in
    let own = c.index.result.now in
    let within : c.in-Ok.i < length cs = subst (λ (xs : List Chunk). c.in-Ok.i < length xs) c.deref.ensures.value c.in-Ok.ensures.within in
    let here : get_or cs c.in-Ok.i own ≡ own = sym c.index.ensures in
    let named : record { interval = c.interval.result; version = c.version.result.now } ≡ g = λ i. record { interval = c.interval.ensures.value i; version = c.version.ensures.value i } in
    let at : own.0 ≡ g = ap (λ (x : Chunk). x.0) (sym here) ∙ subst (λ (xs : List Chunk). (get_or xs c.in-Ok.i own).0 ≡ record { interval = c.interval.result; version = c.version.result.now }) c.deref.ensures.value (c.in-Ok.ensures.found own) ∙ named in
    subst AreInOrder (sym c.remove.ensures.items) (AreInOrder-remove cs c.in-Ok.i own c.self.invariant within here)

pub invariant_of-self-2 : goal.invariant_of-self-2
invariant_of-self-2 c =
    let cs = c.self.inside.items.items in
    let g : Group = group_of c.args.id.now in
    let own = c.index_mut-chunk.result.now in
    let within : c.in-Ok.i < length cs = subst (λ (xs : List Chunk). c.in-Ok.i < length xs) c.deref.ensures.value c.in-Ok.ensures.within in
    let here : get_or cs c.in-Ok.i own ≡ own = sym c.index_mut-chunk.ensures.value in
    let named : record { interval = c.interval.result; version = c.version.result.now } ≡ g = λ i. record { interval = c.interval.ensures.value i; version = c.version.ensures.value i } in
    let at : own.0 ≡ g = ap (λ (x : Chunk). x.0) (sym here) ∙ subst (λ (xs : List Chunk). (get_or xs c.in-Ok.i own).0 ≡ record { interval = c.interval.result; version = c.version.result.now }) c.deref.ensures.value (c.in-Ok.ensures.found own) ∙ named in
    let new = c.remove-2.new.self in
    let first : c.index.result.now ≡ own = c.index.ensures ∙ get_or_default cs c.in-Ok.i c.index.result.now own within ∙ here in
    let not : (AllAt own.1 c.partition-2.result c.args.node → ⊥) = λ all. false≢true (sym c.if-only.false ∙ c.is_only-only.ensures.only.1 (subst (λ (p : Chunk × ℕ). AllAt p.0.1 p.1 c.args.node) (λ i. (sym first i, (c.partition-2.ensures.value ∙ sym c.partition.ensures.value) i)) all)) in
    let some = HasMember-removed c.remove-2.result own.1 new.1 c.partition-2.result c.args.node c.remove-2.ensures.removed c.remove-2.ensures.err (subst (λ (x : Chunk). HasMember x.1) here (c.self.invariant.are.inhabited c.in-Ok.i own within)) not in
    let ordered = AreInOrder-set cs c.in-Ok.i own new c.self.invariant within here c.remove-2.ensures.key some in
    ordered

pub remove-requires-2 : goal.remove-requires-2
remove-requires-2 c =
    let cs = c.self.inside.items.items in
    let g : Group = group_of c.args.id.now in
    let own = c.index_mut-chunk.result.now in
    let within : c.in-Ok.i < length cs = subst (λ (xs : List Chunk). c.in-Ok.i < length xs) c.deref.ensures.value c.in-Ok.ensures.within in
    let here : get_or cs c.in-Ok.i own ≡ own = sym c.index_mut-chunk.ensures.value in
    let named : record { interval = c.interval.result; version = c.version.result.now } ≡ g = λ i. record { interval = c.interval.ensures.value i; version = c.version.ensures.value i } in
    let at : own.0 ≡ g = ap (λ (x : Chunk). x.0) (sym here) ∙ subst (λ (xs : List Chunk). (get_or xs c.in-Ok.i own).0 ≡ record { interval = c.interval.result; version = c.version.result.now }) c.deref.ensures.value (c.in-Ok.ensures.found own) ∙ named in
    let old = found_members cs c.args.self.now c.in-Ok.i own g c.self.invariant.are c.self.view_is within here at in
    subst (λ (p : List Member × ℕ). HoldsPlace p.0 p.1 c.args.node) (λ i. (sym old i, sym c.partition-2.ensures.value i)) c.requires

pub returns-then-only-clause-removed : goal.returns-then-only-clause-removed
returns-then-only-clause-removed c =
    let cs = c.self.inside.items.items in
    let g : Group = group_of c.args.id.now in
    let own = c.index.result.now in
    let within : c.in-Ok.i < length cs = subst (λ (xs : List Chunk). c.in-Ok.i < length xs) c.deref.ensures.value c.in-Ok.ensures.within in
    let here : get_or cs c.in-Ok.i own ≡ own = sym c.index.ensures in
    let named : record { interval = c.interval.result; version = c.version.result.now } ≡ g = λ i. record { interval = c.interval.ensures.value i; version = c.version.ensures.value i } in
    let at : own.0 ≡ g = ap (λ (x : Chunk). x.0) (sym here) ∙ subst (λ (xs : List Chunk). (get_or xs c.in-Ok.i own).0 ≡ record { interval = c.interval.result; version = c.version.result.now }) c.deref.ensures.value (c.in-Ok.ensures.found own) ∙ named in
    let old = found_members cs c.args.self.now c.in-Ok.i own g c.self.invariant.are c.self.view_is within here at in
    let now : [] ≡ members_at c.remove.new.self.items g = sym (ap (λ (xs : List Chunk). members_at xs g) c.remove.ensures.items ∙ removed_members cs c.in-Ok.i own g c.self.invariant.are within here at) in
    let all = subst (λ (p : ℕ). AllAt own.1 p c.args.node) c.partition.ensures.value (c.is_only-only.ensures.only.0 c.if-only.true) in
    let removes = RemovesPlace-all own.1 c.args.id.now.partition c.args.node all in
    subst (λ (p : List Member × List Member). RemovesPlace p.0 p.1 c.args.id.now.partition c.args.node) (λ i. (old i, now i)) removes

pub returns-then-only-clause-one : goal.returns-then-only-clause-one
returns-then-only-clause-one c =
    let cs = c.self.inside.items.items in
    let g : Group = group_of c.args.id.now in
    let own = c.index.result.now in
    let within : c.in-Ok.i < length cs = subst (λ (xs : List Chunk). c.in-Ok.i < length xs) c.deref.ensures.value c.in-Ok.ensures.within in
    let here : get_or cs c.in-Ok.i own ≡ own = sym c.index.ensures in
    let named : record { interval = c.interval.result; version = c.version.result.now } ≡ g = λ i. record { interval = c.interval.ensures.value i; version = c.version.ensures.value i } in
    let at : own.0 ≡ g = ap (λ (x : Chunk). x.0) (sym here) ∙ subst (λ (xs : List Chunk). (get_or xs c.in-Ok.i own).0 ≡ record { interval = c.interval.result; version = c.version.result.now }) c.deref.ensures.value (c.in-Ok.ensures.found own) ∙ named in
    let old = found_members cs c.args.self.now c.in-Ok.i own g c.self.invariant.are c.self.view_is within here at in
    let now : [] ≡ members_at c.remove.new.self.items g = sym (ap (λ (xs : List Chunk). members_at xs g) c.remove.ensures.items ∙ removed_members cs c.in-Ok.i own g c.self.invariant.are within here at) in
    let all = subst (λ (p : ℕ). AllAt own.1 p c.args.node) c.partition.ensures.value (c.is_only-only.ensures.only.0 c.if-only.true) in
    let removes = RemovesPlace-all own.1 c.args.id.now.partition c.args.node all in
    let place = subst (λ (ms : List Member). HoldsPlace ms c.args.id.now.partition c.args.node) (sym old) c.requires in
    let once = subst (λ (p : ℕ). ServedOnce own.1 p) c.partition.ensures.value c.is_only-only.ensures.once in
    subst (λ (p : List Member × List Member). RemovesOne p.0 p.1 c.args.id.now.partition c.args.node) (λ i. (old i, now i)) (RemovesOne-once own.1 [] c.args.id.now.partition c.args.node removes place once)

pub returns-then-only-clause-others : goal.returns-then-only-clause-others
returns-then-only-clause-others c q other =
    let cs = c.self.inside.items.items in
    let g : Group = group_of c.args.id.now in
    let own = c.index.result.now in
    let within : c.in-Ok.i < length cs = subst (λ (xs : List Chunk). c.in-Ok.i < length xs) c.deref.ensures.value c.in-Ok.ensures.within in
    let here : get_or cs c.in-Ok.i own ≡ own = sym c.index.ensures in
    let named : record { interval = c.interval.result; version = c.version.result.now } ≡ g = λ i. record { interval = c.interval.ensures.value i; version = c.version.ensures.value i } in
    let at : own.0 ≡ g = ap (λ (x : Chunk). x.0) (sym here) ∙ subst (λ (xs : List Chunk). (get_or xs c.in-Ok.i own).0 ≡ record { interval = c.interval.result; version = c.version.result.now }) c.deref.ensures.value (c.in-Ok.ensures.found own) ∙ named in
    ap (λ (xs : List Chunk). members_at xs q) c.remove.ensures.items ∙ remove-other cs c.in-Ok.i own q within here (λ same. other (sym same ∙ at)) ∙ ap (λ (xs : List Chunk). members_at xs q) c.self.view_is

pub returns-then-only-clause-chunks : goal.returns-then-only-clause-chunks
returns-then-only-clause-chunks c =
    let cs = c.self.inside.items.items in
    let g : Group = group_of c.args.id.now in
    let own = c.index.result.now in
    let within : c.in-Ok.i < length cs = subst (λ (xs : List Chunk). c.in-Ok.i < length xs) c.deref.ensures.value c.in-Ok.ensures.within in
    let here : get_or cs c.in-Ok.i own ≡ own = sym c.index.ensures in
    let named : record { interval = c.interval.result; version = c.version.result.now } ≡ g = λ i. record { interval = c.interval.ensures.value i; version = c.version.ensures.value i } in
    let at : own.0 ≡ g = ap (λ (x : Chunk). x.0) (sym here) ∙ subst (λ (xs : List Chunk). (get_or xs c.in-Ok.i own).0 ≡ record { interval = c.interval.result; version = c.version.result.now }) c.deref.ensures.value (c.in-Ok.ensures.found own) ∙ named in
    subst AreChunks (sym c.remove.ensures.items) (AreInOrder-remove cs c.in-Ok.i own c.self.invariant within here).are

pub returns-clause-removed : goal.returns-clause-removed
returns-clause-removed c =
    let cs = c.self.inside.items.items in
    let g : Group = group_of c.args.id.now in
    let own = c.index_mut-chunk.result.now in
    let within : c.in-Ok.i < length cs = subst (λ (xs : List Chunk). c.in-Ok.i < length xs) c.deref.ensures.value c.in-Ok.ensures.within in
    let here : get_or cs c.in-Ok.i own ≡ own = sym c.index_mut-chunk.ensures.value in
    let named : record { interval = c.interval.result; version = c.version.result.now } ≡ g = λ i. record { interval = c.interval.ensures.value i; version = c.version.ensures.value i } in
    let at : own.0 ≡ g = ap (λ (x : Chunk). x.0) (sym here) ∙ subst (λ (xs : List Chunk). (get_or xs c.in-Ok.i own).0 ≡ record { interval = c.interval.result; version = c.version.result.now }) c.deref.ensures.value (c.in-Ok.ensures.found own) ∙ named in
    let old = found_members cs c.args.self.now c.in-Ok.i own g c.self.invariant.are c.self.view_is within here at in
    let new = c.remove-2.new.self in
    let first : c.index.result.now ≡ own = c.index.ensures ∙ get_or_default cs c.in-Ok.i c.index.result.now own within ∙ here in
    let not : (AllAt own.1 c.partition-2.result c.args.node → ⊥) = λ all. false≢true (sym c.if-only.false ∙ c.is_only-only.ensures.only.1 (subst (λ (p : Chunk × ℕ). AllAt p.0.1 p.1 c.args.node) (λ i. (sym first i, (c.partition-2.ensures.value ∙ sym c.partition.ensures.value) i)) all)) in
    let some = HasMember-removed c.remove-2.result own.1 new.1 c.partition-2.result c.args.node c.remove-2.ensures.removed c.remove-2.ensures.err (subst (λ (x : Chunk). HasMember x.1) here (c.self.invariant.are.inhabited c.in-Ok.i own within)) not in
    let ordered = AreInOrder-set cs c.in-Ok.i own new c.self.invariant within here c.remove-2.ensures.key some in
    let now = written_members cs c.in-Ok.i new g ordered.are within (c.remove-2.ensures.key ∙ at) in
    subst (λ (p : List Member × List Member × ℕ). OnOk c.remove-2.result (RemovesPlace p.0 p.1 p.2 c.args.node)) (λ i. (old i, now i, c.partition-2.ensures.value i)) c.remove-2.ensures.removed

pub returns-clause-one : goal.returns-clause-one
returns-clause-one c =
    let cs = c.self.inside.items.items in
    let g : Group = group_of c.args.id.now in
    let own = c.index_mut-chunk.result.now in
    let within : c.in-Ok.i < length cs = subst (λ (xs : List Chunk). c.in-Ok.i < length xs) c.deref.ensures.value c.in-Ok.ensures.within in
    let here : get_or cs c.in-Ok.i own ≡ own = sym c.index_mut-chunk.ensures.value in
    let named : record { interval = c.interval.result; version = c.version.result.now } ≡ g = λ i. record { interval = c.interval.ensures.value i; version = c.version.ensures.value i } in
    let at : own.0 ≡ g = ap (λ (x : Chunk). x.0) (sym here) ∙ subst (λ (xs : List Chunk). (get_or xs c.in-Ok.i own).0 ≡ record { interval = c.interval.result; version = c.version.result.now }) c.deref.ensures.value (c.in-Ok.ensures.found own) ∙ named in
    let old = found_members cs c.args.self.now c.in-Ok.i own g c.self.invariant.are c.self.view_is within here at in
    let new = c.remove-2.new.self in
    let first : c.index.result.now ≡ own = c.index.ensures ∙ get_or_default cs c.in-Ok.i c.index.result.now own within ∙ here in
    let not : (AllAt own.1 c.partition-2.result c.args.node → ⊥) = λ all. false≢true (sym c.if-only.false ∙ c.is_only-only.ensures.only.1 (subst (λ (p : Chunk × ℕ). AllAt p.0.1 p.1 c.args.node) (λ i. (sym first i, (c.partition-2.ensures.value ∙ sym c.partition.ensures.value) i)) all)) in
    let some = HasMember-removed c.remove-2.result own.1 new.1 c.partition-2.result c.args.node c.remove-2.ensures.removed c.remove-2.ensures.err (subst (λ (x : Chunk). HasMember x.1) here (c.self.invariant.are.inhabited c.in-Ok.i own within)) not in
    let ordered = AreInOrder-set cs c.in-Ok.i own new c.self.invariant within here c.remove-2.ensures.key some in
    let now = written_members cs c.in-Ok.i new g ordered.are within (c.remove-2.ensures.key ∙ at) in
    subst (λ (p : List Member × List Member × ℕ). OnOk c.remove-2.result (RemovesOne p.0 p.1 p.2 c.args.node)) (λ i. (old i, now i, c.partition-2.ensures.value i)) c.remove-2.ensures.one

pub returns-clause-err : goal.returns-clause-err
returns-clause-err c =
    let cs = c.self.inside.items.items in
    let g : Group = group_of c.args.id.now in
    let own = c.index_mut-chunk.result.now in
    let within : c.in-Ok.i < length cs = subst (λ (xs : List Chunk). c.in-Ok.i < length xs) c.deref.ensures.value c.in-Ok.ensures.within in
    let here : get_or cs c.in-Ok.i own ≡ own = sym c.index_mut-chunk.ensures.value in
    let named : record { interval = c.interval.result; version = c.version.result.now } ≡ g = λ i. record { interval = c.interval.ensures.value i; version = c.version.ensures.value i } in
    let at : own.0 ≡ g = ap (λ (x : Chunk). x.0) (sym here) ∙ subst (λ (xs : List Chunk). (get_or xs c.in-Ok.i own).0 ≡ record { interval = c.interval.result; version = c.version.result.now }) c.deref.ensures.value (c.in-Ok.ensures.found own) ∙ named in
    let old = found_members cs c.args.self.now c.in-Ok.i own g c.self.invariant.are c.self.view_is within here at in
    let new = c.remove-2.new.self in
    let first : c.index.result.now ≡ own = c.index.ensures ∙ get_or_default cs c.in-Ok.i c.index.result.now own within ∙ here in
    let not : (AllAt own.1 c.partition-2.result c.args.node → ⊥) = λ all. false≢true (sym c.if-only.false ∙ c.is_only-only.ensures.only.1 (subst (λ (p : Chunk × ℕ). AllAt p.0.1 p.1 c.args.node) (λ i. (sym first i, (c.partition-2.ensures.value ∙ sym c.partition.ensures.value) i)) all)) in
    let some = HasMember-removed c.remove-2.result own.1 new.1 c.partition-2.result c.args.node c.remove-2.ensures.removed c.remove-2.ensures.err (subst (λ (x : Chunk). HasMember x.1) here (c.self.invariant.are.inhabited c.in-Ok.i own within)) not in
    let ordered = AreInOrder-set cs c.in-Ok.i own new c.self.invariant within here c.remove-2.ensures.key some in
    let now = written_members cs c.in-Ok.i new g ordered.are within (c.remove-2.ensures.key ∙ at) in
    subst (λ (p : List Member × List Member). OnErr c.remove-2.result (SameMembers p.0 p.1)) (λ i. (old i, now i)) c.remove-2.ensures.err

pub returns-clause-whole : goal.returns-clause-whole
returns-clause-whole c all =
    let cs = c.self.inside.items.items in
    let g : Group = group_of c.args.id.now in
    let own = c.index_mut-chunk.result.now in
    let within : c.in-Ok.i < length cs = subst (λ (xs : List Chunk). c.in-Ok.i < length xs) c.deref.ensures.value c.in-Ok.ensures.within in
    let here : get_or cs c.in-Ok.i own ≡ own = sym c.index_mut-chunk.ensures.value in
    let named : record { interval = c.interval.result; version = c.version.result.now } ≡ g = λ i. record { interval = c.interval.ensures.value i; version = c.version.ensures.value i } in
    let at : own.0 ≡ g = ap (λ (x : Chunk). x.0) (sym here) ∙ subst (λ (xs : List Chunk). (get_or xs c.in-Ok.i own).0 ≡ record { interval = c.interval.result; version = c.version.result.now }) c.deref.ensures.value (c.in-Ok.ensures.found own) ∙ named in
    let old = found_members cs c.args.self.now c.in-Ok.i own g c.self.invariant.are c.self.view_is within here at in
    let new = c.remove-2.new.self in
    let first : c.index.result.now ≡ own = c.index.ensures ∙ get_or_default cs c.in-Ok.i c.index.result.now own within ∙ here in
    let not : (AllAt own.1 c.partition-2.result c.args.node → ⊥) = λ all. false≢true (sym c.if-only.false ∙ c.is_only-only.ensures.only.1 (subst (λ (p : Chunk × ℕ). AllAt p.0.1 p.1 c.args.node) (λ i. (sym first i, (c.partition-2.ensures.value ∙ sym c.partition.ensures.value) i)) all)) in
    absurd (not (subst (λ (p : List Member × ℕ). AllAt p.0 p.1 c.args.node) (λ i. (sym old i, sym c.partition-2.ensures.value i)) all))

pub returns-clause-others : goal.returns-clause-others
returns-clause-others c q other =
    let cs = c.self.inside.items.items in
    let g : Group = group_of c.args.id.now in
    let own = c.index_mut-chunk.result.now in
    let within : c.in-Ok.i < length cs = subst (λ (xs : List Chunk). c.in-Ok.i < length xs) c.deref.ensures.value c.in-Ok.ensures.within in
    let here : get_or cs c.in-Ok.i own ≡ own = sym c.index_mut-chunk.ensures.value in
    let named : record { interval = c.interval.result; version = c.version.result.now } ≡ g = λ i. record { interval = c.interval.ensures.value i; version = c.version.ensures.value i } in
    let at : own.0 ≡ g = ap (λ (x : Chunk). x.0) (sym here) ∙ subst (λ (xs : List Chunk). (get_or xs c.in-Ok.i own).0 ≡ record { interval = c.interval.result; version = c.version.result.now }) c.deref.ensures.value (c.in-Ok.ensures.found own) ∙ named in
    set-other cs c.in-Ok.i own c.remove-2.new.self q within here c.remove-2.ensures.key (λ same. other (sym same ∙ at)) ∙ ap (λ (xs : List Chunk). members_at xs q) c.self.view_is

pub returns-clause-chunks : goal.returns-clause-chunks
returns-clause-chunks c =
    let cs = c.self.inside.items.items in
    let g : Group = group_of c.args.id.now in
    let own = c.index_mut-chunk.result.now in
    let within : c.in-Ok.i < length cs = subst (λ (xs : List Chunk). c.in-Ok.i < length xs) c.deref.ensures.value c.in-Ok.ensures.within in
    let here : get_or cs c.in-Ok.i own ≡ own = sym c.index_mut-chunk.ensures.value in
    let named : record { interval = c.interval.result; version = c.version.result.now } ≡ g = λ i. record { interval = c.interval.ensures.value i; version = c.version.ensures.value i } in
    let at : own.0 ≡ g = ap (λ (x : Chunk). x.0) (sym here) ∙ subst (λ (xs : List Chunk). (get_or xs c.in-Ok.i own).0 ≡ record { interval = c.interval.result; version = c.version.result.now }) c.deref.ensures.value (c.in-Ok.ensures.found own) ∙ named in
    let new = c.remove-2.new.self in
    let first : c.index.result.now ≡ own = c.index.ensures ∙ get_or_default cs c.in-Ok.i c.index.result.now own within ∙ here in
    let not : (AllAt own.1 c.partition-2.result c.args.node → ⊥) = λ all. false≢true (sym c.if-only.false ∙ c.is_only-only.ensures.only.1 (subst (λ (p : Chunk × ℕ). AllAt p.0.1 p.1 c.args.node) (λ i. (sym first i, (c.partition-2.ensures.value ∙ sym c.partition.ensures.value) i)) all)) in
    let some = HasMember-removed c.remove-2.result own.1 new.1 c.partition-2.result c.args.node c.remove-2.ensures.removed c.remove-2.ensures.err (subst (λ (x : Chunk). HasMember x.1) here (c.self.invariant.are.inhabited c.in-Ok.i own within)) not in
    let ordered = AreInOrder-set cs c.in-Ok.i own new c.self.invariant within here c.remove-2.ensures.key some in
    ordered.are
