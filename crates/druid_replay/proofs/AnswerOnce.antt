-- A line is answered in one way.
use Rattle.std.proofs.Common.{◌≡◌, ◌↔◌, ℕ, Bool, true, false, IsTrue, List, All, map, replicate, Option, None, Some, Result, Ok, Err, ◌⊎◌, inl, inr, slice_get, slice_set, refl, sym, ap, subst, ◌∙◌, arith}
use Rattle.std.proofs.lemmas.Bool.{false≢true}
use Rattle.std.proofs.lemmas.Option.{same_Some}
use Rattle.serde_json.specs.Data.{Data}
use Rattle.druid_time.specs.Extent.{Extent}
use Rattle.druid_time.specs.Texts.{extent_at}
use Rattle.druid_time.specs.declared.fault.TimeFault.{TimeFault}
use Rattle.druid_time.specs.declared.fault.TimeFault.TheVariants as times
use Rattle.druid_segment_id.specs.Names.{IsName}
use Rattle.druid_segment_descriptor.specs.declared.reply.Body.{Body}
use Rattle.druid_timeline.specs.Pieces.{Reported}
use Rattle.druid_inventory.specs.Entry.{Entry, fresh}
use Rattle.druid_base.specs.Distinct.{AreDistinct}
use Rattle.druid_inventory.specs.Step.{Steps, Refuses, Reports}
use Rattle.druid_inventory.specs.declared.fault.ApplyFault.{ApplyFault}
use Rattle.druid_inventory.specs.declared.fault.ApplyFault.TheVariants as steps
use Rattle.druid_inventory.specs.declared.fault.Outcome.{Outcome}
use Rattle.druid_inventory.proofs.StepLemmas.{Steps-one, Refuses-one, Steps-not_refused}
use Rattle.druid_sync_text.specs.Read.{IsRead, form_at}
use Rattle.druid_sync_text.specs.declared.fault.SyncFault.{SyncFault}
use Rattle.druid_sync_text.specs.declared.fault.SyncFault.TheVariants as replies
use Rattle.druid_inventory.specs.declared.fault.JoinFault.{JoinFault}
use Rattle.druid_inventory.proofs.JoinLemmas.{refused_or_joined, one_refusal}
use Rattle.druid_replay.specs.Commands.{Opening, Command, reply, lookup, marks, join, equal}
use Rattle.druid_replay.specs.declared.reason.BadLine.{BadLine}
use Rattle.druid_replay.specs.Execution.{TakesBrokers, read_refusal, not_applied, not_joined, RefusesReply, TakesReply, IsFound, LooksUp, Holds, JoinsInto, Does, Answers, IsNoCommand, IsAnswered, IsBad, IsBadFor, fault_in}
use Rattle.druid_replay.specs.declared.answer.Refusal.{Refusal}
use Rattle.druid_replay.specs.declared.answer.Refusal.TheVariants as refusals
use Rattle.druid_replay.specs.declared.answer.CommandAnswer.{CommandAnswer}
use Rattle.druid_replay.specs.declared.answer.CommandAnswer.TheVariants.{Refused, Taken, Stepped, Found, Marked, Joined, Compared}
use Rattle.druid_replay.proofs.ReadOnce.{IsKnown, read_once}
use Rattle.druid_replay.proofs.HoldingOnce.{found_once}

-- one answer, and one state after it
abbrev pub IsOne : {S : Type 0} → CommandAnswer → CommandAnswer → S → S → Type 0
IsOne a b next other = (a ≡ b) × (next ≡ other)

both : {S : Type 0} (x : CommandAnswer) (at : S) (a b : CommandAnswer) (next other : S) → a ≡ x → b ≡ x → next ≡ at → other ≡ at → IsOne a b next other
both x at a b next other is too stays same = (is ∙ sym too, stays ∙ sym same)

-- ---- brokers: what is judged, in order

abbrev pub OfNames : Opening → CommandAnswer → Option (List (List Entry)) → Type 0
OfNames o answer next =
    ((AreDistinct o.names → ⊥) × (answer ≡ Refused refusals.DoubledNode) × (next ≡ None))
    ⊎ (AreDistinct o.names × (answer ≡ Taken o.count) × (next ≡ Some (replicate o.count (map fresh o.names))))

abbrev pub OfBrokers : Opening → CommandAnswer → Option (List (List Entry)) → Type 0
OfBrokers o answer next =
    ((All IsName o.names → ⊥) × (answer ≡ Refused refusals.BadName) × (next ≡ None))
    ⊎ (All IsName o.names × OfNames o answer next)

pub brokers_tree : (o : Opening) (answer : CommandAnswer) (next : Option (List (List Entry))) → TakesBrokers o answer next → OfBrokers o answer next
brokers_tree o (Refused refusals.NotATime) next h = absurd h
brokers_tree o (Refused refusals.OutOfRange) next h = absurd h
brokers_tree o (Refused refusals.Empty) next h = absurd h
brokers_tree o (Refused refusals.BadName) next h = inl (h.0, refl, h.1)
brokers_tree o (Refused refusals.DoubledNode) next h = inr (h.0, inl (h.1, refl, h.2))
brokers_tree o (Refused refusals.Shape) next h = absurd h
brokers_tree o (Refused refusals.TooMany) next h = absurd h
brokers_tree o (Refused refusals.LengthOfDelta) next h = absurd h
brokers_tree o (Refused refusals.DoubledSegment) next h = absurd h
brokers_tree o (Refused refusals.BadPage) next h = absurd h
brokers_tree o (Refused refusals.UnknownNode) next h = absurd h
brokers_tree o (Refused refusals.OtherIncarnation) next h = absurd h
brokers_tree o (Refused refusals.Gap) next h = absurd h
brokers_tree o (Refused refusals.NotStrict) next h = absurd h
brokers_tree o (Refused refusals.TooManySegments) next h = absurd h
brokers_tree o (Refused refusals.Conflict) next h = absurd h
brokers_tree o (Refused refusals.PageConflict) next h = absurd h
brokers_tree o (Refused refusals.OtherNodes) next h = absurd h
brokers_tree o (Refused refusals.OtherSets) next h = absurd h
brokers_tree o (Taken count) next h = inr (h.0.0, inr (h.0.1, ap Taken h.1, h.2))
brokers_tree o (Stepped mark outcome) next h = absurd h
brokers_tree o (Found pieces) next h = absurd h
brokers_tree o (Marked reported) next h = absurd h
brokers_tree o (Joined broker) next h = absurd h
brokers_tree o (Compared same) next h = absurd h

names_once : (o : Opening) (a b : CommandAnswer) (next other : Option (List (List Entry))) → OfNames o a next → OfNames o b other → IsOne a b next other
names_once o a b next other (inl x) (inl y) = both _ _ a b next other x.1 y.1 x.2 y.2
names_once o a b next other (inl x) (inr y) = absurd (x.0 y.0)
names_once o a b next other (inr x) (inl y) = absurd (y.0 x.0)
names_once o a b next other (inr x) (inr y) = both _ _ a b next other x.1 y.1 x.2 y.2

brokers_once : (o : Opening) (a b : CommandAnswer) (next other : Option (List (List Entry))) → OfBrokers o a next → OfBrokers o b other → IsOne a b next other
brokers_once o a b next other (inl x) (inl y) = both _ _ a b next other x.1 y.1 x.2 y.2
brokers_once o a b next other (inl x) (inr y) = absurd (x.0 y.0)
brokers_once o a b next other (inr x) (inl y) = absurd (y.0 x.0)
brokers_once o a b next other (inr x) (inr y) = names_once o a b next other x.1 y.1

-- ---- a reply: what is judged, in order

abbrev pub OfEntry : List Entry → ℕ → Body → Entry → CommandAnswer → List Entry → Type 0
OfEntry inventory node body e answer next =
    ((fault : ApplyFault) × (refusal : Refusal) × Refuses e body fault × (not_applied fault ≡ Some refusal)
    × (answer ≡ Refused refusal) × (next ≡ inventory))
    ⊎ ((outcome : Outcome) × (new : Entry) × Steps e body outcome new × (answer ≡ Stepped new.mark outcome) × (next ≡ slice_set inventory node new))

abbrev pub OfBody : List Entry → ℕ → Body → CommandAnswer → List Entry → Type 0
OfBody inventory node body answer next =
    ((slice_get inventory node ≡ None) × (answer ≡ Refused refusals.UnknownNode) × (next ≡ inventory))
    ⊎ ((e : Entry) × (slice_get inventory node ≡ Some e) × OfEntry inventory node body e answer next)

abbrev pub OfRead : List Entry → ℕ → Result Body SyncFault → CommandAnswer → List Entry → Type 0
OfRead inventory node (Ok body) answer next = OfBody inventory node body answer next
OfRead inventory node (Err fault) answer next =
    (refusal : Refusal) × (read_refusal fault ≡ Some refusal) × (answer ≡ Refused refusal) × (next ≡ inventory)

abbrev pub OfReply : List Entry → ℕ → Data → CommandAnswer → List Entry → Type 0
OfReply inventory node d answer next =
    (r : Result Body SyncFault) × IsRead d r × OfRead inventory node r answer next

reported_tree : (inventory : List Entry) (node : ℕ) (body : Body) (fault : ApplyFault) (refusal : Refusal)
    → Reports inventory node body fault → not_applied fault ≡ Some refusal → OfBody inventory node body (Refused refusal) inventory
reported_tree inventory node body steps.UnknownNode refusal h is =
    inl (h, ap Refused (sym (same_Some refusals.UnknownNode refusal is)), refl)
reported_tree inventory node body steps.OtherIncarnation refusal h is = inr (h.0, h.1, inl (_, refusal, h.2, is, refl, refl))
reported_tree inventory node body steps.Gap refusal h is = inr (h.0, h.1, inl (_, refusal, h.2, is, refl, refl))
reported_tree inventory node body (steps.NotStrict index) refusal h is = inr (h.0, h.1, inl (_, refusal, h.2, is, refl, refl))
reported_tree inventory node body steps.TooMany refusal h is = inr (h.0, h.1, inl (_, refusal, h.2, is, refl, refl))
reported_tree inventory node body steps.Conflict refusal h is = inr (h.0, h.1, inl (_, refusal, h.2, is, refl, refl))
reported_tree inventory node body steps.PageConflict refusal h is = inr (h.0, h.1, inl (_, refusal, h.2, is, refl, refl))
reported_tree inventory node body steps.Memory refusal h is = absurd cc

refused_tree : (inventory : List Entry) (node : ℕ) (d : Data) (refusal : Refusal)
    → RefusesReply inventory node d refusal → OfReply inventory node d (Refused refusal) inventory
refused_tree inventory node d refusal (inl x) = (Err x.0, x.1, (refusal, x.2, refl, refl))
refused_tree inventory node d refusal (inr x) = (Ok x.0, x.1, reported_tree inventory node x.0 x.2 refusal x.3 x.4)

pub reply_tree : (inventory : List Entry) (node : ℕ) (d : Data) (answer : CommandAnswer) (next : List Entry) → TakesReply inventory node d answer next → OfReply inventory node d answer next
reply_tree inventory node d (Refused refusal) next h =
    subst (λ (s : List Entry). OfReply inventory node d (Refused refusal) s) (sym h.1) (refused_tree inventory node d refusal h.0)
reply_tree inventory node d (Taken count) next h = absurd h
reply_tree inventory node d (Stepped mark outcome) next h =
    (Ok h.0, h.1, inr (h.3.0, h.3.1, inr (outcome, h.2, h.3.2, (λ i. Stepped (h.5 i) outcome), h.4)))
reply_tree inventory node d (Found pieces) next h = absurd h
reply_tree inventory node d (Marked reported) next h = absurd h
reply_tree inventory node d (Joined broker) next h = absurd h
reply_tree inventory node d (Compared same) next h = absurd h

entry_once : (inventory : List Entry) (node : ℕ) (body : Body) (e : Entry) (a b : CommandAnswer) (next other : List Entry) → OfEntry inventory node body e a next → OfEntry inventory node body e b other → IsOne a b next other
entry_once inventory node body e a b next other (inl x) (inl y) =
    let same : x.0 ≡ y.0 = Refuses-one e body x.0 y.0 x.2 y.2 in
    let one : x.1 ≡ y.1 = same_Some x.1 y.1 (sym x.3 ∙ ap (λ (f : ApplyFault). not_applied f) same ∙ y.3) in
    (x.4 ∙ ap Refused one ∙ sym y.4, x.5 ∙ sym y.5)
entry_once inventory node body e a b next other (inl x) (inr y) = absurd (Steps-not_refused e body y.0 y.1 x.0 y.2 x.2)
entry_once inventory node body e a b next other (inr x) (inl y) = absurd (Steps-not_refused e body x.0 x.1 y.0 x.2 y.2)
entry_once inventory node body e a b next other (inr x) (inr y) =
    let one = Steps-one e body x.0 y.0 x.1 y.1 x.2 y.2 in
    let same : Stepped x.1.mark x.0 ≡ Stepped y.1.mark y.0 = (λ i. Stepped (one.1 i).mark (one.0 i)) in
    (x.3 ∙ same ∙ sym y.3, x.4 ∙ ap (slice_set inventory node) one.1 ∙ sym y.4)

found_entry : (inventory : List Entry) (node : ℕ) (body : Body) (a b : CommandAnswer) (next other : List Entry) → OfBody inventory node body a next → OfBody inventory node body b other → IsOne a b next other
found_entry inventory node body a b next other (inl x) (inl y) = both _ _ a b next other x.1 y.1 x.2 y.2
found_entry inventory node body a b next other (inl x) (inr y) = let none = x.0 in let some = y.1 in absurd cc
found_entry inventory node body a b next other (inr x) (inl y) = let none = y.0 in let some = x.1 in absurd cc
found_entry inventory node body a b next other (inr x) (inr y) =
    let same : y.0 ≡ x.0 = same_Some y.0 x.0 (sym y.1 ∙ x.1) in
    entry_once inventory node body x.0 a b next other x.2 (subst (λ (e : Entry). OfEntry inventory node body e b other) same y.2)

-- what is answered wants no memory
known : (inventory : List Entry) (node : ℕ) (r : Result Body SyncFault) (answer : CommandAnswer) (next : List Entry) → OfRead inventory node r answer next → IsKnown r
known inventory node (Ok body) answer next h e = cc
known inventory node (Err replies.NotJson) answer next h e = cc
known inventory node (Err replies.Shape) answer next h e = cc
known inventory node (Err replies.TooMany) answer next h e = cc
known inventory node (Err replies.LengthOfDelta) answer next h e = cc
known inventory node (Err replies.DoubledSegment) answer next h e = cc
known inventory node (Err replies.BadPage) answer next h e = cc
known inventory node (Err replies.Memory) answer next h e = let reported = h.1 in cc

judged_once : (inventory : List Entry) (node : ℕ) (r : Result Body SyncFault) (a b : CommandAnswer) (next other : List Entry) → OfRead inventory node r a next → OfRead inventory node r b other → IsOne a b next other
judged_once inventory node (Ok body) a b next other x y = found_entry inventory node body a b next other x y
judged_once inventory node (Err fault) a b next other x y =
    let one : x.0 ≡ y.0 = same_Some x.0 y.0 (sym x.1 ∙ y.1) in
    (x.2 ∙ ap Refused one ∙ sym y.2, x.3 ∙ sym y.3)

reply_once : (inventory : List Entry) (node : ℕ) (d : Data) (a b : CommandAnswer) (next other : List Entry) → OfReply inventory node d a next → OfReply inventory node d b other → IsOne a b next other
reply_once inventory node d a b next other x y =
    let same : y.0 ≡ x.0 = read_once (form_at d) y.0 x.0 y.1 x.1 (known inventory node y.0 b other y.2) (known inventory node x.0 a next x.2) in
    judged_once inventory node x.0 a b next other x.2 (subst (λ (r : Result Body SyncFault). OfRead inventory node r b other) same y.2)

-- ---- a lookup: what is judged, in order

abbrev refusal_of : TimeFault → Refusal
refusal_of times.NotATime = refusals.NotATime
refusal_of times.OutOfRange = refusals.OutOfRange
refusal_of times.Empty = refusals.Empty

abbrev pub OfSource : List Entry → List ℕ → Extent → CommandAnswer → Type 0
OfSource inventory source asked answer =
    ((IsName source → ⊥) × (answer ≡ Refused refusals.BadName))
    ⊎ (IsName source × (pieces : List Reported) × IsFound inventory source asked pieces × (answer ≡ Found pieces))

abbrev pub OfLookup : List Entry → List ℕ → List ℕ → CommandAnswer → Type 0
OfLookup inventory interval source answer =
    ((fault : TimeFault) × (extent_at interval ≡ Err fault) × (answer ≡ Refused (refusal_of fault)))
    ⊎ ((asked : Extent) × (extent_at interval ≡ Ok asked) × OfSource inventory source asked answer)

lookup_tree : (inventory : List Entry) (interval source : List ℕ) (answer : CommandAnswer) → LooksUp inventory interval source answer → OfLookup inventory interval source answer
lookup_tree inventory interval source (Refused refusals.NotATime) h = inl (times.NotATime, h, refl)
lookup_tree inventory interval source (Refused refusals.OutOfRange) h = inl (times.OutOfRange, h, refl)
lookup_tree inventory interval source (Refused refusals.Empty) h = inl (times.Empty, h, refl)
lookup_tree inventory interval source (Refused refusals.BadName) h = inr (h.0, h.1, inl (h.2, refl))
lookup_tree inventory interval source (Refused refusals.DoubledNode) h = absurd h
lookup_tree inventory interval source (Refused refusals.Shape) h = absurd h
lookup_tree inventory interval source (Refused refusals.TooMany) h = absurd h
lookup_tree inventory interval source (Refused refusals.LengthOfDelta) h = absurd h
lookup_tree inventory interval source (Refused refusals.DoubledSegment) h = absurd h
lookup_tree inventory interval source (Refused refusals.BadPage) h = absurd h
lookup_tree inventory interval source (Refused refusals.UnknownNode) h = absurd h
lookup_tree inventory interval source (Refused refusals.OtherIncarnation) h = absurd h
lookup_tree inventory interval source (Refused refusals.Gap) h = absurd h
lookup_tree inventory interval source (Refused refusals.NotStrict) h = absurd h
lookup_tree inventory interval source (Refused refusals.TooManySegments) h = absurd h
lookup_tree inventory interval source (Refused refusals.Conflict) h = absurd h
lookup_tree inventory interval source (Refused refusals.PageConflict) h = absurd h
lookup_tree inventory interval source (Refused refusals.OtherNodes) h = absurd h
lookup_tree inventory interval source (Refused refusals.OtherSets) h = absurd h
lookup_tree inventory interval source (Taken count) h = absurd h
lookup_tree inventory interval source (Stepped mark outcome) h = absurd h
lookup_tree inventory interval source (Found pieces) h = inr (h.0, h.1, inr (h.2, pieces, h.3, refl))
lookup_tree inventory interval source (Marked reported) h = absurd h
lookup_tree inventory interval source (Joined broker) h = absurd h
lookup_tree inventory interval source (Compared same) h = absurd h

pieces_found_once : (inventory : List Entry) (source : List ℕ) (asked : Extent) (ps qs : List Reported) → IsFound inventory source asked ps → IsFound inventory source asked qs → ps ≡ qs
pieces_found_once inventory source asked ps qs (inl x) (inl y) = x.1 ∙ sym y.1
pieces_found_once inventory source asked ps qs (inl x) (inr y) = absurd (x.0 y.0)
pieces_found_once inventory source asked ps qs (inr x) (inl y) = absurd (y.0 x.0)
pieces_found_once inventory source asked ps qs (inr x) (inr y) =
    found_once asked x.1 y.1 ps qs (λ h. (λ there. (x.2 h).1 ((y.2 h).0 there), λ there. (y.2 h).1 ((x.2 h).0 there))) x.3 y.3

source_once : (inventory : List Entry) (source : List ℕ) (asked : Extent) (a b : CommandAnswer) → OfSource inventory source asked a → OfSource inventory source asked b → a ≡ b
source_once inventory source asked a b (inl x) (inl y) = x.1 ∙ sym y.1
source_once inventory source asked a b (inl x) (inr y) = absurd (x.0 y.0)
source_once inventory source asked a b (inr x) (inl y) = absurd (y.0 x.0)
source_once inventory source asked a b (inr x) (inr y) =
    x.3 ∙ ap Found (pieces_found_once inventory source asked x.1 y.1 x.2 y.2) ∙ sym y.3

same_Ok : {A E : Type 0} (r : Result A E) (x y : A) → r ≡ Ok x → r ≡ Ok y → x ≡ y
same_Ok r x y e f = cc

same_Err : {A E : Type 0} (r : Result A E) (x y : E) → r ≡ Err x → r ≡ Err y → x ≡ y
same_Err r x y e f = cc

lookup_once : (inventory : List Entry) (interval source : List ℕ) (a b : CommandAnswer) → OfLookup inventory interval source a → OfLookup inventory interval source b → a ≡ b
lookup_once inventory interval source a b (inl x) (inl y) =
    let same : x.0 ≡ y.0 = same_Err (extent_at interval) x.0 y.0 x.1 y.1 in
    x.2 ∙ ap (λ (f : TimeFault). Refused (refusal_of f)) same ∙ sym y.2
lookup_once inventory interval source a b (inl x) (inr y) = let bad = x.1 in let good = y.1 in absurd cc
lookup_once inventory interval source a b (inr x) (inl y) = let bad = y.1 in let good = x.1 in absurd cc
lookup_once inventory interval source a b (inr x) (inr y) =
    let same : y.0 ≡ x.0 = same_Ok (extent_at interval) y.0 x.0 y.1 x.1 in
    source_once inventory source x.0 a b x.2 (subst (λ (e : Extent). OfSource inventory source e b) same y.2)

-- ---- joins and comparisons

join_once : (brokers : List (List Entry)) (into : ℕ) (own with : List Entry) (a b : CommandAnswer) (next other : List (List Entry)) → JoinsInto brokers into own with a next → JoinsInto brokers into own with b other → IsOne a b next other
join_once brokers into own with a b next other (inl x) (inl y) =
    (x.2 ∙ sym y.2, x.3 ∙ ap (slice_set brokers into) (x.1.entries ∙ sym y.1.entries) ∙ sym y.3)
join_once brokers into own with a b next other (inl x) (inr y) = absurd (refused_or_joined own with x.0 y.0 y.1 x.1)
join_once brokers into own with a b next other (inr x) (inl y) = absurd (refused_or_joined own with y.0 x.0 x.1 y.1)
join_once brokers into own with a b next other (inr x) (inr y) =
    let same : x.0 ≡ y.0 = one_refusal own with x.0 y.0 x.1 y.1 in
    let one : x.2 ≡ y.2 = same_Some x.2 y.2 (sym x.3 ∙ ap (λ (f : JoinFault). not_joined f) same ∙ y.3) in
    (x.4 ∙ ap Refused one ∙ sym y.4, x.5 ∙ sym y.5)

same_test : (s t : Bool) (P : Type 0) → IsTrue s ↔ P → IsTrue t ↔ P → s ≡ t
same_test true true P h k = refl
same_test true false P h k = absurd (false≢true (k.1 (h.0 refl)))
same_test false true P h k = absurd (false≢true (h.1 (k.0 refl)))
same_test false false P h k = refl

found_same : (brokers : List (List Entry)) (broker : ℕ) (x y : List Entry) → Holds brokers broker x → Holds brokers broker y → y ≡ x
found_same brokers broker x y h k = same_Some y x (sym k ∙ h)

-- ---- lines

done_once : (brokers : List (List Entry)) (command : Command) (a b : CommandAnswer) (next other : List (List Entry)) → Does brokers command a next → Does brokers command b other → IsOne a b next other
done_once brokers (reply broker node body) a b next other x y =
    let same = found_same brokers broker x.0 y.0 x.2 y.2 in
    let there = subst (λ (i : List Entry). TakesReply i node body b y.1) same y.3 in
    let one = reply_once x.0 node body a b x.1 y.1 (reply_tree x.0 node body a x.1 x.3) (reply_tree x.0 node body b y.1 there) in
    (one.0, x.4 ∙ ap (slice_set brokers broker) one.1 ∙ sym y.4)
done_once brokers (lookup broker interval source) a b next other x y =
    let same = found_same brokers broker x.0 y.0 x.1 y.1 in
    let there = subst (λ (i : List Entry). LooksUp i interval source b) same y.2 in
    (lookup_once x.0 interval source a b (lookup_tree x.0 interval source a x.2) (lookup_tree x.0 interval source b there), x.3 ∙ sym y.3)
done_once brokers (marks broker) a b next other x y =
    let same = found_same brokers broker x.0 y.0 x.1 y.1 in
    (x.2 ∙ ap (λ (i : List Entry). Marked (map (λ e. e.mark) i)) (sym same) ∙ sym y.2, x.3 ∙ sym y.3)
done_once brokers (join from into) a b next other x y =
    let own = found_same brokers into x.0 y.0 x.2 y.2 in
    let with = found_same brokers from x.1 y.1 x.3 y.3 in
    let there = subst (λ (i : List Entry). JoinsInto brokers into i x.1 b other) own (subst (λ (i : List Entry). JoinsInto brokers into y.0 i b other) with y.4) in
    join_once brokers into x.0 x.1 a b next other x.4 there
done_once brokers (equal left right) a b next other x y =
    let one = found_same brokers left x.0 y.0 x.2 y.2 in
    let with = found_same brokers right x.1 y.1 x.3 y.3 in
    let there = subst (λ (i : List Entry). IsTrue y.4 ↔ (i ≡ x.1)) one (subst (λ (i : List Entry). IsTrue y.4 ↔ (y.0 ≡ i)) with y.5) in
    (x.6 ∙ ap Compared (same_test x.4 y.4 (x.0 ≡ x.1) x.5 there) ∙ sym y.6, x.7 ∙ sym y.7)

given_once : (state : Option (List (List Entry))) (d : Data) (a b : CommandAnswer) (next other : Option (List (List Entry))) → Answers state d a next → Answers state d b other → IsOne a b next other
given_once None d a b next other x y =
    let same : y.0 ≡ x.0 = same_Some y.0 x.0 (sym y.1 ∙ x.1) in
    let there = subst (λ (o : Opening). TakesBrokers o b other) same y.2 in
    brokers_once x.0 a b next other (brokers_tree x.0 a next x.2) (brokers_tree x.0 b other there)
given_once (Some brokers) d a b next other x y =
    let same : y.0 ≡ x.0 = same_Some y.0 x.0 (sym y.1 ∙ x.1) in
    let there = subst (λ (c : Command). Does brokers c b y.2) same y.4 in
    let one = done_once brokers x.0 a b x.2 y.2 x.4 there in
    (one.0, x.3 ∙ ap Some one.1 ∙ sym y.3)

-- a line is answered in one way
pub answered_once : (state : Option (List (List Entry))) (line : List ℕ) (a b : CommandAnswer) (next other : Option (List (List Entry))) → IsAnswered state line a next → IsAnswered state line b other → IsOne a b next other
answered_once state line a b next other x y =
    let same : y.1 ≡ x.1 = same_Some y.1 x.1 (sym y.2.1 ∙ x.2.1) in
    given_once state x.1 a b next other x.3 (subst (λ (d : Data). Answers state d b other) same y.3)

is_command : (state next : Option (List (List Entry))) (d : Data) (answer : CommandAnswer) → Answers state d answer next → IsNoCommand state d → ⊥
is_command None next d answer given none = let read = given.1 in cc
is_command (Some brokers) next d answer given none = let read = given.1 in cc

-- and is not bad
pub answered_not_bad : (state next : Option (List (List Entry))) (line : List ℕ) (answer : CommandAnswer) → IsAnswered state line answer next → IsBad state line → ⊥
answered_not_bad state next line answer given (why, inl long) = absurd (omega (arith, given.0, long.0))
answered_not_bad state next line answer given (why, inr (inl bad)) = bad.1 given.1 given.2
answered_not_bad state next line answer given (why, inr (inr bad)) =
    let same : bad.1 ≡ given.1 = same_Some bad.1 given.1 (sym bad.2.1 ∙ given.2.1) in
    is_command state next given.1 answer given.3 (subst (IsNoCommand state) same bad.3)

-- a line is bad for one reason
pub bad_once : (state : Option (List (List Entry))) (line : List ℕ) (a b : BadLine) → IsBadFor state line a → IsBadFor state line b → a ≡ b
bad_once state line a b (inl x) (inl y) = x.1 ∙ sym y.1
bad_once state line a b (inl x) (inr (inl y)) = absurd (omega (arith, x.0, y.0))
bad_once state line a b (inl x) (inr (inr y)) = absurd (omega (arith, x.0, y.0))
bad_once state line a b (inr (inl x)) (inl y) = absurd (omega (arith, x.0, y.0))
bad_once state line a b (inr (inl x)) (inr (inl y)) = x.2 ∙ sym y.2
bad_once state line a b (inr (inl x)) (inr (inr y)) = absurd (x.1 y.1 y.2)
bad_once state line a b (inr (inr x)) (inl y) = absurd (omega (arith, x.0, y.0))
bad_once state line a b (inr (inr x)) (inr (inl y)) = absurd (y.1 x.1 x.2)
bad_once state line a b (inr (inr x)) (inr (inr y)) =
    let same : x.1 ≡ y.1 = same_Some x.1 y.1 (sym x.2.1 ∙ y.2.1) in
    x.4 ∙ ap (fault_in state) same ∙ sym y.4
