-- Brokers keep one list of nodes.
use Rattle.std.proofs.Common.{◌≡◌, ℕ, zero, suc, List, [], ◌∷◌, All, map, Option, None, Some, Result, Ok, Err, slice_get, slice_set, inl, inr, refl, sym, ap, subst, ◌∙◌}
use Rattle.std.proofs.lemmas.List.Elements.{All-set, All-replicate, All-head, All-tail}
use Rattle.std.proofs.lemmas.Option.{same_Some, none-some}
use Rattle.serde_json.specs.Data.{Data}
use Rattle.druid_segment_descriptor.specs.declared.reply.Body.{Body}
use Rattle.druid_segment_descriptor.specs.declared.reply.Body.TheVariants.{Delta, Snapshot, Page, Reset}
use Rattle.druid_inventory.specs.Entry.{Entry, fresh}
use Rattle.druid_inventory.specs.Join.{names_of, RefusesJoin}
use Rattle.druid_inventory.specs.Step.{Steps}
use Rattle.druid_inventory.specs.declared.fault.ApplyFault.{ApplyFault}
use Rattle.druid_inventory.specs.declared.fault.ApplyFault.TheVariants as steps
use Rattle.druid_inventory.specs.declared.fault.JoinFault.{JoinFault}
use Rattle.druid_inventory.specs.declared.fault.JoinFault.TheVariants as joins
use Rattle.druid_inventory.specs.declared.fault.Outcome.{Outcome}
use Rattle.druid_inventory.specs.declared.fault.Outcome.TheVariants.{Moved, AlreadyHave, AskWhole, AskPages}
use Rattle.druid_inventory.proofs.JoinLemmas.{later_each-names}
use Rattle.druid_sync_text.specs.declared.fault.SyncFault.{SyncFault}
use Rattle.druid_sync_text.specs.declared.fault.SyncFault.TheVariants as replies
use Rattle.druid_replay.specs.Commands.{Opening, Command, reply, lookup, marks, join, equal}
use Rattle.druid_replay.specs.Nodes.{HaveOneList}
use Rattle.druid_replay.specs.Execution.{TakesReply, Holds, JoinsInto, Does, Answers, IsAnswered, read_refusal, not_applied, not_joined}
use Rattle.druid_replay.specs.declared.answer.Refusal.{Refusal}
use Rattle.druid_replay.specs.declared.answer.Refusal.TheVariants as refusals
use Rattle.druid_replay.specs.declared.answer.CommandAnswer.{CommandAnswer}
use Rattle.druid_replay.specs.declared.answer.CommandAnswer.TheVariants.{Refused}
use Rattle.druid_replay.proofs.AnswerOnce.{OfBrokers, brokers_tree, OfEntry, OfBody, OfRead, reply_tree}

abbrev IsOf : List (List ℕ) → List Entry → Type 0
IsOf names inventory = names_of inventory ≡ names

-- ---- the names stay

Steps-name : (e : Entry) (b : Body) (o : Outcome) (new : Entry) → Steps e b o new → new.name ≡ e.name
Steps-name e (Delta from to changes) Moved new h = ap (λ (x : Entry). x.name) h.3
Steps-name e (Delta from to changes) AlreadyHave new h = ap (λ (x : Entry). x.name) h.2
Steps-name e (Delta from to changes) AskWhole new h = absurd h
Steps-name e (Delta from to changes) AskPages new h = absurd h
Steps-name e (Snapshot at set) Moved new h = ap (λ (x : Entry). x.name) h.1
Steps-name e (Snapshot at set) AlreadyHave new h = ap (λ (x : Entry). x.name) h.1
Steps-name e (Snapshot at set) AskWhole new h = absurd h
Steps-name e (Snapshot at set) AskPages new h = absurd h
Steps-name e (Page at page of segments) Moved new h = absurd h
Steps-name e (Page at page of segments) AlreadyHave new h = absurd h
Steps-name e (Page at page of segments) AskWhole new h = absurd h
Steps-name e (Page at page of segments) AskPages new h = ap (λ (x : Entry). x.name) h
Steps-name e (Reset cause at) Moved new h = absurd h
Steps-name e (Reset cause at) AlreadyHave new h = absurd h
Steps-name e (Reset cause at) AskWhole new h = ap (λ (x : Entry). x.name) h
Steps-name e (Reset cause at) AskPages new h = absurd h

names_set : (es : List Entry) (i : ℕ) (e new : Entry) → slice_get es i ≡ Some e → new.name ≡ e.name → names_of (slice_set es i new) ≡ names_of es
names_set [] i e new f h = refl
names_set (x ∷ es) zero e new f h = ap (λ (n : List ℕ). n ∷ names_of es) (h ∙ sym (ap (λ (y : Entry). y.name) (same_Some x e f)))
names_set (x ∷ es) (suc i) e new f h = ap (λ (ns : List (List ℕ)). x.name ∷ ns) (names_set es i e new f h)

entry_names : (inventory : List Entry) (node : ℕ) (b : Body) (e : Entry) (answer : CommandAnswer) (new : List Entry) → slice_get inventory node ≡ Some e
    → OfEntry inventory node b e answer new → names_of new ≡ names_of inventory
entry_names inventory node b e answer new found (inl x) = ap names_of x.5
entry_names inventory node b e answer new found (inr x) = ap names_of x.4 ∙ names_set inventory node e x.1 found (Steps-name e b x.0 x.1 x.2)

body_names : (inventory : List Entry) (node : ℕ) (b : Body) (answer : CommandAnswer) (new : List Entry) → OfBody inventory node b answer new → names_of new ≡ names_of inventory
body_names inventory node b answer new (inl x) = ap names_of x.2
body_names inventory node b answer new (inr x) = entry_names inventory node b x.0 answer new x.1 x.2

read_names : (inventory : List Entry) (node : ℕ) (r : Result Body SyncFault) (answer : CommandAnswer) (new : List Entry) → OfRead inventory node r answer new → names_of new ≡ names_of inventory
read_names inventory node (Ok b) answer new h = body_names inventory node b answer new h
read_names inventory node (Err fault) answer new h = ap names_of h.3

held_of_all : (names : List (List ℕ)) (brokers : List (List Entry)) (i : ℕ) (inventory : List Entry) → All (IsOf names) brokers → Holds brokers i inventory → IsOf names inventory
held_of_all names [] i inventory all h = absurd (none-some inventory h)
held_of_all names (x ∷ xs) zero inventory all h = subst (IsOf names) (same_Some x inventory h) (All-head (IsOf names) x xs all)
held_of_all names (x ∷ xs) (suc i) inventory all h = held_of_all names xs i inventory (All-tail (IsOf names) x xs all) h

put_back : (names : List (List ℕ)) (brokers next : List (List Entry)) (i : ℕ) (old new : List Entry) → All (IsOf names) brokers → Holds brokers i old
    → names_of new ≡ names_of old → next ≡ slice_set brokers i new → All (IsOf names) next
put_back names brokers next i old new all h same is =
    subst (All (IsOf names)) (sym is) (All-set (IsOf names) brokers i new (same ∙ held_of_all names brokers i old all h) all)

joined_all : (names : List (List ℕ)) (brokers next : List (List Entry)) (into : ℕ) (own with : List Entry) (answer : CommandAnswer) → All (IsOf names) brokers → Holds brokers into own
    → JoinsInto brokers into own with answer next → All (IsOf names) next
joined_all names brokers next into own with answer all h (inl x) =
    put_back names brokers next into own x.0 all h (ap names_of x.1.entries ∙ later_each-names own with x.1.same_nodes) x.3
joined_all names brokers next into own with answer all h (inr x) = subst (All (IsOf names)) (sym x.5) all

does_keep : (names : List (List ℕ)) (brokers next : List (List Entry)) (command : Command) (answer : CommandAnswer) → All (IsOf names) brokers → Does brokers command answer next → All (IsOf names) next
does_keep names brokers next (reply broker node body) answer all x =
    let tree = reply_tree x.0 node body answer x.1 x.3 in
    put_back names brokers next broker x.0 x.1 all x.2 (read_names x.0 node tree.0 answer x.1 tree.2) x.4
does_keep names brokers next (lookup broker interval source) answer all x = subst (All (IsOf names)) (sym x.3) all
does_keep names brokers next (marks broker) answer all x = subst (All (IsOf names)) (sym x.3) all
does_keep names brokers next (join from into) answer all x = joined_all names brokers next into x.0 x.1 answer all x.2 x.4
does_keep names brokers next (equal left right) answer all x = subst (All (IsOf names)) (sym x.7) all

taken_one : (o : Opening) (answer : CommandAnswer) (next : Option (List (List Entry))) → OfBrokers o answer next → HaveOneList next
taken_one o answer next (inl x) = subst HaveOneList (sym x.2) tt
taken_one o answer next (inr (_, inl x)) = subst HaveOneList (sym x.2) tt
taken_one o answer next (inr (_, inr x)) =
    subst HaveOneList (sym x.2) (names_of (map fresh o.names), All-replicate (IsOf (names_of (map fresh o.names))) o.count (map fresh o.names) refl)

given_keeps : (state next : Option (List (List Entry))) (d : Data) (answer : CommandAnswer) → HaveOneList state → Answers state d answer next → HaveOneList next
given_keeps None next d answer one x = taken_one x.0 answer next (brokers_tree x.0 answer next x.2)
given_keeps (Some brokers) next d answer one x =
    subst HaveOneList (sym x.3) (one.0, does_keep one.0 brokers x.2 x.0 answer one.1 x.4)

pub line_keeps : (state next : Option (List (List Entry))) (line : List ℕ) (answer : CommandAnswer) → HaveOneList state → IsAnswered state line answer next → HaveOneList next
line_keeps state next line answer one x = given_keeps state next x.1 answer one x.3

-- ---- no join is refused for other nodes

unread_other : (fault : SyncFault) → read_refusal fault ≡ Some refusals.OtherNodes → ⊥
unread_other replies.NotJson e = absurd cc
unread_other replies.Shape e = absurd cc
unread_other replies.TooMany e = absurd cc
unread_other replies.LengthOfDelta e = absurd cc
unread_other replies.DoubledSegment e = absurd cc
unread_other replies.BadPage e = absurd cc
unread_other replies.Memory e = absurd cc

applied_other : (fault : ApplyFault) → not_applied fault ≡ Some refusals.OtherNodes → ⊥
applied_other steps.UnknownNode e = absurd cc
applied_other steps.OtherIncarnation e = absurd cc
applied_other steps.Gap e = absurd cc
applied_other (steps.NotStrict index) e = absurd cc
applied_other steps.TooMany e = absurd cc
applied_other steps.Conflict e = absurd cc
applied_other steps.PageConflict e = absurd cc
applied_other steps.Memory e = absurd cc

reply_other : (inventory new : List Entry) (node : ℕ) (d : Data) → TakesReply inventory node d (Refused refusals.OtherNodes) new → ⊥
reply_other inventory new node d (inl x, same) = unread_other x.0 x.2
reply_other inventory new node d (inr x, same) = applied_other x.2 x.4

refused_other : (own with : List Entry) (f : JoinFault) (refusal : Refusal) → names_of own ≡ names_of with → RefusesJoin own with f
    → not_joined f ≡ Some refusal → Refused refusals.OtherNodes ≡ Refused refusal → ⊥
refused_other own with joins.OtherNodes refusal same h e f = h same
refused_other own with (joins.Conflict node) refusal same h e f = absurd cc
refused_other own with joins.Memory refusal same h e f = absurd h

join_other : (names : List (List ℕ)) (brokers next : List (List Entry)) (into : ℕ) (own with : List Entry) → IsOf names own → IsOf names with
    → JoinsInto brokers into own with (Refused refusals.OtherNodes) next → ⊥
join_other names brokers next into own with h k (inl x) = let e = x.2 in absurd cc
join_other names brokers next into own with h k (inr x) = refused_other own with x.0 x.2 (h ∙ sym k) x.1 x.3 x.4

does_other : (names : List (List ℕ)) (brokers next : List (List Entry)) (command : Command) → All (IsOf names) brokers → Does brokers command (Refused refusals.OtherNodes) next → ⊥
does_other names brokers next (reply broker node body) all x = reply_other x.0 x.1 node body x.3
does_other names brokers next (lookup broker interval source) all x = x.2
does_other names brokers next (marks broker) all x = let e = x.2 in absurd cc
does_other names brokers next (join from into) all x =
    join_other names brokers next into x.0 x.1 (held_of_all names brokers into x.0 all x.2) (held_of_all names brokers from x.1 all x.3) x.4
does_other names brokers next (equal left right) all x = let e = x.6 in absurd cc

given_other : (state next : Option (List (List Entry))) (d : Data) → HaveOneList state → Answers state d (Refused refusals.OtherNodes) next → ⊥
given_other None next d one x = x.2
given_other (Some brokers) next d one x = does_other one.0 brokers x.2 x.0 one.1 x.4

pub line_other : (state next : Option (List (List Entry))) (line : List ℕ) (answer : CommandAnswer) → HaveOneList state → IsAnswered state line answer next → answer ≡ Refused refusals.OtherNodes → ⊥
line_other state next line answer one x e =
    given_other state next x.1 one (subst (λ (a : CommandAnswer). Answers state x.1 a next) e x.3)
