-- Each line is bad or has an answer.
use Rattle.std.proofs.Common.{◌≡◌, ℕ, zero, suc, ◌<◌, ◌≤◌, Bool, true, false, if◌then◌else◌, List, [], ◌∷◌, All, length, map, replicate, Option, None, Some, Result, Ok, Err, ◌⊎◌, inl, inr, slice_get, slice_set, refl, sym, ap, subst, ◌∙◌, arith}
use Rattle.std.specs.Str.{IsUtf8, is_utf8}
use Rattle.std.specs.Bool.{IsTrue}
use Rattle.std.proofs.lemmas.Bool.{cases_lt, ltb-true}
use Rattle.std.specs.Cmp.{first_so, second_so}
use Rattle.std.proofs.lemmas.Option.{same_Some, none-some}
use Rattle.std.proofs.lemmas.Str.{IsUtf8-from_is_utf8, is_utf8-from_IsUtf8}
use Rattle.serde_json.specs.Data.{Data}
use Rattle.serde_json.specs.Read.{read}
use Rattle.druid_base.proofs.StepLemmas.{stepped}
use Rattle.druid_time.specs.Extent.{Extent}
use Rattle.druid_time.specs.Texts.{extent_at}
use Rattle.druid_time.specs.declared.fault.TimeFault.{TimeFault}
use Rattle.druid_time.specs.declared.fault.TimeFault.TheVariants as times
use Rattle.druid_segment_id.specs.Names.{IsName, max_name, is_name_byte}
use Rattle.druid_segment_descriptor.specs.declared.reply.Body.{Body}
use Rattle.druid_segment_descriptor.specs.declared.reply.Body.TheVariants.{Delta, Snapshot, Page, Reset}
use Rattle.druid_inventory.specs.Entry.{Entry, fresh}
use Rattle.druid_base.specs.Distinct.{AreDistinct}
use Rattle.druid_inventory.specs.Step.{Steps, Refuses}
use Rattle.druid_inventory.specs.declared.fault.Outcome.{Outcome}
use Rattle.druid_inventory.specs.declared.fault.ApplyFault.{ApplyFault}
use Rattle.druid_inventory.specs.declared.fault.ApplyFault.TheVariants as steps
use Rattle.druid_inventory.proofs.StepLemmas.{Steps-some}
use Rattle.druid_sync_text.specs.Read.{IsRead, form_at}
use Rattle.druid_inventory.specs.Equality.{same_entries}
use Rattle.druid_inventory.specs.Join.{IsJoin, RefusesJoin}
use Rattle.druid_inventory.specs.declared.fault.JoinFault.{JoinFault}
use Rattle.druid_inventory.specs.declared.fault.JoinFault.TheVariants as joins
use Rattle.druid_inventory.proofs.JoinLemmas.{join_some, same_entries-decides}
use Rattle.druid_replay.specs.Commands.{Opening, Command, reply, lookup, marks, join, equal, is_among, opening_at, asked_at, command_at}
use Rattle.druid_replay.specs.Seen.{AreAmong}
use Rattle.druid_replay.specs.declared.reason.BadLine.TheVariants.{TooLong, NotJson}
use Rattle.druid_replay.specs.Execution.{TakesBrokers, TakesReply, LooksUp, Holds, JoinsInto, Does, Answers, IsNoCommand, IsAnswered, IsBad, fault_in, max_line}
use Rattle.druid_replay.specs.declared.answer.Refusal.TheVariants as refusals
use Rattle.druid_replay.specs.declared.answer.CommandAnswer.{CommandAnswer}
use Rattle.druid_replay.specs.declared.answer.CommandAnswer.TheVariants.{Refused, Taken, Stepped, Found, Marked, Joined, Compared}
use Rattle.druid_replay.proofs.Decided.{Decided, by_test, all_decided, own_decided}
use Rattle.druid_replay.proofs.ReadSome.{IsReadSo, read_some}
use Rattle.druid_replay.proofs.FoundSome.{found_some}

-- ---- names

true_decided : (b : Bool) → Decided (IsTrue b)
true_decided b = by_test (IsTrue b) b (λ e. e) (λ e. e)

name_decided : (text : List ℕ) → Decided (IsName text)
name_decided text =
    by (cases_lt 0 (length text)) (cases_lt max_name (length text)) (all_decided (λ b. IsTrue (is_name_byte b)) (λ b. true_decided (is_name_byte b)) text) where
      by : (0 < length text) ⊎ (length text ≤ 0) → (max_name < length text) ⊎ (length text ≤ max_name) → Decided (All (λ b. IsTrue (is_name_byte b)) text) → Decided (IsName text)
      by (inr none) short bytes =
          inr (λ name. let some : 1 ≤ length text = name.not_empty in absurd (omega (arith, some, none)))
      by (inl some) (inl long) bytes =
          inr (λ name. let short : length text ≤ max_name = name.short in absurd (omega (arith, long, short)))
      by (inl some) (inr short) (inl each) =
          inl (record { not_empty = omega (arith, some); short = short; bytes = each })
      by (inl some) (inr short) (inr none) = inr (λ name. none name.bytes)

brokers_some : (o : Opening) → (answer : CommandAnswer) × (next : Option (List (List Entry))) × TakesBrokers o answer next
brokers_some o = by (all_decided IsName name_decided o.names) (own_decided (λ (n : List ℕ). n) o.names) where
  by : Decided (All IsName o.names) → Decided (AreDistinct o.names) → (answer : CommandAnswer) × (next : Option (List (List Entry))) × TakesBrokers o answer next
  by (inr none) own = (Refused refusals.BadName, None, (none, refl))
  by (inl all) (inr twice) = (Refused refusals.DoubledNode, None, (all, twice, refl))
  by (inl all) (inl own) = (Taken o.count, Some (replicate o.count (map fresh o.names)), ((all, own), refl, refl))

-- ---- replies

abbrev ReplyAnswer : List Entry → ℕ → Data → Type 0
ReplyAnswer inventory node d = (answer : CommandAnswer) × (next : List Entry) × TakesReply inventory node d answer next

-- a reply that an entry refuses; no entry refuses one for an unknown node or for lack of memory
refused_some : (inventory : List Entry) (node : ℕ) (d : Data) (body : Body) → IsRead d (Ok body) → (e : Entry) → slice_get inventory node ≡ Some e
    → (fault : ApplyFault) → Refuses e body fault → ReplyAnswer inventory node d
refused_some inventory node d body read e got steps.UnknownNode h = absurd (unsaid body h) where
  unsaid : (b : Body) → Refuses e b steps.UnknownNode → ⊥
  unsaid (Delta from to changes) h = h
  unsaid (Snapshot at set) h = h
  unsaid (Page at page of segments) h = h
  unsaid (Reset cause at) h = h
refused_some inventory node d body read e got steps.OtherIncarnation h =
    (Refused refusals.OtherIncarnation, inventory, (inr (body, read, steps.OtherIncarnation, (e, got, h), refl), refl))
refused_some inventory node d body read e got steps.Gap h =
    (Refused refusals.Gap, inventory, (inr (body, read, steps.Gap, (e, got, h), refl), refl))
refused_some inventory node d body read e got (steps.NotStrict index) h =
    (Refused refusals.NotStrict, inventory, (inr (body, read, steps.NotStrict index, (e, got, h), refl), refl))
refused_some inventory node d body read e got steps.TooMany h =
    (Refused refusals.TooManySegments, inventory, (inr (body, read, steps.TooMany, (e, got, h), refl), refl))
refused_some inventory node d body read e got steps.Conflict h =
    (Refused refusals.Conflict, inventory, (inr (body, read, steps.Conflict, (e, got, h), refl), refl))
refused_some inventory node d body read e got steps.PageConflict h =
    (Refused refusals.PageConflict, inventory, (inr (body, read, steps.PageConflict, (e, got, h), refl), refl))
refused_some inventory node d body read e got steps.Memory h = absurd (unsaid body h) where
  unsaid : (b : Body) → Refuses e b steps.Memory → ⊥
  unsaid (Delta from to changes) h = h
  unsaid (Snapshot at set) h = h
  unsaid (Page at page of segments) h = h
  unsaid (Reset cause at) h = h

entry_some : (inventory : List Entry) (node : ℕ) (d : Data) (body : Body) → IsRead d (Ok body) → (e : Entry) → slice_get inventory node ≡ Some e
    → ((outcome : Outcome) × (new : Entry) × Steps e body outcome new) ⊎ ((fault : ApplyFault) × Refuses e body fault) → ReplyAnswer inventory node d
entry_some inventory node d body read e got (inl (outcome, new, steps)) =
    (Stepped new.mark outcome, slice_set inventory node new, (body, read, new, (e, got, steps), refl, refl))
entry_some inventory node d body read e got (inr (fault, refuses)) =
    refused_some inventory node d body read e got fault refuses

body_some : (inventory : List Entry) (node : ℕ) (d : Data) (body : Body) → IsRead d (Ok body) → ReplyAnswer inventory node d
body_some inventory node d body read = by (slice_get inventory node) refl where
  by : (o : Option Entry) → slice_get inventory node ≡ o → ReplyAnswer inventory node d
  by None none =
      (Refused refusals.UnknownNode, inventory, (inr (body, read, steps.UnknownNode, none, refl), refl))
  by (Some e) some = entry_some inventory node d body read e some (Steps-some e body)

reply_some : (inventory : List Entry) (node : ℕ) (d : Data) → ReplyAnswer inventory node d
reply_some inventory node d = by (read_some d) where
  by : IsReadSo (form_at d) → ReplyAnswer inventory node d
  by (inl (body, read)) = body_some inventory node d body read
  by (inr (fault, refusal, refuses, reported)) = (Refused refusal, inventory, (inl (fault, refuses, reported), refl))

-- ---- lookups

lookup_some : (inventory : List Entry) (interval source : List ℕ) → (answer : CommandAnswer) × LooksUp inventory interval source answer
lookup_some inventory interval source = by (extent_at interval) refl (name_decided source) where
  by : (r : Result Extent TimeFault) → extent_at interval ≡ r → Decided (IsName source) → (answer : CommandAnswer) × LooksUp inventory interval source answer
  by (Err times.NotATime) is name = (Refused refusals.NotATime, is)
  by (Err times.OutOfRange) is name = (Refused refusals.OutOfRange, is)
  by (Err times.Empty) is name = (Refused refusals.Empty, is)
  by (Ok asked) is (inr none) = (Refused refusals.BadName, (asked, is, none))
  by (Ok asked) is (inl name) =
      let found = found_some inventory source asked in
      (Found found.0, (asked, is, name, found.1))

-- ---- joins and comparisons

join_some_answer : (brokers : List (List Entry)) (into : ℕ) (own with : List Entry)
    → ((joined : List Entry) × IsJoin own with joined) ⊎ ((f : JoinFault) × RefusesJoin own with f)
    → (answer : CommandAnswer) × (next : List (List Entry)) × JoinsInto brokers into own with answer next
join_some_answer brokers into own with (inl x) = (Joined into, slice_set brokers into x.0, inl (x.0, x.1, refl, refl))
join_some_answer brokers into own with (inr (joins.OtherNodes, h)) =
    (Refused refusals.OtherNodes, brokers, inr (joins.OtherNodes, h, refusals.OtherNodes, refl, refl, refl))
join_some_answer brokers into own with (inr (joins.Conflict node, h)) =
    (Refused refusals.OtherSets, brokers, inr (joins.Conflict node, h, refusals.OtherSets, refl, refl, refl))
join_some_answer brokers into own with (inr (joins.Memory, h)) = absurd h

-- ---- lines

among_so : (count : ℕ) (c : Command) → is_among count c ≡ true → AreAmong count c
among_so count (reply broker node body) e = ltb-true broker count e
among_so count (lookup broker interval source) e = ltb-true broker count e
among_so count (marks broker) e = ltb-true broker count e
among_so count (join from into) e = (ltb-true from count (first_so _ _ e), ltb-true into count (second_so _ _ e))
among_so count (equal left right) e = (ltb-true left count (first_so _ _ e), ltb-true right count (second_so _ _ e))

among_test : (count : ℕ) (c e : Command) → (if is_among count c then Some c else None) ≡ Some e → AreAmong count e
among_test count c e h = by (is_among count c) refl where
  by : (t : Bool) → is_among count c ≡ t → AreAmong count e
  by true is =
      let same : c ≡ e = same_Some c e (sym (ap (λ (t : Bool). if t then Some c else None) is) ∙ h) in
      subst (AreAmong count) same (among_so count c is)
  by false is = absurd (none-some e (sym (ap (λ (t : Bool). if t then Some c else None) is) ∙ h))

-- a command that is read is of brokers that stand
command_among : (count : ℕ) (d : Data) (c : Command) → command_at count d ≡ Some c → AreAmong count c
unfolding command_at
command_among count d c h =
    let step = stepped (λ e. if is_among count e then Some e else None) (asked_at d) c h in
    among_test count step.0 c step.2

held_at : (brokers : List (List Entry)) (broker : ℕ) → broker < length brokers → (inventory : List Entry) × Holds brokers broker inventory
held_at [] broker l = absurd (omega (arith, l))
held_at (x ∷ xs) zero l = (x, refl)
held_at (x ∷ xs) (suc broker) l = held_at xs broker (omega (arith, l))

does_some : (brokers : List (List Entry)) (command : Command) → AreAmong (length brokers) command → (answer : CommandAnswer) × (next : List (List Entry)) × Does brokers command answer next
does_some brokers (reply broker node body) l =
    let held = held_at brokers broker l in
    let all = reply_some held.0 node body in
    (all.0, slice_set brokers broker all.1, (held.0, all.1, held.1, all.2, refl))
does_some brokers (lookup broker interval source) l =
    let held = held_at brokers broker l in
    let found = lookup_some held.0 interval source in
    (found.0, brokers, (held.0, held.1, found.1, refl))
does_some brokers (marks broker) l =
    let held = held_at brokers broker l in
    (Marked (map (λ e. e.mark) held.0), brokers, (held.0, held.1, refl, refl))
does_some brokers (join from into) l =
    let own = held_at brokers into l.1 in
    let with = held_at brokers from l.0 in
    let all = join_some_answer brokers into own.0 with.0 (join_some own.0 with.0) in
    (all.0, all.1, (own.0, with.0, own.1, with.1, all.2))
does_some brokers (equal left right) l =
    let one = held_at brokers left l.0 in
    let with = held_at brokers right l.1 in (
      Compared (same_entries one.0 with.0),
      brokers,
      (one.0, with.0, one.1, with.1, same_entries one.0 with.0, same_entries-decides one.0 with.0, refl, refl),
    )

abbrev IsAnswerable : Option (List (List Entry)) → Data → Type 0
IsAnswerable state d = (answer : CommandAnswer) × (next : Option (List (List Entry))) × Answers state d answer next

given_some : (state : Option (List (List Entry))) (d : Data) → IsNoCommand state d ⊎ IsAnswerable state d
given_some None d = by (opening_at d) refl where
  by : (o : Option Opening) → opening_at d ≡ o → IsNoCommand None d ⊎ IsAnswerable None d
  by None none = inl none
  by (Some opening) some = let all = brokers_some opening in inr (all.0, all.1, (opening, some, all.2))
given_some (Some brokers) d = by (command_at (length brokers) d) refl where
  by : (o : Option Command) → command_at (length brokers) d ≡ o → IsNoCommand (Some brokers) d ⊎ IsAnswerable (Some brokers) d
  by None none = inl none
  by (Some command) some =
      let all = does_some brokers command (command_among (length brokers) d command some) in
      inr (all.0, Some all.1, (command, some, all.1, refl, all.2))

-- each line is bad or has an answer
pub line_some : (state : Option (List (List Entry))) (line : List ℕ) → IsBad state line ⊎ ((answer : CommandAnswer) × (next : Option (List (List Entry))) × IsAnswered state line answer next)
line_some state line =
    by (cases_lt max_line (length line)) (by_test (IsUtf8 line) (is_utf8 line) (IsUtf8-from_is_utf8 line) (is_utf8-from_IsUtf8 line)) (read line) refl where
      given : length line ≤ max_line → IsUtf8 line → (d : Data) → read line ≡ Some d → IsNoCommand state d ⊎ IsAnswerable state d → IsBad state line ⊎ ((answer : CommandAnswer) × (next : Option (List (List Entry))) × IsAnswered state line answer next)
      given short text d is (inl none) =
          inl (fault_in state d, inr (inr (short, d, (text, is), none, refl)))
      given short text d is (inr all) = inr (all.0, all.1, (short, d, (text, is), all.2))

      by : (max_line < length line) ⊎ (length line ≤ max_line) → Decided (IsUtf8 line) → (o : Option Data) → read line ≡ o → IsBad state line ⊎ ((answer : CommandAnswer) × (next : Option (List (List Entry))) × IsAnswered state line answer next)
      by (inl long) text o is = inl (TooLong, inl (long, refl))
      by (inr short) (inr none) o is = inl (NotJson, inr (inl (short, (λ d h. absurd (none h.0)), refl)))
      by (inr short) (inl text) None is = inl (NotJson, inr (inl (short, (λ d h. let other : read line ≡ Some d = h.1 in absurd cc), refl)))
      by (inr short) (inl text) (Some d) is = given short text d is (given_some state d)
