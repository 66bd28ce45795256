-- The text of a reply, part by part.
use Rattle.std.proofs.Common.{◌≡◌, ℕ, ◌+◌, ◌<◌, ◌≤◌, Bool, true, false, nat_lt, List, [], ◌++◌, length, get_or, drop, map, codes, decimal, append_assoc, drop_of_length-le, Option, Some, None, arith, refl, sym, subst, ap, ◌∙◌}
use Rattle.std.specs.List.{AllWithin}
use Rattle.std.proofs.lemmas.List.{drop_more, get_or_default}
use Rattle.std.proofs.lemmas.List.Elements.{AllWithin-more}
use Rattle.std.proofs.lemmas.Bool.{lt-ltb}
use Rattle.std.proofs.lemmas.Option.{same_Some}
use Rattle.serde_json.proofs.OnLiterals.{serde_json_on_literals}
use Rattle.serde_json.specs.Data.{Data, Members, no_members, object, string, put}
use Rattle.serde_json.specs.Find.{as_object}
use Rattle.serde_json.specs.View.{items_of}
use Rattle.serde_json.specs.Written.{compact_text, items_text, comma_if, has_float}
use Rattle.druid_segment_descriptor.specs.Mark.{Point}
use Rattle.druid_segment_text.specs.Json.{mark_data, flagged_data, descriptor_data}
use Rattle.druid_segment_descriptor.specs.Described.{Described}
use Rattle.druid_segment_descriptor.specs.declared.change.Change.{Change}
use Rattle.druid_segment_descriptor.specs.declared.change.Cause.{Cause}
use Rattle.druid_segment_descriptor.specs.declared.change.Cause.TheVariants.{OtherIncarnation, Ahead, TooOld}
use Rattle.druid_segment_descriptor.specs.declared.reply.Body.TheVariants.{Delta, Snapshot, Page, Reset}
use Rattle.druid_sync_text.specs.Written.{from_data, flagged_request, request_data, change_data, load_data, five_fields, reply_data, numbers_text, front_text, back_text, reply_text}

-- no reply has a float
flagged_plain : (flag : Bool) (action : List ℕ) (d : Described) → has_float (flagged_request flag action d) ≡ false
unfolding flagged_request
flagged_plain false action d = refl
flagged_plain true action d = refl

pub request_plain : (action : List ℕ) (d : Described) → has_float (request_data action d) ≡ false
request_plain action d = flagged_plain d.tombstone action d

abbrev members_of : Data → Members
members_of (object ms) = ms
members_of other = no_members

-- what a change does stands before the members of its segment
pub request_members : (action : List ℕ) (d : Described) (v : Data) (ms : Members) → v ≡ descriptor_data d → Some ms ≡ as_object v → object (put (codes "action") (string action) ms) ≡ request_data action d
unfolding flagged_request flagged_data
request_members action d v ms is found = ap (λ (m : Members). object (put (codes "action") (string action) m)) (same_Some ms (members_of (descriptor_data d)) (found ∙ ap as_object is))

-- a descriptor is an object
pub descriptor_members : (v : Data) (d : Described) → v ≡ descriptor_data d → as_object v ≡ None → ⊥
unfolding flagged_data
descriptor_members v d e none = absurd (none_some (sym none ∙ ap as_object e))
  where
    none_some : {A : Type 0} {x : A} → None ≡ Some x → ⊥
    none_some p = cc

pub from_plain : (from : Option Point) → has_float (from_data from) ≡ false
unfolding mark_data
from_plain None = refl
from_plain (Some m) = refl

-- ---- changes, one after another

-- what is written of a list before a place, and what the rest from that place on will be
pub item_next : {A : Type 0} (f : A → Data) (front : List ℕ) (later : Bool) (xs : List A) (i : ℕ) (x : A) → i < length xs → x ≡ get_or xs i x
    → (front ++ (comma_if later ++ compact_text (f x))) ++ items_text (nat_lt 0 (i + 1)) (items_of (map f (drop (i + 1) xs)))
    ≡ front ++ items_text later (items_of (map f (drop i xs)))
item_next {A} f front later xs i x h is =
    let rest = drop (i + 1) xs in
    ap (λ (b : Bool). (front ++ (comma_if later ++ compact_text (f x))) ++ items_text b (items_of (map f rest))) (lt-ltb 0 (i + 1) (omega arith))
    ∙ append_assoc front (comma_if later ++ compact_text (f x)) (items_text true (items_of (map f rest)))
    ∙ ap (λ (l : List ℕ). front ++ l) (append_assoc (comma_if later) (compact_text (f x)) (items_text true (items_of (map f rest))))
    ∙ ap (λ (y : A). front ++ (comma_if later ++ (compact_text (f y) ++ items_text true (items_of (map f rest))))) is
    ∙ sym (ap (λ (ys : List A). front ++ items_text later (items_of (map f ys))) (drop_more xs i x h))

-- after the last stands the bracket
pub item_last : {A : Type 0} (f : A → Data) (front : List ℕ) (later : Bool) (xs : List A) (i : ℕ) → length xs ≤ i
    → front ++ codes "]" ≡ front ++ items_text later (items_of (map f (drop i xs)))
item_last {A} f front later xs i h = sym (ap (λ (ys : List A). front ++ items_text later (items_of (map f ys))) (drop_of_length-le xs h))

-- what holds before a place and at it holds up to the next
pub each_more : {A : Type 0} (P : A → Type 0) (xs : List A) (i : ℕ) (x : A) → i < length xs → x ≡ get_or xs i x → P x → AllWithin P xs 0 i → AllWithin P xs 0 (i + 1)
each_more P xs i x h is holds before = AllWithin-more P xs 0 i before (λ d. subst P (is ∙ get_or_default xs i x d h) holds)

-- ---- the whole

regrouped : (a m b f c i t : List ℕ) → a ++ (m ++ (b ++ (f ++ (c ++ (i ++ t))))) ≡ ((a ++ (m ++ (b ++ (f ++ c)))) ++ i) ++ t
regrouped a m b f c i t =
    ap (λ (l : List ℕ). a ++ (m ++ (b ++ l))) (sym (append_assoc f c (i ++ t)))
    ∙ ap (λ (l : List ℕ). a ++ (m ++ l)) (sym (append_assoc b (f ++ c) (i ++ t)))
    ∙ ap (λ (l : List ℕ). a ++ l) (sym (append_assoc m (b ++ (f ++ c)) (i ++ t)))
    ∙ sym (append_assoc a (m ++ (b ++ (f ++ c))) (i ++ t))
    ∙ sym (append_assoc (a ++ (m ++ (b ++ (f ++ c)))) i t)

page_regrouped : (a m b f p k q n c d i t : List ℕ)
    → a ++ (m ++ (b ++ (f ++ (p ++ (k ++ (q ++ (n ++ (c ++ (d ++ (i ++ t))))))))))
    ≡ (((a ++ (m ++ (b ++ (f ++ ((p ++ (k ++ (q ++ n))) ++ c))))) ++ d) ++ i) ++ t
page_regrouped a m b f p k q n c d i t = simp (append_assoc)

whole_text : (counter : Point) (from : Option Point) (numbers : Option (ℕ × ℕ)) (requests : List Data) (cause : Option Cause)
    → compact_text (five_fields counter from numbers requests cause)
    ≡ ((front_text counter from numbers ++ codes "[") ++ items_text false (items_of requests)) ++ back_text cause
unfolding front_text back_text serde_json_on_literals
whole_text counter from None requests cause =
    regrouped (codes "{\"counter\":") (compact_text (mark_data counter)) (codes ",\"from\":") (compact_text (from_data from)) (codes ",\"requests\":[")
    (items_text false (items_of requests)) (back_text cause)
    ∙ ap (λ (l : List ℕ). (l ++ items_text false (items_of requests)) ++ back_text cause)
    (front_and_bracket (codes "{\"counter\":") (compact_text (mark_data counter)) (codes ",\"from\":") (compact_text (from_data from)) (codes ",\"requests\":") (codes "["))
  where
    front_and_bracket : (a m b f c d : List ℕ) → a ++ (m ++ (b ++ (f ++ (c ++ d)))) ≡ (a ++ (m ++ (b ++ (f ++ c)))) ++ d
    front_and_bracket a m b f c d =
        ap (λ (l : List ℕ). a ++ (m ++ (b ++ l))) (sym (append_assoc f c d))
        ∙ ap (λ (l : List ℕ). a ++ (m ++ l)) (sym (append_assoc b (f ++ c) d))
        ∙ ap (λ (l : List ℕ). a ++ l) (sym (append_assoc m (b ++ (f ++ c)) d))
        ∙ sym (append_assoc a (m ++ (b ++ (f ++ c))) d)
whole_text counter from (Some (page, of)) requests cause =
    page_regrouped (codes "{\"counter\":") (compact_text (mark_data counter)) (codes ",\"from\":") (compact_text (from_data from)) (codes ",\"page\":") (decimal page)
    (codes ",\"pages\":") (decimal of) (codes ",\"requests\":") (codes "[") (items_text false (items_of requests)) (back_text cause)

front_joined : (a m b f n c d : List ℕ) → ((((a ++ m) ++ b) ++ f) ++ n) ++ (c ++ d) ≡ (a ++ (m ++ (b ++ (f ++ (n ++ c))))) ++ d
front_joined a m b f n c d = simp (append_assoc)

-- the text of a reply up to the bracket, pushed part by part
pub front_pushed : (counter : Point) (from : Option Point) (numbers : Option (ℕ × ℕ)) (marked named begun reported whole : List ℕ)
    → marked ≡ codes "{\"counter\":" ++ compact_text (mark_data counter)
    → named ≡ marked ++ codes ",\"from\":"
    → begun ≡ named ++ compact_text (from_data from)
    → reported ≡ begun ++ numbers_text numbers
    → whole ≡ reported ++ codes ",\"requests\":["
    → whole ≡ front_text counter from numbers ++ codes "["
unfolding front_text
front_pushed counter from numbers marked named begun reported whole a b c d e =
    e
    ∙ ap (λ (l : List ℕ). l ++ codes ",\"requests\":[")
    (d ∙ ap (λ (l : List ℕ). l ++ numbers_text numbers) (c ∙ ap (λ (l : List ℕ). l ++ compact_text (from_data from)) (b ∙ ap (λ (l : List ℕ). l ++ codes ",\"from\":") a)))
    ∙ front_joined (codes "{\"counter\":") (compact_text (mark_data counter)) (codes ",\"from\":") (compact_text (from_data from)) (numbers_text numbers) (codes ",\"requests\":") (codes "[")

pub delta_text : (from to : Point) (changes : List Change)
    → reply_text (Delta from to changes) ≡ ((front_text to (Some from) None ++ codes "[") ++ items_text false (items_of (map change_data changes))) ++ back_text None
unfolding reply_data
delta_text from to changes = whole_text to (Some from) None (map change_data changes) None

pub snapshot_text : (at : Point) (segments : List Described)
    → reply_text (Snapshot at segments) ≡ ((front_text at None None ++ codes "[") ++ items_text false (items_of (map load_data segments))) ++ back_text None
unfolding reply_data
snapshot_text at segments = whole_text at None None (map load_data segments) None

pub page_text : (at : Point) (page of : ℕ) (segments : List Described)
    → reply_text (Page at page of segments) ≡ ((front_text at None (Some (page, of)) ++ codes "[") ++ items_text false (items_of (map load_data segments))) ++ back_text None
unfolding reply_data
page_text at page of segments = whole_text at None (Some (page, of)) (map load_data segments) None

pub reset_text : (cause : Cause) (at : Point)
    → reply_text (Reset cause at) ≡ ((front_text at None None ++ codes "[") ++ codes "]") ++ back_text (Some cause)
unfolding reply_data
reset_text cause at = whole_text at None None [] (Some cause)

pub back_of_none : back_text None ≡ codes ",\"resetCause\":null,\"resetCounter\":false}"
unfolding back_text serde_json_on_literals
back_of_none = refl

pub back_of_other : back_text (Some OtherIncarnation) ≡ codes ",\"resetCause\":\"OtherIncarnation\",\"resetCounter\":true}"
unfolding back_text serde_json_on_literals
back_of_other = refl

pub back_of_ahead : back_text (Some Ahead) ≡ codes ",\"resetCause\":\"Ahead\",\"resetCounter\":true}"
unfolding back_text serde_json_on_literals
back_of_ahead = refl

pub back_of_old : back_text (Some TooOld) ≡ codes ",\"resetCause\":\"TooOld\",\"resetCounter\":true}"
unfolding back_text serde_json_on_literals
back_of_old = refl

pub two_pushed : (old a b once twice : List ℕ) → once ≡ old ++ a → twice ≡ once ++ b → twice ≡ old ++ (a ++ b)
two_pushed old a b once twice first second = second ∙ ap (λ (l : List ℕ). l ++ b) first ∙ append_assoc old a b
