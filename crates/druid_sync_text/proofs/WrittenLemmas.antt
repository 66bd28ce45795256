-- The text of a reply is JSON that reads as the reply's.
use Rattle.std.proofs.Common.{◌≡◌, ◌≤◌, ◌<◌, ◌^◌, ℕ, Bool, false, true, arith, List, [], map, codes, All, Option, Some, None, IfSome, refl, sym, subst, ap, ◌∙◌}
use Rattle.std.proofs.lemmas.List.Elements.{All-contains}
use Rattle.json.proofs.Printed.Decimals.{IsNumber-decimal}
use Rattle.serde_json.specs.Data.{Data, depth, items_depth}
use Rattle.serde_json.specs.View.{items_of}
use Rattle.serde_json.specs.Read.{read}
use Rattle.serde_json.proofs.Numbers.{number_of-decimal}
use Rattle.druid_segment_descriptor.specs.Mark.{Point, IsWord}
use Rattle.druid_segment_text.specs.Json.{mark_data}
use Rattle.druid_segment_descriptor.specs.Described.{Described, IsDescribed}
use Rattle.druid_segment_descriptor.specs.declared.change.Change.{Change}
use Rattle.druid_segment_descriptor.specs.declared.change.Change.TheVariants.{Load, Drop}
use Rattle.druid_segment_descriptor.specs.declared.change.Cause.{Cause}
use Rattle.druid_segment_descriptor.specs.declared.reply.Body.{Body}
use Rattle.druid_segment_descriptor.specs.declared.reply.Body.TheVariants.{Delta, Snapshot, Page, Reset}
use Rattle.druid_segment_text.proofs.WrittenLemmas.{IsBack, AreBack, items_back, items_shallow, compact_read}
use Rattle.druid_segment_descriptor.specs.ReplyBody.{IsReply}
use Rattle.druid_sync_text.specs.Back.{IsReadBack}
use Rattle.druid_sync_text.proofs.BackLemmas.{delta_back, snapshot_back, page_back, reset_back}
use Rattle.druid_sync_text.specs.Read.{form_at, form_of}
use Rattle.druid_sync_text.specs.Written.{from_data, flagged_request, request_data, change_data, load_data, segment_of, cause_data, five_fields, reply_data, reply_text, IsOfDescriptors, IsOfWords}

mark_back : (m : Point) → IsWord m → IsBack (mark_data m)
unfolding mark_data
mark_back m is =
    let hash = number_of-decimal m.incarnation is.incarnation in
    let count = number_of-decimal m.count is.count in
    ((IsNumber-decimal m.count is.count, (IsNumber-decimal m.incarnation is.incarnation, tt)), rw (hash, count) refl)

from_back : (from : Option Point) → IfSome from IsWord → IsBack (from_data from)
from_back None is = (tt, refl)
from_back (Some m) is = mark_back m is

flagged_back : (flag : Bool) (action : List ℕ) (d : Described) → IsDescribed d → IsBack (flagged_request flag action d)
unfolding flagged_request
flagged_back false action d is =
    let low : d.id.partition < 2 ^ 64 = omega (arith, is.id.partition) in
    let few : d.core < 2 ^ 64 = omega (arith, is.core) in
    let part = number_of-decimal d.id.partition low in
    let core = number_of-decimal d.core few in
    let size = number_of-decimal d.size is.size in (
      (tt, (tt, (tt, ((IsNumber-decimal d.id.partition low, (IsNumber-decimal d.core few, (tt, tt))), (IsNumber-decimal d.size is.size, (tt, tt)))))),
      rw (part, core, size) refl,
    )
flagged_back true action d is =
    let low : d.id.partition < 2 ^ 64 = omega (arith, is.id.partition) in
    let few : d.core < 2 ^ 64 = omega (arith, is.core) in
    let part = number_of-decimal d.id.partition low in
    let core = number_of-decimal d.core few in
    let size = number_of-decimal d.size is.size in (
      (tt, (tt, (tt, ((IsNumber-decimal d.id.partition low, (IsNumber-decimal d.core few, (tt, tt))), (IsNumber-decimal d.size is.size, (tt, (tt, tt))))))),
      rw (part, core, size) refl,
    )

request_back : (action : List ℕ) (d : Described) → IsDescribed d → IsBack (request_data action d)
request_back action d is = flagged_back d.tombstone action d is

change_back : (c : Change) → IsDescribed (segment_of c) → IsBack (change_data c)
change_back (Load d) is = request_back (codes "load") d is
change_back (Drop d) is = request_back (codes "drop") d is

cause_back : (cause : Option Cause) → IsBack (cause_data cause)
cause_back None = (tt, refl)
cause_back (Some cause) = (tt, refl)

-- the numbers of a page, if it is one, fit 64 bits
abbrev AreWords : Option (ℕ × ℕ) → Type 0
AreWords None = Unit {0}
AreWords (Some (page, of)) = (page < 2 ^ 64) × (of < 2 ^ 64)

five_back : (counter : Point) (from : Option Point) (numbers : Option (ℕ × ℕ)) (requests : List Data) (cause : Option Cause) → IsWord counter → IfSome from IsWord → AreWords numbers
    → AreBack (items_of requests) → IsBack (five_fields counter from numbers requests cause)
five_back counter from None requests cause word words small each =
    let at = mark_back counter word in
    let start = from_back from words in
    let why = cause_back cause in
    ((at.0, (start.0, (each.0, (why.0, (tt, tt))))), rw (at.1, start.1, each.1, why.1) refl)
five_back counter from (Some (page, of)) requests cause word words small each =
    let at = mark_back counter word in
    let start = from_back from words in
    let why = cause_back cause in
    let which = number_of-decimal page small.0 in
    let many = number_of-decimal of small.1 in
    ((at.0, (start.0, (IsNumber-decimal page small.0, (IsNumber-decimal of small.1, (each.0, (why.0, (tt, tt))))))), rw (at.1, start.1, which, many, each.1, why.1) refl)

reply_back : (body : Body) → IsOfDescriptors body → IsOfWords body → IsBack (reply_data body)
unfolding reply_data
reply_back (Delta from to changes) valid words =
    five_back to (Some from) None (map change_data changes) None words.1 words.0 tt (items_back change_data (λ c. IsDescribed (segment_of c)) change_back changes valid)
reply_back (Snapshot at segments) valid word =
    five_back at None None (map load_data segments) None word tt tt (items_back load_data IsDescribed (λ d. change_back (Load d)) segments valid)
reply_back (Page at page of segments) valid words =
    five_back at None (Some (page, of)) (map load_data segments) None words.0 tt (words.1, words.2) (items_back load_data IsDescribed (λ d. change_back (Load d)) segments valid)
reply_back (Reset cause at) valid word = five_back at None None [] (Some cause) word tt tt (tt, refl)

-- ---- how deep

mark_shallow : (m : Point) → depth (mark_data m) ≤ 1
unfolding mark_data
mark_shallow m = omega arith

from_shallow : (from : Option Point) → depth (from_data from) ≤ 1
from_shallow None = omega arith
from_shallow (Some m) = mark_shallow m

flagged_shallow : (flag : Bool) (action : List ℕ) (d : Described) → depth (flagged_request flag action d) ≤ 2
unfolding flagged_request
flagged_shallow false action d = omega arith
flagged_shallow true action d = omega arith

change_shallow : (c : Change) → depth (change_data c) ≤ 2
change_shallow (Load d) = flagged_shallow d.tombstone (codes "load") d
change_shallow (Drop d) = flagged_shallow d.tombstone (codes "drop") d

cause_shallow : (cause : Option Cause) → depth (cause_data cause) ≤ 0
cause_shallow None = omega arith
cause_shallow (Some cause) = omega arith

five_shallow : (counter : Point) (from : Option Point) (numbers : Option (ℕ × ℕ)) (requests : List Data) (cause : Option Cause) → items_depth (items_of requests) ≤ 2
    → depth (five_fields counter from numbers requests cause) ≤ 4
five_shallow counter from None requests cause each = omega (arith, each, mark_shallow counter, from_shallow from, cause_shallow cause)
five_shallow counter from (Some (page, of)) requests cause each = omega (arith, each, mark_shallow counter, from_shallow from, cause_shallow cause)

reply_shallow : (body : Body) → depth (reply_data body) ≤ 4
unfolding reply_data
reply_shallow (Delta from to changes) = five_shallow to (Some from) None (map change_data changes) None (items_shallow change_data 2 change_shallow changes)
reply_shallow (Snapshot at segments) = five_shallow at None None (map load_data segments) None (items_shallow load_data 2 (λ d. change_shallow (Load d)) segments)
reply_shallow (Page at page of segments) = five_shallow at None (Some (page, of)) (map load_data segments) None (items_shallow load_data 2 (λ d. change_shallow (Load d)) segments)
reply_shallow (Reset cause at) = five_shallow at None None [] (Some cause) (omega arith)

-- what is written of a reply reads as its JSON
pub reply_read : (body : Body) → IsOfDescriptors body → IsOfWords body → read (reply_text body) ≡ Some (reply_data body)
reply_read body valid words = compact_read (reply_data body) (reply_back body valid words) (omega (arith, reply_shallow body))

-- the same where it is known what the reply is

pub delta_read : (body : Body) (text : List ℕ) (from to : Point) (changes : List Change) → body ≡ Delta from to changes → text ≡ reply_text body → IsWord to × IsWord from
    → All (λ c. IsDescribed (segment_of c)) changes → read text ≡ Some (reply_data body)
delta_read body text from to changes is written words each =
    let back = reply_read (Delta from to changes) (λ c in_it. All-contains (λ x. IsDescribed (segment_of x)) changes c each in_it) (words.1, words.0) in
    ap read written ∙ subst (λ b. read (reply_text b) ≡ Some (reply_data b)) (sym is) back

pub snapshot_read : (body : Body) (text : List ℕ) (at : Point) (segments : List Described) → body ≡ Snapshot at segments → text ≡ reply_text body → IsWord at → All IsDescribed segments
    → read text ≡ Some (reply_data body)
snapshot_read body text at segments is written word each =
    let back = reply_read (Snapshot at segments) (λ d in_it. All-contains IsDescribed segments d each in_it) word in
    ap read written ∙ subst (λ b. read (reply_text b) ≡ Some (reply_data b)) (sym is) back

-- the numbers of a page are small
page_small : (at : Point) (page of : ℕ) (segments : List Described) → IsReply (Page at page of segments) → (page ≤ 65_535) × (of ≤ 65_535)
page_small at page of segments is = (omega (arith, is.1.within, is.1.not_many), omega (arith, is.1.not_many))

page_words : (at : Point) (page of : ℕ) (segments : List Described) → IsReply (Page at page of segments) → IsWord at → IsOfWords (Page at page of segments)
page_words at page of segments is word = let small = page_small at page of segments is in (word, omega (arith, small.0), omega (arith, small.1))

pub page_form : (at : Point) (page of : ℕ) (segments : List Described) → IsReply (Page at page of segments) → IsOfDescriptors (Page at page of segments)
    → form_at (reply_data (Page at page of segments)) ≡ Some (form_of (Page at page of segments))
page_form at page of segments is described =
    let small = page_small at page of segments is in page_back at page of segments is.0 small.0 small.1 described

pub page_read : (body : Body) (text : List ℕ) (at : Point) (page of : ℕ) (segments : List Described) → body ≡ Page at page of segments → IsReply body → text ≡ reply_text body → IsWord at
    → All IsDescribed segments → read text ≡ Some (reply_data body)
page_read body text at page of segments is valid written word each =
    let now : IsReply (Page at page of segments) = subst IsReply is valid in
    let back = reply_read (Page at page of segments) (λ d in_it. All-contains IsDescribed segments d each in_it) (page_words at page of segments now word) in
    ap read written ∙ subst (λ b. read (reply_text b) ≡ Some (reply_data b)) (sym is) back

pub reset_read : (body : Body) (text : List ℕ) (cause : Cause) (at : Point) → body ≡ Reset cause at → text ≡ reply_text body → IsWord at → read text ≡ Some (reply_data body)
reset_read body text cause at is written word =
    ap read written ∙ subst (λ b. read (reply_text b) ≡ Some (reply_data b)) (sym is) (reply_read (Reset cause at) tt word)

-- so it is read back as the reply

pub delta_again : (body : Body) (from to : Point) (changes : List Change) → body ≡ Delta from to changes → IsReply body → IsWord to × IsWord from → All (λ c. IsDescribed (segment_of c)) changes → IsReadBack body
delta_again body from to changes is valid words each =
    let described : IsOfDescriptors (Delta from to changes) = λ c in_it. All-contains (λ x. IsDescribed (segment_of x)) changes c each in_it in
    let now : IsReply (Delta from to changes) = subst IsReply is valid in
    subst IsReadBack (sym is)
    (record {
      valid = now;
      text = reply_read (Delta from to changes) described (words.1, words.0);
      form = delta_back from to changes now.incarnation (subst (λ n. 1 ≤ n) (sym now.far.incarnation) now.incarnation) described;
    })

pub snapshot_again : (body : Body) (at : Point) (segments : List Described) → body ≡ Snapshot at segments → IsReply body → IsWord at → All IsDescribed segments → IsReadBack body
snapshot_again body at segments is valid word each =
    let described : IsOfDescriptors (Snapshot at segments) = λ d in_it. All-contains IsDescribed segments d each in_it in
    let now : IsReply (Snapshot at segments) = subst IsReply is valid in
    subst IsReadBack (sym is)
    (record { valid = now; text = reply_read (Snapshot at segments) described word; form = snapshot_back at segments now.incarnation described })

pub page_again : (body : Body) (at : Point) (page of : ℕ) (segments : List Described) → body ≡ Page at page of segments → IsReply body → IsWord at → All IsDescribed segments → IsReadBack body
page_again body at page of segments is valid word each =
    let described : IsOfDescriptors (Page at page of segments) = λ d in_it. All-contains IsDescribed segments d each in_it in
    let now : IsReply (Page at page of segments) = subst IsReply is valid in
    subst IsReadBack (sym is)
    (record {
      valid = now;
      text = reply_read (Page at page of segments) described (page_words at page of segments now word);
      form = page_form at page of segments now described;
    })

pub reset_again : (body : Body) (cause : Cause) (at : Point) → body ≡ Reset cause at → IsReply body → IsWord at → IsReadBack body
reset_again body cause at is valid word =
    let now : IsReply (Reset cause at) = subst IsReply is valid in
    subst IsReadBack (sym is) (record { valid = now; text = reply_read (Reset cause at) tt word; form = reset_back cause at now })
