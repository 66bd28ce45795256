-- What a writer got, front by front, of a text that is spelled part by part.
use Rattle.std.proofs.Common.{◌≡◌, ℕ, suc, ◌+◌, ◌<◌, ◌≤◌, List, [], ◌++◌, length, take, drop, get_or, Option, String, string_bytes, refl, sym, ap, subst, ◌∙◌, append_assoc, append-nil, arith, length-append, drop-cons}
use Rattle.std.specs.Prelude.{All}
use Rattle.std.specs.Global.{Global}
use Rattle.std.specs.List.{flat_map}
use Rattle.std.proofs.KnownBytes.{Appends-nil, Appends-trans}
use Rattle.std.specs.Io.KnownBytes.{Appends}
use Rattle.std.specs.Int.{w16, w32, w64, to_be_bytes}
use Rattle.druid_stream.specs.Fronts.{AppendsFront}
use Rattle.druid_time.specs.Extent.{Extent}
use Rattle.druid_segment_descriptor.specs.Described.{Described}
use Rattle.std.proofs.lemmas.List.{take-append-drop, take_all, take_more, flat_map_more, get_or-map, length-map}
use Rattle.std.proofs.lemmas.List.Concat.{flat_map-append}
use Rattle.druid_segment_rows.specs.Rows.{Row, no_row, texts_of}
use Rattle.druid_segment_rows.specs.Segment.{Segment, row_at}
use Rattle.druid_segment_file.specs.ByteParts.{magic, instant, interval, short_text, descriptor, names, text_value, number_value, row, spelling}
use Rattle.druid_segment_file.specs.Heading.{heading}
use Rattle.druid_segment_file.proofs.HeadLemmas.{described}
use Rattle.druid_segment_file.proofs.LengthLemmas.{length_spelling}
use Rattle.druid_segment_file.specs.Written.{AppendsUpTo}

pub up_to_then : (a b c : Option (List ℕ)) (text rest more : List ℕ) → AppendsUpTo a b text rest → AppendsUpTo b c rest more → AppendsUpTo a c text more
up_to_then a b c text rest more p q =
    (p.0 ++ q.0, p.1 ∙ ap (λ (t : List ℕ). p.0 ++ t) q.1 ∙ sym (append_assoc p.0 q.0 more), Appends-trans a b c p.0 q.0 p.2 q.2)

pub up_to_more : (a b : Option (List ℕ)) (text rest more : List ℕ) → AppendsUpTo a b text rest → AppendsUpTo a b (text ++ more) (rest ++ more)
up_to_more a b text rest more p = (p.0, ap (λ (t : List ℕ). t ++ more) p.1 ∙ append_assoc p.0 rest more, p.2)

pub front_then : (a b c : Option (List ℕ)) (text rest more : List ℕ) → AppendsUpTo a b text rest → AppendsFront b c rest → AppendsFront a c (text ++ more)
front_then a b c text rest more p q = (
  p.0 ++ q.0,
  q.1 ++ more,
  ap (λ (t : List ℕ). t ++ more) (p.1 ∙ ap (λ (t : List ℕ). p.0 ++ t) q.2 ∙ sym (append_assoc p.0 q.0 q.1)) ∙ append_assoc (p.0 ++ q.0) q.1 more,
  omega (arith, q.3, length-append q.1 more),
  Appends-trans a b c p.0 q.0 p.2 q.4,
)

pub wrote_rest : (a b c : Option (List ℕ)) (text rest : List ℕ) → AppendsUpTo a b text rest → Appends b c rest → Appends a c text
wrote_rest a b c text rest p q = subst (λ (t : List ℕ). Appends a c t) (sym p.1) (Appends-trans a b c p.0 rest p.2 q)

-- ---- parts that are spelled one by one after a text

pub parts_beyond : {A : Type 0} (spell : A → List ℕ) (head : List ℕ) (parts : List A) (i : ℕ) → (head ++ flat_map spell (take i parts)) ++ flat_map spell (drop i parts) ≡ head ++ flat_map spell parts
parts_beyond spell head parts i =
    append_assoc head (flat_map spell (take i parts)) (flat_map spell (drop i parts))
    ∙ ap (λ (t : List ℕ). head ++ t) (sym (flat_map-append spell (take i parts) (drop i parts)) ∙ ap (flat_map spell) (take-append-drop i parts))

-- nothing is written yet
pub no_parts : (a : Option (List ℕ)) (head : List ℕ) → AppendsUpTo a a (head ++ []) head
no_parts a head = ([], append-nil head, Appends-nil a)

-- the writer fails before a part is spelled
pub part_unwritten : {A : Type 0} (spell : A → List ℕ) (head : List ℕ) (parts : List A) (i : ℕ) (a b c : Option (List ℕ)) (rest : List ℕ) → AppendsUpTo a b (head ++ flat_map spell (take i parts)) rest → AppendsFront b c rest → AppendsFront a c (head ++ flat_map spell parts)
part_unwritten spell head parts i a b c rest p q =
    subst (AppendsFront a c) (parts_beyond spell head parts i) (front_then a b c (head ++ flat_map spell (take i parts)) rest (flat_map spell (drop i parts)) p q)

some_left : {A : Type 0} (spell : A → List ℕ) (parts : List A) (i : ℕ) (d : A) → i < length parts → 0 < length (spell (get_or parts i d)) → 0 < length (flat_map spell (drop i parts))
some_left spell parts i d lt some =
    omega (arith, ap (λ left. length (flat_map spell left)) (drop-cons parts i d lt), length-append (spell (get_or parts i d)) (flat_map spell (drop (suc i) parts)), some)

-- a part, which is not empty, is not spelled
pub part_unspelled : {A : Type 0} (spell : A → List ℕ) (head : List ℕ) (parts : List A) (i : ℕ) (d : A) (a b : Option (List ℕ)) (rest : List ℕ) → i < length parts → 0 < length (spell (get_or parts i d)) → AppendsUpTo a b (head ++ flat_map spell (take i parts)) rest → AppendsFront a b (head ++ flat_map spell parts)
part_unspelled spell head parts i d a b rest lt some p =
    let left = flat_map spell (drop i parts) in (
      p.0,
      rest ++ left,
      sym (parts_beyond spell head parts i) ∙ ap (λ (t : List ℕ). t ++ left) p.1 ∙ append_assoc p.0 rest left,
      omega (arith, some_left spell parts i d lt some, length-append rest left),
      p.2,
    )

-- one part more waits to be written
pub part_waits : {A : Type 0} (spell : A → List ℕ) (head : List ℕ) (parts : List A) (i : ℕ) (d : A) (a b : Option (List ℕ)) (rest more : List ℕ) → i < length parts → more ≡ rest ++ spell (get_or parts i d) → AppendsUpTo a b (head ++ flat_map spell (take i parts)) rest → AppendsUpTo a b (head ++ flat_map spell (take (i + 1) parts)) more
part_waits spell head parts i d a b rest more lt e p =
    let one = spell (get_or parts i d) in
    let before = head ++ flat_map spell (take i parts) in
    let all : before ++ one ≡ head ++ flat_map spell (take (i + 1) parts) =
    flat_map_more spell head (take i parts) (get_or parts i d) ∙ ap (λ ps. head ++ flat_map spell ps) (sym (take_more parts i d lt)) in
    subst (λ (t : List ℕ). AppendsUpTo a b t more) all (subst (AppendsUpTo a b (before ++ one)) (sym e) (up_to_more a b before rest one p))

-- all parts are spelled
pub parts_done : {A : Type 0} (spell : A → List ℕ) (head : List ℕ) (parts : List A) (i : ℕ) (a b : Option (List ℕ)) (rest : List ℕ) → length parts ≤ i → AppendsUpTo a b (head ++ flat_map spell (take i parts)) rest → AppendsUpTo a b (head ++ flat_map spell parts) rest
parts_done spell head parts i a b rest le p =
    subst (λ ps. AppendsUpTo a b (head ++ flat_map spell ps) rest) (take_all i parts le) p

-- ---- the spelling of a segment, row by row

heading_rows : (s : Segment) → heading s ++ flat_map row s.rows ≡ spelling s
heading_rows s =
    append_assoc (((magic ++ descriptor s.descriptor) ++ names s.fields.dimensions) ++ names s.fields.metrics) (to_be_bytes w32 (length s.rows)) (flat_map row s.rows)

-- a front of the spelling that was written before a row was
pub spelled_front : (s : Segment) (i : ℕ) (a b c : Option (List ℕ)) (rest : List ℕ) → AppendsUpTo a b (heading s ++ flat_map row (take i s.rows)) rest → AppendsFront b c rest → AppendsFront a c (spelling s)
spelled_front s i a b c rest p q = subst (AppendsFront a c) (heading_rows s) (part_unwritten row (heading s) s.rows i a b c rest p q)

some_row : (values : Row) → 0 < length (row values)
some_row values =
    omega (arith, length-append (instant values.time ++ flat_map text_value values.dimensions) (flat_map number_value values.metrics), length-append (instant values.time) (flat_map text_value values.dimensions))

-- nothing is written yet
pub nothing_spelled : (s : Segment) (known : Option (List ℕ)) → AppendsFront known known (spelling s)
nothing_spelled s known = ([], spelling s, refl, omega (arith, length_spelling s), Appends-nil known)

-- a front of the spelling that was written before the next row is spelled
pub before_row : (s : Segment) (i : ℕ) (a b : Option (List ℕ)) (rest : List ℕ) → i < length s.rows → AppendsUpTo a b (heading s ++ flat_map row (take i s.rows)) rest → AppendsFront a b (spelling s)
before_row s i a b rest lt p =
    subst (AppendsFront a b) (heading_rows s) (part_unspelled row (heading s) s.rows i no_row a b rest lt (some_row (row_at s i)) p)

-- one row more waits to be written
pub row_waits : (s : Segment) (i : ℕ) (a b : Option (List ℕ)) (rest more : List ℕ) → i < length s.rows → more ≡ rest ++ row (row_at s i) → AppendsUpTo a b (heading s ++ flat_map row (take i s.rows)) rest → AppendsUpTo a b (heading s ++ flat_map row (take (i + 1) s.rows)) more
row_waits s i a b rest more lt e p = part_waits row (heading s) s.rows i no_row a b rest more lt e p

pub spelled_out : (s : Segment) (i : ℕ) (a b c : Option (List ℕ)) (rest : List ℕ) → length s.rows ≤ i → AppendsUpTo a b (heading s ++ flat_map row (take i s.rows)) rest → Appends b c rest → Appends a c (spelling s)
spelled_out s i a b c rest le p q =
    subst (Appends a c) (heading_rows s) (wrote_rest a b c (heading s ++ flat_map row s.rows) rest (parts_done row (heading s) s.rows i a b rest le p) q)

-- what holds of each text holds of that at a place
pub text_at : (P : List ℕ → Type 0) (texts : List (String Global)) (i : ℕ) (item : String Global) (text : List ℕ) → All P (texts_of texts) → i < length texts → item ≡ get_or texts i item → text ≡ string_bytes item → P text
text_at P texts i item text each lt is e =
    let same : get_or (texts_of texts) i (string_bytes item) ≡ text = get_or-map string_bytes texts i item (string_bytes item) lt ∙ ap string_bytes (sym is) ∙ sym e in
    subst P same (each i (string_bytes item) (omega (arith, length-map texts string_bytes)))

-- ---- a descriptor, part by part

six_beyond : (o a b c d e f : List ℕ) → (((((o ++ a) ++ b) ++ c) ++ d) ++ e) ++ f ≡ o ++ (((((a ++ b) ++ c) ++ d) ++ e) ++ f)
six_beyond o a b c d e f = simp append_assoc

same_descriptor : (d : Described) (source : List ℕ) (extent : Extent) (version : List ℕ) (partition core size : ℕ) → source ≡ d.id.source → extent ≡ d.id.interval → version ≡ d.id.version → partition ≡ d.id.partition → core ≡ d.core → size ≡ d.size
    → descriptor (described source extent version partition core size) ≡ descriptor d
same_descriptor d source extent version partition core size p q r s t u = rw (p, q, r, s, t, u) refl

pub descriptor_grown : (d : Described) (o0 o1 o2 o3 o4 o5 o6 source : List ℕ) (extent : Extent) (version : List ℕ) (partition core size : ℕ) → source ≡ d.id.source → extent ≡ d.id.interval → version ≡ d.id.version → partition ≡ d.id.partition → core ≡ d.core → size ≡ d.size
    → o1 ≡ o0 ++ short_text source → o2 ≡ o1 ++ interval extent → o3 ≡ o2 ++ short_text version → o4 ≡ o3 ++ to_be_bytes w16 partition → o5 ≡ o4 ++ to_be_bytes w16 core → o6 ≡ o5 ++ to_be_bytes w64 size → o6 ≡ o0 ++ descriptor d
descriptor_grown d o0 o1 o2 o3 o4 o5 o6 source extent version partition core size p q r s t u e1 e2 e3 e4 e5 e6 =
    let f2 : o2 ≡ (o0 ++ short_text source) ++ interval extent = e2 ∙ ap (λ (x : List ℕ). x ++ interval extent) e1 in
    let f3 : o3 ≡ ((o0 ++ short_text source) ++ interval extent) ++ short_text version = e3 ∙ ap (λ (x : List ℕ). x ++ short_text version) f2 in
    let f4 : o4 ≡ (((o0 ++ short_text source) ++ interval extent) ++ short_text version) ++ to_be_bytes w16 partition = e4 ∙ ap (λ (x : List ℕ). x ++ to_be_bytes w16 partition) f3 in
    let f5 : o5 ≡ ((((o0 ++ short_text source) ++ interval extent) ++ short_text version) ++ to_be_bytes w16 partition) ++ to_be_bytes w16 core = e5 ∙ ap (λ (x : List ℕ). x ++ to_be_bytes w16 core) f4 in
    e6 ∙ ap (λ (x : List ℕ). x ++ to_be_bytes w64 size) f5
    ∙ six_beyond o0 (short_text source) (interval extent) (short_text version) (to_be_bytes w16 partition) (to_be_bytes w16 core) (to_be_bytes w64 size)
    ∙ ap (λ (x : List ℕ). o0 ++ x) (same_descriptor d source extent version partition core size p q r s t u)

pub interval_grown : (extent : Extent) (o0 o1 o2 : List ℕ) (start end : ℕ) → start ≡ extent.start → end ≡ extent.end → o1 ≡ o0 ++ instant start → o2 ≡ o1 ++ instant end → o2 ≡ o0 ++ interval extent
interval_grown extent o0 o1 o2 start end p q e1 e2 =
    e2 ∙ ap (λ (x : List ℕ). x ++ instant end) e1
    ∙ append_assoc o0 (instant start) (instant end)
    ∙ ap (λ (t : ℕ). o0 ++ (instant t ++ instant end)) p ∙ ap (λ (t : ℕ). o0 ++ (instant extent.start ++ instant t)) q
