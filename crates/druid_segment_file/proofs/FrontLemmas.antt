-- Readers are steady: with more bytes after, each gives the same value or the same fault, unless the bytes ended in it. None gives the fault of a failed write.
use Rattle.std.proofs.Common.{◌≡◌, ◌≢◌, ◌⊎◌, ℕ, zero, suc, ◌<◌, ◌≤◌, Bool, true, false, ◌&&◌, cond, ltb, leb, eqb, List, [], ◌∷◌, ◌++◌, length, take, drop, Option, Some, None, Result, Ok, Err, refl, sym, ap, subst, ◌∙◌, arith, inl, inr}
use Rattle.std.specs.Prelude.{ok_or, bytes_eq, nat_le}
use Rattle.std.specs.Str.{is_utf8}
use Rattle.std.specs.Int.{Width, w16, w32, w64, byte_len}
use Rattle.std.proofs.lemmas.Bool.{ltb-false, le-ltb}
use Rattle.std.proofs.lemmas.List.{length-append, length-drop, take_all, take-append-drop, take-append-le, drop-append-le}
use Rattle.druid_time.specs.Extent.{Extent}
use Rattle.druid_segment_id.specs.Names.{is_name, is_version}
use Rattle.druid_segment_descriptor.specs.Described.{max_core}
use Rattle.druid_segment_rows.specs.Rows.{max_value}
use Rattle.druid_segment_rows.specs.Segment.{Segment, segment_of, text_length, max_fields, max_rows, max_text}
use Rattle.druid_segment_file.specs.declared.fault.FileFault.{FileFault}
use Rattle.druid_segment_file.specs.declared.fault.FileFault.TheVariants.{Magic, Cut, Field, RowOutside, TooLong, Trailing, Read, Write, Memory}
use Rattle.druid_segment_file.specs.ByteParts.{magic}
use Rattle.druid_segment_file.specs.ColumnBytes.{column_magic}
use Rattle.druid_time.specs.Results.{◌>>=◌}
use Rattle.druid_segment_file.specs.Parts.{bytes_at, byte_at, number_at, signed_at, at_most, accepted, short_text_at, text_at, each_at, instant_of, moment_at, interval_at, name_at, version_at, core_at, descriptor_at, is_new_name, field_name_at, field_names_at, names_at, fields_at, instant_in, row_time_at, text_value_at, number_value_at, Shape, shape_of, values_at, row_count_at, rows_at}
use Rattle.druid_segment_file.specs.ColumnReader.{is_above, value_text_at, value_texts_at, code_at, have_rows, codes_at, coded_at, dimension_at, mark_at, present_at, metric_at, columns_at, rows_of, of_length, column_content_at}
use Rattle.druid_segment_file.specs.Reader.{GivesInMemory, row_content_at, content_in, content_at, short_of, segment_within, segment_at}
use Rattle.druid_segment_file.proofs.PartLemmas.{ok_is}

-- the same value, with more bytes after it
abbrev longer : {A : Type 0} → List ℕ → A × List ℕ → A × List ℕ
longer more x = (x.0, x.1 ++ more)

-- a fault that bytes can have
abbrev pub IsOfBytes : FileFault → Type 0
IsOfBytes Read = ⊥
IsOfBytes Write = ⊥
IsOfBytes Memory = ⊥
IsOfBytes fault = Unit {0}

abbrev Stays : {A : Type 0} → FileFault → (A → A) → Result A FileFault → Result A FileFault → Type 0
Stays short add (Ok x) whole = whole ≡ Ok (add x)
Stays short add (Err fault) whole = (fault ≡ short) ⊎ ((whole ≡ Err fault) × IsOfBytes fault)

-- what is read of a front, and what of the whole: the same but for what `add` does, unless the front ends too soon
record Keeps (A : Type 0) (short : FileFault) (add : A → A) (front whole : Result A FileFault) : Type 0 where
  pub stays : Stays short add front whole

abbrev IsSteady : {A : Type 0} → FileFault → (List ℕ → Result (A × List ℕ) FileFault) → Type 0
IsSteady {A} short read = (bytes more : List ℕ) → Keeps (A × List ℕ) short (longer more) (read bytes) (read (bytes ++ more))

-- ---- steps

bound_by : {A B : Type 0} (short : FileFault) (add : A → A) (end : B → B) (front whole : Result A FileFault) (f g : A → Result B FileFault) → Stays short add front whole → ((x : A) → Keeps B short end (f x) (g (add x))) → Keeps B short end (front >>= f) (whole >>= g)
bound_by short add end (Ok x) whole f g stays next = rw stays (next x)
bound_by short add end (Err fault) whole f g (inl is) next = record { stays = inl is }
bound_by short add end (Err fault) whole f g (inr own) next = record { stays = inr (rw own.0 refl, own.1) }

-- a step, and the steps after it
bound : {A B : Type 0} {short : FileFault} {add : A → A} {end : B → B} {front whole : Result A FileFault} → Keeps A short add front whole → (f g : A → Result B FileFault) → ((x : A) → Keeps B short end (f x) (g (add x))) → Keeps B short end (front >>= f) (whole >>= g)
bound {A} {B} {short} {add} {end} {front} {whole} first f g next = bound_by short add end front whole f g first.stays next

read_ok : {A : Type 0} {short : FileFault} {add : A → A} (x : A) → Keeps A short add (Ok x) (Ok (add x))
read_ok x = record { stays = refl }

refused : {A : Type 0} {short : FileFault} {add : A → A} (fault : FileFault) → IsOfBytes fault → Keeps A short add (Err fault) (Err fault)
refused fault own = record { stays = inr (refl, own) }

either : {A : Type 0} {short : FileFault} {add : A → A} (b : Bool) {r s v w : Result A FileFault} → Keeps A short add r v → Keeps A short add s w → Keeps A short add (cond b r s) (cond b v w)
either true p q = p
either false p q = q

-- a step that takes no bytes
abbrev IsPlain : {A : Type 0} → FileFault → Result A FileFault → Type 0
IsPlain {A} short r = Keeps A short (λ x. x) r r

known : {A : Type 0} (short : FileFault) (o : Option A) (fault : FileFault) → IsOfBytes fault → IsPlain short (ok_or o fault)
known short None fault own = refused fault own
known short (Some x) fault own = read_ok x

no_more_than : (short : FileFault) (limit n : ℕ) → IsPlain short (at_most limit n)
unfolding at_most
no_more_than short limit n = either (ltb limit n) (refused TooLong tt) (read_ok n)

tested : {A : Type 0} (short : FileFault) (test : A → Bool) (x : A) → IsPlain short (accepted test x)
unfolding accepted
tested short test x = either (test x) (read_ok x) (refused Field tt)

-- ---- parts

some_bytes : (b : Bool) (short : FileFault) (n : ℕ) (bytes more : List ℕ) → ltb (length bytes) n ≡ b → Stays short (longer more) (cond b (Err short) (Ok (take n bytes, drop n bytes))) (bytes_at short n (bytes ++ more))
unfolding bytes_at
some_bytes true short n bytes more e = inl refl
some_bytes false short n bytes more e =
    let enough = ltb-false (length bytes) n e in
    rw (le-ltb (length (bytes ++ more)) n (omega (arith, enough, length-append bytes more)), take-append-le n bytes more enough, drop-append-le n bytes more enough) refl

bytes_steady : (short : FileFault) (n : ℕ) → IsSteady short (bytes_at short n)
unfolding bytes_at
bytes_steady short n bytes more = record { stays = some_bytes (ltb (length bytes) n) short n bytes more refl }

byte_steady : (short : FileFault) → IsSteady short (byte_at short)
unfolding byte_at
byte_steady short [] more = record { stays = inl refl }
byte_steady short (b ∷ bytes) more = read_ok (b, bytes)

number_steady : (short : FileFault) (w : Width) → IsSteady short (number_at short w)
unfolding number_at
number_steady short w bytes more = bound (bytes_steady short (byte_len w) bytes more) _ _ (λ part. read_ok _)

signed_steady : (short : FileFault) → IsSteady short (signed_at short)
unfolding signed_at
signed_steady short bytes more = bound (number_steady short w64 bytes more) _ _ (λ part. read_ok _)

short_text_steady : (short : FileFault) (limit : ℕ) → IsSteady short (short_text_at short limit)
unfolding short_text_at
short_text_steady short limit bytes more =
    bound (byte_steady short bytes more) _ _ (λ part.
    bound (no_more_than short limit part.0) _ _ (λ len.
    bytes_steady short len part.1 more))

text_steady : (short : FileFault) → IsSteady short (text_at short)
unfolding text_at
text_steady short bytes more =
    bound (number_steady short w16 bytes more) _ _ (λ part.
    bound (no_more_than short max_value part.0) _ _ (λ len.
    bound (bytes_steady short len part.1 more) _ _ (λ text.
    bound (tested short is_utf8 text.0) _ _ (λ value.
    read_ok _))))

accepted_steady : {A : Type 0} (short : FileFault) (read : List ℕ → Result (A × List ℕ) FileFault) → IsSteady short read → (test : A → Bool) → IsSteady short (λ bytes. read bytes >>= λ part. accepted test part.0 >>= λ value. Ok (value, part.1))
accepted_steady short read steady test bytes more =
    bound (steady bytes more) _ _ (λ part.
    bound (tested short test part.0) _ _ (λ value.
    read_ok _))

each_steady : {A : Type 0} (short : FileFault) (read : List ℕ → Result (A × List ℕ) FileFault) → IsSteady short read → (n : ℕ) → IsSteady short (each_at read n)
unfolding each_at
each_steady short read steady zero bytes more = read_ok _
each_steady short read steady (suc n) bytes more =
    bound (steady bytes more) _ _ (λ first.
    bound (each_steady short read steady n first.1 more) _ _ (λ others.
    read_ok _))

-- ---- the descriptor

moment_steady : (short : FileFault) → IsSteady short (moment_at short)
unfolding moment_at
moment_steady short bytes more =
    bound (signed_steady short bytes more) _ _ (λ ms.
    bound (known short (instant_of ms.0) Field tt) _ _ (λ moment.
    read_ok _))

interval_steady : (short : FileFault) → IsSteady short (interval_at short)
unfolding interval_at
interval_steady short bytes more =
    bound (moment_steady short bytes more) _ _ (λ start.
    bound (moment_steady short start.1 more) _ _ (λ end.
    either (ltb start.0 end.0) (read_ok _) (refused Field tt)))

name_steady : (short : FileFault) → IsSteady short (name_at short)
unfolding name_at
name_steady short = accepted_steady short (short_text_at short 100) (short_text_steady short 100) is_name

version_steady : (short : FileFault) → IsSteady short (version_at short)
unfolding version_at
version_steady short = accepted_steady short (short_text_at short 64) (short_text_steady short 64) is_version

core_steady : (short : FileFault) → IsSteady short (core_at short)
unfolding core_at
core_steady short = accepted_steady short (number_at short w16) (number_steady short w16) (λ n. nat_le n max_core)

descriptor_steady : (short : FileFault) → IsSteady short (descriptor_at short)
unfolding descriptor_at
descriptor_steady short bytes more =
    bound (name_steady short bytes more) _ _ (λ source.
    bound (interval_steady short source.1 more) _ _ (λ interval.
    bound (version_steady short interval.1 more) _ _ (λ version.
    bound (number_steady short w16 version.1 more) _ _ (λ partition.
    bound (core_steady short partition.1 more) _ _ (λ core.
    bound (number_steady short w64 core.1 more) _ _ (λ size.
    read_ok _))))))

-- ---- the names of the fields

field_name_steady : (short : FileFault) (before : List (List ℕ)) → IsSteady short (field_name_at short before)
unfolding field_name_at
field_name_steady short before = accepted_steady short (short_text_at short 100) (short_text_steady short 100) (is_new_name before)

field_names_steady : (short : FileFault) (n : ℕ) (before : List (List ℕ)) → IsSteady short (field_names_at short n before)
unfolding field_names_at
field_names_steady short zero before bytes more = read_ok _
field_names_steady short (suc n) before bytes more =
    bound (field_name_steady short before bytes more) _ _ (λ name.
    bound (field_names_steady short n (before ++ name.0 ∷ []) name.1 more) _ _ (λ others.
    read_ok _))

names_steady : (short : FileFault) (before : List (List ℕ)) → IsSteady short (names_at short before)
unfolding names_at
names_steady short before bytes more =
    bound (byte_steady short bytes more) _ _ (λ part.
    bound (no_more_than short max_fields part.0) _ _ (λ count.
    field_names_steady short count before part.1 more))

fields_steady : (short : FileFault) → IsSteady short (fields_at short)
unfolding fields_at
fields_steady short bytes more =
    bound (names_steady short [] bytes more) _ _ (λ dimensions.
    bound (names_steady short dimensions.0 dimensions.1 more) _ _ (λ metrics.
    read_ok _))

-- ---- the rows

row_time_steady : (short : FileFault) (interval : Extent) → IsSteady short (row_time_at short interval)
unfolding row_time_at
row_time_steady short interval bytes more =
    bound (signed_steady short bytes more) _ _ (λ ms.
    bound (known short (instant_in interval (instant_of ms.0)) RowOutside tt) _ _ (λ time.
    read_ok _))

text_value_steady : (short : FileFault) → IsSteady short (text_value_at short)
unfolding text_value_at
text_value_steady short [] more = record { stays = inl refl }
text_value_steady short (zero ∷ bytes) more = read_ok (None, bytes)
text_value_steady short (suc zero ∷ bytes) more = bound (text_steady short bytes more) _ _ (λ text. read_ok _)
text_value_steady short (suc (suc mark) ∷ bytes) more = refused Field tt

number_value_steady : (short : FileFault) → IsSteady short (number_value_at short)
unfolding number_value_at
number_value_steady short [] more = record { stays = inl refl }
number_value_steady short (zero ∷ bytes) more = read_ok (None, bytes)
number_value_steady short (suc zero ∷ bytes) more = bound (signed_steady short bytes more) _ _ (λ number. read_ok _)
number_value_steady short (suc (suc mark) ∷ bytes) more = refused Field tt

values_steady : (short : FileFault) (shape : Shape) → IsSteady short (values_at short shape)
unfolding values_at
values_steady short shape bytes more =
    bound (row_time_steady short shape.interval bytes more) _ _ (λ time.
    bound (each_steady short (text_value_at short) (text_value_steady short) shape.dimensions time.1 more) _ _ (λ dimensions.
    bound (each_steady short (number_value_at short) (number_value_steady short) shape.metrics dimensions.1 more) _ _ (λ metrics.
    read_ok _)))

rows_steady : (short : FileFault) (shape : Shape) → IsSteady short (rows_at short shape)
unfolding rows_at
rows_steady short shape bytes more =
    bound (number_steady short w32 bytes more) _ _ (λ part.
    bound (no_more_than short max_rows part.0) _ _ (λ count.
    each_steady short (values_at short shape) (values_steady short shape) count part.1 more))

-- ---- the columns

value_text_steady : (short : FileFault) (last : Option (List ℕ)) → IsSteady short (value_text_at short last)
unfolding value_text_at
value_text_steady short last = accepted_steady short (text_at short) (text_steady short) (is_above last)

value_texts_steady : (short : FileFault) (n : ℕ) (last : Option (List ℕ)) → IsSteady short (value_texts_at short n last)
unfolding value_texts_at
value_texts_steady short zero last bytes more = read_ok _
value_texts_steady short (suc n) last bytes more =
    bound (value_text_steady short last bytes more) _ _ (λ text.
    bound (value_texts_steady short n (Some text.0) text.1 more) _ _ (λ others.
    read_ok _))

code_steady : (short : FileFault) (count : ℕ) → IsSteady short (code_at short count)
unfolding code_at
code_steady short count = accepted_steady short (number_at short w32) (number_steady short w32) (λ n. nat_le n count)

codes_steady : (short : FileFault) (count rows : ℕ) → IsSteady short (codes_at short count rows)
unfolding codes_at
codes_steady short count rows = accepted_steady short (each_at (code_at short count) rows) (each_steady short (code_at short count) (code_steady short count) rows) (have_rows count)

coded_steady : (short : FileFault) (count rows : ℕ) → IsSteady short (coded_at short count rows)
unfolding coded_at
coded_steady short count rows bytes more =
    bound (value_texts_steady short count None bytes more) _ _ (λ texts.
    bound (codes_steady short count rows texts.1 more) _ _ (λ codes.
    read_ok _))

dimension_steady : (short : FileFault) (rows : ℕ) → IsSteady short (dimension_at short rows)
unfolding dimension_at
dimension_steady short rows bytes more =
    bound (number_steady short w32 bytes more) _ _ (λ part.
    bound (no_more_than short rows part.0) _ _ (λ count.
    coded_steady short count rows part.1 more))

mark_steady : (short : FileFault) → IsSteady short (mark_at short)
unfolding mark_at
mark_steady short [] more = record { stays = inl refl }
mark_steady short (zero ∷ bytes) more = read_ok (false, bytes)
mark_steady short (suc zero ∷ bytes) more = read_ok (true, bytes)
mark_steady short (suc (suc mark) ∷ bytes) more = refused Field tt

present_steady : (short : FileFault) (marks : List Bool) → IsSteady short (present_at short marks)
unfolding present_at
present_steady short [] bytes more = read_ok _
present_steady short (false ∷ marks) bytes more =
    bound (present_steady short marks bytes more) _ _ (λ others.
    read_ok _)
present_steady short (true ∷ marks) bytes more =
    bound (signed_steady short bytes more) _ _ (λ number.
    bound (present_steady short marks number.1 more) _ _ (λ others.
    read_ok _))

metric_steady : (short : FileFault) (rows : ℕ) → IsSteady short (metric_at short rows)
unfolding metric_at
metric_steady short rows bytes more =
    bound (each_steady short (mark_at short) (mark_steady short) rows bytes more) _ _ (λ marks.
    present_steady short marks.0 marks.1 more)

columns_steady : (short : FileFault) (shape : Shape) (rows : ℕ) → IsSteady short (columns_at short shape rows)
unfolding columns_at
columns_steady short shape rows bytes more =
    bound (each_steady short (row_time_at short shape.interval) (row_time_steady short shape.interval) rows bytes more) _ _ (λ times.
    bound (each_steady short (dimension_at short rows) (dimension_steady short rows) shape.dimensions times.1 more) _ _ (λ dimensions.
    bound (each_steady short (metric_at short rows) (metric_steady short rows) shape.metrics dimensions.1 more) _ _ (λ metrics.
    read_ok _)))

count_steady : (short : FileFault) → IsSteady short (row_count_at short)
unfolding row_count_at
count_steady short bytes more =
    bound (number_steady short w32 bytes more) _ _ (λ part.
    bound (no_more_than short max_rows part.0) _ _ (λ count.
    read_ok _))

no_longer : (short : FileFault) (segment : Segment) → IsPlain short (of_length segment)
unfolding of_length
no_longer short segment = bound (no_more_than short max_text (text_length segment)) _ _ (λ len. read_ok segment)

-- ---- the whole

row_content_steady : (short : FileFault) → IsSteady short (row_content_at short)
unfolding row_content_at
row_content_steady short bytes more =
    bound (descriptor_steady short bytes more) _ _ (λ descriptor.
    bound (fields_steady short descriptor.1 more) _ _ (λ fields.
    bound (rows_steady short (shape_of descriptor.0 fields.0) fields.1 more) _ _ (λ rows.
    read_ok _)))

column_content_steady : (short : FileFault) → IsSteady short (column_content_at short)
unfolding column_content_at
column_content_steady short bytes more =
    bound (descriptor_steady short bytes more) _ _ (λ descriptor.
    bound (fields_steady short descriptor.1 more) _ _ (λ fields.
    bound (count_steady short fields.1 more) _ _ (λ count.
    bound (columns_steady short (shape_of descriptor.0 fields.0) count.0 count.1 more) _ _ (λ columns.
    bound (no_longer short (segment_of descriptor.0 fields.0 (rows_of columns.0))) _ _ (λ segment.
    read_ok _)))))

layout_steady : (short : FileFault) (name : List ℕ) → IsSteady short (content_in short name)
unfolding content_in
layout_steady short name bytes more =
    either (bytes_eq name magic) (row_content_steady short bytes more) (either (bytes_eq name column_magic) (column_content_steady short bytes more) (refused Magic tt))

content_steady : (short : FileFault) → IsSteady short (content_at short)
unfolding content_at
content_steady short bytes more =
    bound (bytes_steady short 4 bytes more) _ _ (λ name.
    layout_steady short name.0 name.1 more)

-- ---- what follows

short_of_more : {A : Type 0} (short : FileFault) (more : List ℕ) (x : A) (front whole : Result (A × List ℕ) FileFault) → Stays short (longer more) front whole → whole ≡ Ok (x, []) → 0 < length more → front ≡ Err short
short_of_more short more x (Ok y) whole stays is some =
    let same : length (y.1 ++ more) ≡ 0 = ap (λ p. length p.1) (ok_is (longer more y) (x, []) (sym stays ∙ is)) in
    absurd (omega (arith, same, length-append y.1 more, some))
short_of_more short more x (Err fault) whole (inl same) is some = ap Err same
short_of_more short more x (Err fault) whole (inr own) is some = let clash = sym own.0 ∙ is in absurd cc

-- of what is read to its end, each shorter front ends too soon
pub front_short : (short : FileFault) (bytes : List ℕ) (s : Segment) (k : ℕ) → content_at short bytes ≡ Ok (s, []) → k < length bytes → content_at short (take k bytes) ≡ Err short
front_short short bytes s k is lt =
    let front = take k bytes in
    let more = drop k bytes in
    short_of_more short more s (content_at short front) (content_at short (front ++ more)) (content_steady short front more).stays (ap (content_at short) (take-append-drop k bytes) ∙ is) (omega (arith, length-drop k bytes, lt))

-- every fault that is read is one of the bytes
own_fault : {A : Type 0} (short : FileFault) (add : A → A) (front whole : Result A FileFault) (fault : FileFault) → IsOfBytes short → Stays short add front whole → front ≡ Err fault → IsOfBytes fault
own_fault short add (Ok x) whole fault own stays e = absurd cc
own_fault short add (Err of) whole fault own (inl same) e = let is : short ≡ fault = cc in subst IsOfBytes is own
own_fault short add (Err of) whole fault own (inr stays) e = let is : of ≡ fault = cc in subst IsOfBytes is stays.1

short_own : (b : Bool) → IsOfBytes (cond b TooLong Cut)
short_own true = tt
short_own false = tt

trailing_own : (b : Bool) (s : Segment) (fault : FileFault) → cond b (Ok s) (Err Trailing) ≡ Err fault → IsOfBytes fault
trailing_own true s fault e = absurd cc
trailing_own false s fault e = let is : Trailing ≡ fault = cc in subst IsOfBytes is tt

judged_own : (r : Result (Segment × List ℕ) FileFault) (test : List ℕ → Bool) (fault : FileFault) → ((f : FileFault) → r ≡ Err f → IsOfBytes f) → (r >>= λ x. cond (test x.1) (Ok x.0) (Err Trailing)) ≡ Err fault → IsOfBytes fault
judged_own (Err of) test fault own e = let is : of ≡ fault = cc in subst IsOfBytes is (own of refl)
judged_own (Ok x) test fault own e = trailing_own (test x.1) x.0 fault e

pub within_own : (limit : ℕ) (bytes : List ℕ) (fault : FileFault) → segment_within limit bytes ≡ Err fault → IsOfBytes fault
unfolding segment_within
within_own limit bytes fault e =
    let short = short_of limit bytes in
    let steady = content_steady short (take limit bytes) [] in
    judged_own (content_at short (take limit bytes)) (λ rest. eqb (length rest) 0 && leb (length bytes) limit) fault (λ f is. own_fault short (longer []) _ _ f (short_own (ltb limit (length bytes))) steady.stays is) e

pub gives_no_write : (bytes : List ℕ) (result : Result Segment FileFault) → GivesInMemory result (segment_at bytes) → result ≢ Err Write
gives_no_write bytes (Ok s) gives e = absurd cc
gives_no_write bytes (Err fault) gives e =
    let same : fault ≡ Write = cc in
    within_own max_text bytes Write (subst (λ (f : FileFault). GivesInMemory (Err f) (segment_at bytes)) same gives)

-- ---- a fault stays, whatever follows

judged_ok : (b : Bool) (s : Segment) (fault : FileFault) → cond b (Ok s) (Err Trailing) ≡ Err fault → fault ≢ Trailing → ⊥
judged_ok true s fault e none = absurd cc
judged_ok false s fault e none = let same : Trailing ≡ fault = cc in none (sym same)

judged_fault : (r : Result (Segment × List ℕ) FileFault) (test : List ℕ → Bool) (fault : FileFault) → (r >>= λ x. cond (test x.1) (Ok x.0) (Err Trailing)) ≡ Err fault → fault ≢ Trailing → r ≡ Err fault
judged_fault (Err own) test fault e none = let same : own ≡ fault = cc in ap Err same
judged_fault (Ok x) test fault e none = absurd (judged_ok (test x.1) x.0 fault e none)

stays_fault : {A : Type 0} (short fault : FileFault) (add : A → A) (front whole : Result A FileFault) → Stays short add front whole → front ≡ Err fault → fault ≢ short → whole ≡ Err fault
stays_fault short fault add (Ok x) whole stays e other = absurd cc
stays_fault short fault add (Err own) whole (inl same) e other = let is : own ≡ fault = cc in absurd (other (sym is ∙ same))
stays_fault short fault add (Err own) whole (inr stays) e other = let is : own ≡ fault = cc in stays.0 ∙ ap Err is

within_stays : (limit : ℕ) (front more : List ℕ) (fault : FileFault) → length (front ++ more) ≤ limit → segment_within limit front ≡ Err fault → fault ≢ Cut → fault ≢ Trailing → segment_within limit (front ++ more) ≡ Err fault
unfolding segment_within
within_stays limit front more fault fits e cut trailing =
    let len = length-append front more in
    let few : length front ≤ limit = omega (arith, len, fits) in
    let first : (content_at Cut front >>= λ x. cond (eqb (length x.1) 0 && leb (length front) limit) (Ok x.0) (Err Trailing)) ≡ Err fault = rw (le-ltb limit (length front) few, take_all limit front few) at e in
    let read = judged_fault (content_at Cut front) (λ rest. eqb (length rest) 0 && leb (length front) limit) fault first trailing in
    let whole = stays_fault Cut fault (longer more) (content_at Cut front) (content_at Cut (front ++ more)) (content_steady Cut front more).stays read cut in
    rw (le-ltb limit (length (front ++ more)) fits, take_all limit (front ++ more) fits, whole) refl

pub fault_stays : (front more : List ℕ) (fault : FileFault) → length (front ++ more) ≤ max_text → segment_at front ≡ Err fault → fault ≢ Cut → fault ≢ Trailing → segment_at (front ++ more) ≡ Err fault
fault_stays front more fault fits e cut trailing = within_stays max_text front more fault fits e cut trailing
