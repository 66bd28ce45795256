-- Parts that a loop reads one after the other.
use Rattle.std.proofs.Common.{◌≡◌, ℕ, suc, ◌-◌, ◌+◌, ◌≤◌, ◌<◌, List, [], ◌∷◌, ◌++◌, Option, Some, None, Result, Ok, Err, IsOk, refl, sym, ap, ◌∙◌, append_assoc, arith}
use Rattle.std.proofs.lemmas.List.{append-nil}
use Rattle.druid_segment_file.specs.declared.fault.FileFault.{FileFault}
use Rattle.druid_time.specs.Results.{◌>>=◌}
use Rattle.druid_segment_file.specs.Parts.{each_at, field_name_at, field_names_at}
use Rattle.druid_segment_file.specs.ColumnReader.{value_text_at, value_texts_at}

-- what is made of the parts that were read before, and of those that are still read
abbrev pub gathered : {A B : Type 0} → (List A → B) → List A → Result (List A × List ℕ) FileFault → Result (B × List ℕ) FileFault
gathered make front read = read >>= λ x. Ok (make (front ++ x.0), x.1)

abbrev pub with_front : {A : Type 0} → List A → Result (List A × List ℕ) FileFault → Result (List A × List ℕ) FileFault
with_front front read = read >>= λ x. Ok (front ++ x.0, x.1)

pub nothing_before : {A : Type 0} (read : Result (List A × List ℕ) FileFault) → with_front [] read ≡ read
nothing_before (Ok x) = refl
nothing_before (Err fault) = refl

-- before the first part
pub with_none : {A : Type 0} (read : List ℕ → Result (A × List ℕ) FileFault) (count : ℕ) (bytes : List ℕ) → with_front [] (each_at read (count - 0) bytes) ≡ each_at read count bytes
with_none read count bytes =
    let all : count - 0 ≡ count = omega arith in
    rw all (nothing_before (each_at read count bytes))

regroup : {A B : Type 0} (make : List A → B) (front : List A) (first : A) (read : Result (List A × List ℕ) FileFault) → gathered make front (read >>= λ x. Ok (first ∷ x.0, x.1)) ≡ gathered make (front ++ first ∷ []) read
regroup {A} {B} make front first (Ok x) =
    ap (λ (xs : List A). Ok (make xs, x.1)) (sym (append_assoc front (first ∷ []) x.0))
regroup make front first (Err f) = refl

pub goes_on : {A B : Type 0} (make : List A → B) (read : List ℕ → Result (A × List ℕ) FileFault) (front : List A) (count i : ℕ) (bytes : List ℕ) (first : A) (after : List ℕ) (total : Result (B × List ℕ) FileFault) → i < count → read bytes ≡ Ok (first, after)
    → gathered make front (each_at read (count - i) bytes) ≡ total → gathered make (front ++ first ∷ []) (each_at read (count - (i + 1)) after) ≡ total
unfolding each_at
goes_on make read front count i bytes first after total lt h so_far =
    let k : count - i ≡ suc (count - (i + 1)) = omega arith in
    let one : gathered make front (each_at read (count - i) bytes) ≡ gathered make (front ++ first ∷ []) (each_at read (count - (i + 1)) after) = rw (k, h) (regroup make front first (each_at read (count - (i + 1)) after)) in
    sym one ∙ so_far

pub ends : {A B : Type 0} (make : List A → B) (read : List ℕ → Result (A × List ℕ) FileFault) (fault : FileFault) (front : List A) (count i : ℕ) (bytes : List ℕ) (total : Result (B × List ℕ) FileFault) → i < count → read bytes ≡ Err fault
    → gathered make front (each_at read (count - i) bytes) ≡ total → total ≡ Err fault
unfolding each_at
ends make read fault front count i bytes total lt h so_far =
    let k : count - i ≡ suc (count - (i + 1)) = omega arith in
    let one : gathered make front (each_at read (count - i) bytes) ≡ Err fault = rw (k, h) refl in
    sym so_far ∙ one

pub is_done : {A B : Type 0} (make : List A → B) (read : List ℕ → Result (A × List ℕ) FileFault) (front : List A) (count i : ℕ) (bytes : List ℕ) (total : Result (B × List ℕ) FileFault) → count ≤ i
    → gathered make front (each_at read (count - i) bytes) ≡ total → total ≡ Ok (make front, bytes)
unfolding each_at
is_done {A} make read front count i bytes total le so_far =
    let k : count - i ≡ 0 = omega arith in
    let one : gathered make front (each_at read (count - i) bytes) ≡ Ok (make front, bytes) = rw k (ap (λ (xs : List A). Ok (make xs, bytes)) (append-nil front)) in
    sym so_far ∙ one

-- ---- the names of fields, each after those before it

pub names_go_on : (short : FileFault) (others front : List (List ℕ)) (count i : ℕ) (bytes name after : List ℕ) (total : Result (List (List ℕ) × List ℕ) FileFault) → i < count → field_name_at short (others ++ front) bytes ≡ Ok (name, after)
    → with_front front (field_names_at short (count - i) (others ++ front) bytes) ≡ total → with_front (front ++ name ∷ []) (field_names_at short (count - (i + 1)) (others ++ (front ++ name ∷ [])) after) ≡ total
unfolding field_names_at
names_go_on short others front count i bytes name after total lt h so_far =
    let k : count - i ≡ suc (count - (i + 1)) = omega arith in
    let beyond : (others ++ front) ++ name ∷ [] ≡ others ++ (front ++ name ∷ []) = append_assoc others front (name ∷ []) in
    let one : with_front front (field_names_at short (count - i) (others ++ front) bytes) ≡ with_front (front ++ name ∷ []) (field_names_at short (count - (i + 1)) ((others ++ front) ++ name ∷ []) after) = rw (k, h) (regroup (λ (xs : List (List ℕ)). xs) front name (field_names_at short (count - (i + 1)) ((others ++ front) ++ name ∷ []) after)) in
    ap (λ (before : List (List ℕ)). with_front (front ++ name ∷ []) (field_names_at short (count - (i + 1)) before after)) (sym beyond) ∙ sym one ∙ so_far

pub names_end : (short fault : FileFault) (others front : List (List ℕ)) (count i : ℕ) (bytes : List ℕ) (total : Result (List (List ℕ) × List ℕ) FileFault) → i < count → field_name_at short (others ++ front) bytes ≡ Err fault
    → with_front front (field_names_at short (count - i) (others ++ front) bytes) ≡ total → total ≡ Err fault
unfolding field_names_at
names_end short fault others front count i bytes total lt h so_far =
    let k : count - i ≡ suc (count - (i + 1)) = omega arith in
    let one : with_front front (field_names_at short (count - i) (others ++ front) bytes) ≡ Err fault = rw (k, h) refl in
    sym so_far ∙ one

pub names_done : (short : FileFault) (others front : List (List ℕ)) (count i : ℕ) (bytes : List ℕ) (total : Result (List (List ℕ) × List ℕ) FileFault) → count ≤ i
    → with_front front (field_names_at short (count - i) (others ++ front) bytes) ≡ total → total ≡ Ok (front, bytes)
unfolding field_names_at
names_done short others front count i bytes total le so_far =
    let k : count - i ≡ 0 = omega arith in
    let one : with_front front (field_names_at short (count - i) (others ++ front) bytes) ≡ Ok (front, bytes) = rw k (ap (λ (xs : List (List ℕ)). Ok (xs, bytes)) (append-nil front)) in
    sym so_far ∙ one

-- ---- the texts of a dictionary, each above the one before it

pub texts_go_on : (short : FileFault) (last : Option (List ℕ)) (front : List (List ℕ)) (count i : ℕ) (bytes text after : List ℕ) (total : Result (List (List ℕ) × List ℕ) FileFault) → i < count → value_text_at short last bytes ≡ Ok (text, after)
    → with_front front (value_texts_at short (count - i) last bytes) ≡ total → with_front (front ++ text ∷ []) (value_texts_at short (count - (i + 1)) (Some text) after) ≡ total
unfolding value_texts_at
texts_go_on short last front count i bytes text after total lt h so_far =
    let k : count - i ≡ suc (count - (i + 1)) = omega arith in
    let one : with_front front (value_texts_at short (count - i) last bytes) ≡ with_front (front ++ text ∷ []) (value_texts_at short (count - (i + 1)) (Some text) after) = rw (k, h) (regroup (λ (xs : List (List ℕ)). xs) front text (value_texts_at short (count - (i + 1)) (Some text) after)) in
    sym one ∙ so_far

pub texts_end : (short fault : FileFault) (last : Option (List ℕ)) (front : List (List ℕ)) (count i : ℕ) (bytes : List ℕ) (total : Result (List (List ℕ) × List ℕ) FileFault) → i < count → value_text_at short last bytes ≡ Err fault
    → with_front front (value_texts_at short (count - i) last bytes) ≡ total → total ≡ Err fault
unfolding value_texts_at
texts_end short fault last front count i bytes total lt h so_far =
    let k : count - i ≡ suc (count - (i + 1)) = omega arith in
    let one : with_front front (value_texts_at short (count - i) last bytes) ≡ Err fault = rw (k, h) refl in
    sym so_far ∙ one

pub texts_done : (short : FileFault) (last : Option (List ℕ)) (front : List (List ℕ)) (count i : ℕ) (bytes : List ℕ) (total : Result (List (List ℕ) × List ℕ) FileFault) → count ≤ i
    → with_front front (value_texts_at short (count - i) last bytes) ≡ total → total ≡ Ok (front, bytes)
unfolding value_texts_at
texts_done short last front count i bytes total le so_far =
    let k : count - i ≡ 0 = omega arith in
    let one : with_front front (value_texts_at short (count - i) last bytes) ≡ Ok (front, bytes) = rw k (ap (λ (xs : List (List ℕ)). Ok (xs, bytes)) (append-nil front)) in
    sym so_far ∙ one

pub no_texts : (short : FileFault) (count : ℕ) (bytes : List ℕ) → with_front [] (value_texts_at short (count - 0) None bytes) ≡ value_texts_at short count None bytes
no_texts short count bytes =
    let all : count - 0 ≡ count = omega arith in
    rw all (nothing_before (value_texts_at short count None bytes))

-- what is made of something that is read in whole is no fault
pub is_read : {A B : Type 0} (read : Result A FileFault) (make : A → B) (fault : FileFault) → IsOk read → (read >>= λ x. Ok (make x)) ≡ Err fault → ⊥
is_read (Ok x) make fault ok e = absurd cc
is_read (Err of) make fault ok e = absurd cc

pub not_read : {A : Type 0} (read : Result A FileFault) (fault : FileFault) → IsOk read → read ≡ Err fault → ⊥
not_read (Ok x) fault ok e = absurd cc
not_read (Err of) fault ok e = absurd cc

-- what was read in whole, is read part by part
ok_or_fault : {A B : Type 0} (read : Result A FileFault) (total : Result B FileFault) → IsOk total → ((fault : FileFault) → read ≡ Err fault → total ≡ Err fault) → IsOk read
ok_or_fault (Ok x) total ok fails = refl
ok_or_fault (Err fault) total ok fails = absurd (not_read total fault ok (fails fault refl))

pub reads_next : {A B : Type 0} (make : List A → B) (read : List ℕ → Result (A × List ℕ) FileFault) (front : List A) (count i : ℕ) (bytes : List ℕ) (total : Result (B × List ℕ) FileFault) → i < count → IsOk total
    → gathered make front (each_at read (count - i) bytes) ≡ total → IsOk (read bytes)
reads_next make read front count i bytes total lt ok so_far =
    ok_or_fault (read bytes) total ok (λ fault e. ends make read fault front count i bytes total lt e so_far)
