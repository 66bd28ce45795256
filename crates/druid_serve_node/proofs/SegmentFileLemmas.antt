-- Segment files that are read, decoded and loaded, as many at a time as there are threads.
use Rattle.std.proofs.Common.{zero, suc, ◌≡◌, ◌++◌, ◌+◌, ◌<◌, ℕ, Bool, true, false, cond, List, [], ◌∷◌, All, map, take, drop, length, Option, Some, None, IfSome, slice_index_or, Result, Ok, Err, IsOk, IfOk, Vec, Global, string_bytes, refl, sym, ap, subst, ◌∙◌, arith}
use Rattle.std.specs.List.{AllZip, filter}
use Rattle.std.specs.declared.alloc.AllocError.{AllocError}
use Rattle.std.specs.declared.string.String.{String}
use Rattle.std.proofs.lemmas.List.Elements.{All-cons, All-tail, All-take, All-drop, All-append, filter_passes}
use Rattle.std.proofs.lemmas.List.{take-append-drop}
use Rattle.std.proofs.lemmas.Bool.{false≢true}
use Rattle.std.proofs.lemmas.Result.{IfOk-weaker}
use Rattle.druid_segment_rows.specs.Segment.{Segment}
use Rattle.druid_folder.specs.Folder.{Content, names_of, read_part, bytes_read}
use Rattle.druid_node.specs.declared.fault.NodeFault.{NodeFault}
use Rattle.druid_node.specs.Files.{file_at}
use Rattle.druid_node.proofs.FileLemmas.{decoded_at}
use Rattle.druid_serve_base.specs.declared.fault.ClusterFault.{ClusterFault}
use Rattle.druid_serve_base.specs.declared.fault.Cause.{Cause}
use Rattle.druid_serve_base.specs.declared.fault.Cause.TheVariants as cause
use Rattle.druid_serve_base.specs.Faults.{of_node, NamesFile}
use Rattle.druid_serve_node.specs.Faults.{IsOfLoad}
use Rattle.druid_serve_node.specs.Files.{is_segment_file, IsTaken}
use Rattle.druid_serve_node.specs.SegmentFiles.{IsRead, IsDecodedOf, IsFound}
use Rattle.druid_serve_node.specs.declared.segment_files.ReadFile.{ReadFile}
use Rattle.druid_serve_node.specs.declared.segment_files.DecodedFile.{DecodedFile}

-- ---- lists, place by place

-- one more in each
pub zip_push : {A B : Type 0} (R : A → B → Type 0) (xs : List A) (ys : List B) (x : A) (y : B) → AllZip R xs ys → R x y → AllZip R (xs ++ x ∷ []) (ys ++ y ∷ [])
zip_push R [] [] x y h r = (r, tt)
zip_push R [] (b ∷ ys) x y h r = absurd h
zip_push R (a ∷ xs) [] x y h r = absurd h
zip_push R (a ∷ xs) (b ∷ ys) x y h r = (h.0, zip_push R xs ys x y h.1 r)

-- what holds at each place
pub zip_from : {A B : Type 0} (R : A → B → Type 0) (xs : List A) (ys : List B) → length ys ≡ length xs → ((i : ℕ) (a : A) (b : B) → i < length xs → R (slice_index_or xs i a) (slice_index_or ys i b)) → AllZip R xs ys
zip_from R [] [] same at = tt
zip_from R [] (b ∷ ys) same at = absurd (omega (arith, same))
zip_from R (a ∷ xs) [] same at = absurd (omega (arith, same))
zip_from R (a ∷ xs) (b ∷ ys) same at = (at zero a b (omega arith), zip_from R xs ys (omega (arith, same)) (λ i x y below. at (suc i) x y (omega (arith, below))))

-- ---- what was decoded of what was read

pub same_names : (files : List ReadFile) (decoded : List DecodedFile) → AllZip IsDecodedOf files decoded → map (λ (d : DecodedFile). d.name.now) decoded ≡ map (λ (f : ReadFile). f.name.now) files
same_names [] [] h = refl
same_names [] (d ∷ ds) h = absurd h
same_names (f ∷ fs) [] h = absurd h
same_names (f ∷ fs) (d ∷ ds) h = λ i. h.0.0 i ∷ same_names fs ds h.1 i

found_of : (files : Content) (f : ReadFile) (d : DecodedFile) → IsDecodedOf f d → IsRead files f → IsFound files d
found_of files f d h is =
    subst (λ (n : List ℕ). IfOk d.segment (λ s. file_at n (read_part (files n)) ≡ Ok s.0)) (sym h.0)
    (IfOk-weaker d.segment _ _ (λ s at. (decoded_at f.name.now (read_part (files f.name.now)) f.read s at is).0) h.1)

pub all_found : (files : Content) (fs : List ReadFile) (ds : List DecodedFile) → AllZip IsDecodedOf fs ds → All (IsRead files) fs → All (IsFound files) ds
all_found files [] [] h read = λ i d below. absurd (omega (arith, below))
all_found files [] (d ∷ ds) h read = absurd h
all_found files (f ∷ fs) [] h read = absurd h
all_found files (f ∷ fs) (d ∷ ds) h read =
    All-cons (IsFound files) d ds (found_of files f d h.0 (read zero f (omega arith))) (all_found files fs ds h.1 (All-tail (IsRead files) f fs read))

-- ---- names

-- what holds of each name holds of each that is called so
pub of_names : {A : Type 0} (name : A → List ℕ) (P : List ℕ → Type 0) (xs : List A) (names : List (List ℕ)) → map name xs ≡ names → All P names → All (λ x. P (name x)) xs
of_names {A = A} name P xs names same all = from xs (subst (All P) (sym same) all)
  where
    from : (ys : List A) → All P (map name ys) → All (λ x. P (name x)) ys
    from [] h = λ i d below. absurd (omega (arith, below))
    from (y ∷ ys) h = All-cons (λ x. P (name x)) y ys (h zero (name y) (omega arith)) (from ys (All-tail P (name y) (map name ys) h))

pub to_names : {A : Type 0} (name : A → List ℕ) (P : List ℕ → Type 0) (xs : List A) (names : List (List ℕ)) → map name xs ≡ names → All (λ x. P (name x)) xs → All P names
to_names {A = A} name P xs names same all = subst (All P) same (from xs all)
  where
    from : (ys : List A) → All (λ x. P (name x)) ys → All P (map name ys)
    from [] h = λ i d below. absurd (omega (arith, below))
    from (y ∷ ys) h = All-cons P (name y) (map name ys) (h zero y (omega arith)) (from ys (All-tail (λ x. P (name x)) y ys h))

segment_in : (name : List ℕ) (given : Result Segment NodeFault) (r : Result (Segment × ℕ) NodeFault) → IfOk r (λ s. given ≡ Ok s.0) → IsOk r → (s : Segment) × (given ≡ Ok s)
segment_in name given (Ok s) h ok = (s.0, h)
segment_in name given (Err fault) h ok = absurd (false≢true ok)

-- files that were found and loaded are taken
pub all_taken : (files : Content) (ds : List DecodedFile) → All (IsFound files) ds → All (λ (d : DecodedFile). IsOk d.segment) ds → All (λ (d : DecodedFile). IsTaken files d.name.now) ds
all_taken files [] found ok = λ i d below. absurd (omega (arith, below))
all_taken files (d ∷ ds) found ok =
    All-cons (λ (x : DecodedFile). IsTaken files x.name.now) d ds (λ some. segment_in d.name.now (file_at d.name.now (read_part (files d.name.now))) d.segment (found zero d (omega arith)) (ok zero d (omega arith)))
    (all_taken files ds (All-tail (IsFound files) d ds found) (All-tail (λ (x : DecodedFile). IsOk x.segment) d ds ok))

-- what calls at the same time gave, each of one file
pub decoded_at_once : (r : Result (Vec DecodedFile Global) AllocError) (files : List ReadFile) → IfOk r (λ v. length v.items ≡ length files)
    → IfOk r (λ v. (i : ℕ) (a : ReadFile) (b : DecodedFile) → i < length files → IsDecodedOf (slice_index_or files i a) (slice_index_or v.items i b)) → IfOk r (λ v. AllZip IsDecodedOf files v.items)
decoded_at_once (Err fault) files same each = tt
decoded_at_once (Ok v) files same each = zip_from IsDecodedOf files v.items same each

-- ---- the names of a folder

-- names that are left are those of segment files
pub left_named : (names : List (String Global)) → All (λ name. is_segment_file name ≡ true) (names_of (filter (λ (name : String Global). is_segment_file (string_bytes name)) names))
left_named names =
    let seg = λ (name : String Global). is_segment_file (string_bytes name) in
    to_names string_bytes (λ name. is_segment_file name ≡ true) (filter seg names) (names_of (filter seg names)) refl (filter_passes seg names)

-- where those that are left are taken, so are all
pub left_taken : (files : Content) (names : List (String Global)) → All (IsTaken files) (names_of (filter (λ (n : String Global). is_segment_file (string_bytes n)) names)) → All (IsTaken files) (names_of names)
left_taken files [] all = λ i d below. absurd (omega (arith, below))
left_taken files (x ∷ xs) all = by (is_segment_file (string_bytes x)) refl all (left_taken files xs)
  where
    by : (b : Bool) → is_segment_file (string_bytes x) ≡ b → All (IsTaken files) (names_of (cond b (x ∷ filter (λ (n : String Global). is_segment_file (string_bytes n)) xs) (filter (λ (n : String Global). is_segment_file (string_bytes n)) xs)))
        → (All (IsTaken files) (names_of (filter (λ (n : String Global). is_segment_file (string_bytes n)) xs)) → All (IsTaken files) (names_of xs)) → All (IsTaken files) (names_of (x ∷ xs))
    by true is h rest = All-cons (IsTaken files) (string_bytes x) (names_of xs) (h zero (string_bytes x) (omega arith)) (rest (All-tail (IsTaken files) (string_bytes x) (names_of (filter (λ (n : String Global). is_segment_file (string_bytes n)) xs)) h))
    by false is h rest = All-cons (IsTaken files) (string_bytes x) (names_of xs) (λ some. absurd (false≢true (sym is ∙ some))) (rest h)

-- what holds of all names holds of a front and of the rest, and the other way round
pub front_and_rest : (P : List ℕ → Type 0) (n : ℕ) (names front rest : List (String Global)) → front ≡ take n names → rest ≡ drop n names → All P (names_of names) → All P (names_of front) × All P (names_of rest)
front_and_rest P n names front rest f r all =
    let each = of_names string_bytes P names (names_of names) refl all in (
      subst (λ (xs : List (String Global)). All P (names_of xs)) (sym f) (to_names string_bytes P (take n names) (names_of (take n names)) refl (All-take (λ (x : String Global). P (string_bytes x)) n names each)),
      subst (λ (xs : List (String Global)). All P (names_of xs)) (sym r) (to_names string_bytes P (drop n names) (names_of (drop n names)) refl (All-drop (λ (x : String Global). P (string_bytes x)) n names each)),
    )

pub front_with_rest : (P : List ℕ → Type 0) (n : ℕ) (names front rest : List (String Global)) → front ≡ take n names → rest ≡ drop n names → All P (names_of front) → All P (names_of rest) → All P (names_of names)
front_with_rest P n names front rest f r in_front in_rest =
    let Q = λ (x : String Global). P (string_bytes x) in
    let both = All-append Q front rest (of_names string_bytes P front (names_of front) refl in_front) (of_names string_bytes P rest (names_of rest) refl in_rest) in
    let whole : front ++ rest ≡ names = (λ i. f i ++ r i) ∙ take-append-drop n names in
    to_names string_bytes P names (names_of names) refl (subst (All Q) whole both)

-- ---- the fault of a file

-- one that names a segment file is one of a load
pub cause_of_load : (names : List (String Global)) (i : ℕ) (name : String Global) (found : ClusterFault) (cause : Option Cause) (why : NodeFault) → i < length names → name ≡ slice_index_or names i name
    → All (λ n. is_segment_file n ≡ true) (names_of names) → found ≡ of_node why → IfSome cause (NamesFile (string_bytes name) why) → IfSome cause (IsOfLoad found)
cause_of_load names i name found None why below is named fault h = tt
cause_of_load names i name found (Some (cause.File file f)) why below is named fault h =
    let at = of_names string_bytes (λ n. is_segment_file n ≡ true) names (names_of names) refl named i name below in
    (ap is_segment_file (h.0 ∙ ap string_bytes is) ∙ at, fault ∙ ap of_node (sym h.1))
cause_of_load names i name found (Some (cause.Incarnation f)) why below is named fault h = absurd h
cause_of_load names i name found (Some (cause.Names f)) why below is named fault h = absurd h
cause_of_load names i name found (Some (cause.Tombstone place f)) why below is named fault h = absurd h
cause_of_load names i name found (Some cause.Owner) why below is named fault h = absurd h
cause_of_load names i name found (Some cause.Listener) why below is named fault h = absurd h
cause_of_load names i name found (Some cause.Status) why below is named fault h = absurd h
cause_of_load names i name found (Some cause.Memory) why below is named fault h = absurd h
