-- What is known of files, kept in a map.
use Rattle.std.proofs.Common.{◌≡◌, ℕ, zero, suc, ◌+◌, ◌-◌, ◌^◌, ◌<◌, ◌≤◌, min, ◌⊎◌, inl, inr, ◌||◌, List, [], ◌∷◌, length, map, get_or, true, false, cond, Option, Some, None, IsSome, is_some, refl, sym, ap, subst, ◌∙◌, string_bytes, arith}
use Rattle.std.specs.BTreeMap as tree
use Rattle.std.specs.BTreeMap.{BTreeMap, is_at}
use Rattle.std.specs.Cmp.Lexicographic.{slice_cmp}
use Rattle.std.specs.List.{list_any, sum_by}
use Rattle.std.specs.List.Sorted.{IsNonDecreasingBy, IsPartitionPoint, IsSortedBy}
use Rattle.std.specs.Map.{lookup}
use Rattle.std.specs.Ordering.{nat_cmp, is_eq, is_lt, ordering_index, ordering_reverse}
use Rattle.std.specs.Str.{bytes_eq}
use Rattle.std.specs.String.{string_cmp}
use Rattle.std.specs.declared.cmp.Ordering.TheVariants.{Less, Equal, Greater}
use Rattle.std.specs.declared.alloc.Global.{Global}
use Rattle.std.specs.declared.string.String.{String}
use Rattle.std.proofs.lemmas.Map.Text.{is_eq-slice_cmp, btree_map_updates_text}
use Rattle.std.specs.Cmp.Lexicographic.{nat_list_eq_equiv}
use Rattle.std.proofs.lemmas.Bool.{false≢true}
use Rattle.std.proofs.lemmas.Cmp.{nat_list_cmp_total, ranked, by_ranked}
use Rattle.std.proofs.lemmas.List.Recursion.{or_from_places}
use Rattle.std.proofs.lemmas.List.Sums.{sum_by-cons}
use Rattle.std.proofs.lemmas.List.{get_or-map, length-map}
use Rattle.std.proofs.lemmas.List.Sorted.{searchable_from_sorted}
use Rattle.std.proofs.lemmas.Map.Keys.{Less-from_sorted}
use Rattle.druid_folder.specs.Folder.{AreInOrder, names_of}
use Rattle.druid_serve_node.specs.Looks.{File, Notes, state_of, known_names}
use Rattle.druid_serve_node.specs.Layout.{file_of, files_of}
use Rattle.druid_serve_node.specs.Totals.{total}
use Rattle.druid_serve_node.specs.declared.known_files.FileState.{FileState}

-- what the map has at a name is what is known of that file
pub state_found : (entries : List (String Global × FileState)) (name : List ℕ) → lookup (is_at (λ k. slice_cmp nat_cmp name (string_bytes k))) entries ≡ state_of (files_of entries) name
state_found [] name = refl
state_found (e ∷ entries) name = λ i. cond (is_eq-slice_cmp name (string_bytes e.0) i) (Some e.1) (state_found entries name i)

-- a change of the map at a name
pub noted : (name : List ℕ) (old new : BTreeMap (String Global) FileState) (state : Option FileState) → tree.UpdatesBy string_cmp (λ k. slice_cmp nat_cmp name (string_bytes k)) old new state
    → Notes name state (files_of old.entries) (files_of new.entries)
noted name old new state h other =
    sym (state_found new.entries other) ∙ btree_map_updates_text name old new state h other ∙ ap (cond (bytes_eq name other) state) (state_found old.entries other)

-- the same of a name that is spelled so, where that is what was known
pub noted_as : (name bytes : List ℕ) (files : List File) (old new : BTreeMap (String Global) FileState) (state : Option FileState) → bytes ≡ name → files_of old.entries ≡ files
    → tree.UpdatesBy string_cmp (λ k. slice_cmp nat_cmp bytes (string_bytes k)) old new state → Notes name state files (files_of new.entries)
noted_as name bytes files old new state same is h =
    subst (λ n. Notes n state files (files_of new.entries)) same
    (subst (λ (fs : List File). Notes bytes state fs (files_of new.entries)) is (noted bytes old new state h))

-- a file that is known is in the map
pub is_kept : (entries : List (String Global × FileState)) (files : List File) (name : List ℕ) → files_of entries ≡ files → IsSome (state_of files name)
    → None ≡ lookup (is_at (λ k. slice_cmp nat_cmp name (string_bytes k))) entries → ⊥
is_kept entries files name is some none =
    false≢true (ap is_some (none ∙ state_found entries name ∙ ap (λ fs. state_of fs name) is) ∙ some)

-- the names of the files that are known, in the map's order
pub keys_named : (entries : List (String Global × FileState)) → names_of (map (λ e. e.0) entries) ≡ known_names (files_of entries)
keys_named [] = refl
keys_named (e ∷ entries) = ap (λ ns. string_bytes e.0 ∷ ns) (keys_named entries)

-- ---- sums over what is known

-- over the states of the map
pub sums_of : (f : FileState → ℕ) (entries : List (String Global × FileState)) → sum_by f (map (λ e. e.1) entries) ≡ sum_by (λ file. f file.state) (files_of entries)
sums_of f [] = refl
sums_of f (e ∷ entries) =
    sum_by-cons f e.1 (map (λ x. x.1) entries) ∙ ap (λ n. f e.1 + n) (sums_of f entries)
    ∙ sym (sum_by-cons (λ (file : File). f file.state) (file_of e) (files_of entries))

-- the values that are summed first
pub sum_begun : (f : FileState → ℕ) (values : List FileState) (entries : List (String Global × FileState)) (files : List File)
    → values ≡ map (λ e. e.1) entries → files_of entries ≡ files → min (0 + sum_by f values) (2 ^ 64 - 1) ≡ total f files
sum_begun f values entries files given is =
    let same : sum_by f values ≡ sum_by (λ (file : File). f file.state) files =
    ap (sum_by f) given ∙ sums_of f entries ∙ ap (sum_by (λ (file : File). f file.state)) is in
    omega (arith, same)

-- where nothing is left to sum
pub sum_ended : (f : FileState → ℕ) (left : List FileState) (n t : ℕ) → left ≡ [] → n ≤ 2 ^ 64 - 1 → min (n + sum_by f left) (2 ^ 64 - 1) ≡ t → n ≡ t
sum_ended f left n t none fits is = omega (arith, fits, subst (λ vs. min (n + sum_by f vs) (2 ^ 64 - 1) ≡ t) none is)

-- ---- names that a folder lists

-- names in their order can be searched by halving
pub searchable : (names : List (String Global)) (x : String Global) → AreInOrder (names_of names) → IsNonDecreasingBy (λ y. ordering_index (slice_cmp nat_cmp (string_bytes y) (string_bytes x))) names
searchable names x s = searchable_from_sorted nat_list_cmp_total string_bytes names (string_bytes x) rising
  where
    at : (k : ℕ) (d : String Global) → k < length names → string_bytes (get_or names k d) ≡ get_or (names_of names) k (string_bytes d)
    at k d h = sym (get_or-map string_bytes names k d (string_bytes d) h)

    rising : IsSortedBy (λ a b. is_lt (slice_cmp nat_cmp (string_bytes a) (string_bytes b))) names
    rising k d low lt =
        let less = Less-from_sorted (slice_cmp nat_cmp) (names_of names) k (k + 1) (string_bytes d) s (omega arith) (omega (arith, lt, length-map names string_bytes)) in
        ap is_lt
        (nat_list_cmp_total.antisymm (string_bytes (get_or names (k + 1) d)) (string_bytes (get_or names k d))
        ∙ ap ordering_reverse (ap (λ t. slice_cmp nat_cmp t (string_bytes (get_or names (k + 1) d))) (at k d (omega (arith, lt))) ∙ ap (slice_cmp nat_cmp (get_or (names_of names) k (string_bytes d))) (at (k + 1) d (omega (arith, lt))) ∙ less))

apart : (y x : List ℕ) → is_eq (slice_cmp nat_cmp y x) ≡ false → bytes_eq x y ≡ false
apart y x differ = nat_list_eq_equiv.symm x y ∙ sym (is_eq-slice_cmp y x) ∙ differ

alike : (y x : List ℕ) → is_eq (slice_cmp nat_cmp y x) ≡ true → bytes_eq x y ≡ true
alike y x same = nat_list_eq_equiv.symm x y ∙ sym (is_eq-slice_cmp y x) ∙ same

-- a name that a search found is there
pub is_found : (names : List (String Global)) (x : String Global) (k : ℕ) → k < length names → slice_cmp nat_cmp (string_bytes (get_or names k x)) (string_bytes x) ≡ Equal
    → list_any (bytes_eq (string_bytes x)) (names_of names) ≡ true
is_found [] x k below equal = absurd (omega (arith, below))
is_found (n ∷ names) x zero below equal =
    ap (λ b. b || list_any (bytes_eq (string_bytes x)) (names_of names)) (alike (string_bytes n) (string_bytes x) (ap is_eq equal))
is_found (n ∷ names) x (suc k) below equal =
    ap (λ b. bytes_eq (string_bytes x) (string_bytes n) || b) (is_found names x k (omega (arith, below)) equal) ∙ any_true (bytes_eq (string_bytes x) (string_bytes n))
  where
    any_true : (b : _) → (b || true) ≡ true
    any_true true = refl
    any_true false = refl

-- one that lies between those below and those above is not
pub is_absent : (names : List (String Global)) (x : String Global) (i : ℕ) → IsPartitionPoint (λ y. slice_cmp nat_cmp (string_bytes y) (string_bytes x) ≡ Less) (λ y. slice_cmp nat_cmp (string_bytes y) (string_bytes x) ≡ Greater) names i
    → list_any (bytes_eq (string_bytes x)) (names_of names) ≡ false
is_absent names x i part = or_from_places (list_any (bytes_eq (string_bytes x))) (bytes_eq (string_bytes x)) refl (λ n ns. refl) (names_of names) (string_bytes x) each
  where
    k_or : (k : ℕ) → (k < i) ⊎ (i ≤ k)
    k_or k = by_ranked (k < i) (k ≡ i) (i < k) (nat_cmp k i) (ranked k i (nat_cmp k i) refl) (λ o l. inl l) (λ o e. inr (omega (arith, e))) (λ o g. inr (omega (arith, g)))

    by_side : (k : ℕ) → k < length names → (k < i) ⊎ (i ≤ k) → is_eq (slice_cmp nat_cmp (string_bytes (get_or names k x)) (string_bytes x)) ≡ false
    by_side k h (inl l) = ap is_eq (part.0 k x (omega arith) l)
    by_side k h (inr g) = ap is_eq (part.1 k x g h)

    each : (k : ℕ) → k < length (names_of names) → bytes_eq (string_bytes x) (get_or (names_of names) k (string_bytes x)) ≡ false
    each k below =
        let inside : k < length names = omega (arith, below, length-map names string_bytes) in
        ap (bytes_eq (string_bytes x)) (get_or-map string_bytes names k x (string_bytes x) inside)
        ∙ apart (string_bytes (get_or names k x)) (string_bytes x) (by_side k inside (k_or k))
