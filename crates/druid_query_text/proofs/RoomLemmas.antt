-- Room for filters.
use Rattle.std.proofs.Common.{◌≡◌, ◌==◌, ℕ, ◌+◌, ◌-◌, ◌<◌, ◌≤◌, max, nat_le, suc, List, [], ◌∷◌, get_or, drop, length, drop_of_length-le, Option, Some, None, Result, Ok, Err, IfOk, option_map, option_and_then, is_some, if◌then◌else◌, true, false, Bool, ◌&&◌, ◌||◌, refl, sym, ap, ◌∙◌, arith, rules, Vec, Global}
use Rattle.std.specs.List.{list_all}
use Rattle.std.specs.declared.alloc.AllocError.{AllocError}
use Rattle.std.proofs.lemmas.Bool.{leb-true, le-leb, and_parts, or_right}
use Rattle.std.proofs.lemmas.List.{drop_more}
use Rattle.std.proofs.lemmas.Option.{same_Some}
use Rattle.std.proofs.lemmas.Bool.Decides.{nat_tests}
use Rattle.serde_json.specs.Data.{Data, Items}
use Rattle.serde_json.specs.View.{view, items_view}
use Rattle.serde_json.specs.declared.value.Value.{Value}
use Rattle.druid_base.specs.Options.{◌>>=◌}
use Rattle.druid_filter.specs.Filters.{Condition, has, has_among, all_of, any_of, is_not, Conditions, no_conditions, condition}
use Rattle.druid_query.specs.Query.{is_label, is_short, levels, most_levels, members, all_members, fits_texts, fit_texts, fits_filter}
use Rattle.druid_base.specs.Each.{each_of}
use Rattle.druid_base.specs.Fields.{text_or_null}
use Rattle.druid_query.specs.Filters.{filter_at, each_filter}
use Rattle.druid_filter.specs.Filters.{says, each_says}
use Rattle.druid_filter.specs.declared.filter.Filter.{Filter, All, Any, Not, the_lemmas}
use Rattle.std.specs.Box.{box_value}
use Rattle.std.specs.Global.{Box}
use Rattle.druid_query_text.specs.Levels.{Layer, selector, among, layer_at, layer_says, is_full, leaf, left_after, all_left, fits_among}
use Rattle.druid_query_text.specs.Found.{holds_in}
use Rattle.druid_query.specs.Limits.{max_members, max_levels, max_values}
use Rattle.druid_base.proofs.EachLemmas.{each_of_length}
use Rattle.druid_query_text.proofs.FilterLemmas.{of_layer}

-- ---- a list of values

all_short : (first : Option (Option (List ℕ))) (rest : Option (List (Option (List ℕ)))) (b : Bool) → holds_in (list_all is_short) rest ≡ b
    → (holds_in is_short first && b) ≡ holds_in (list_all is_short) (first >>= λ x. rest >>= λ xs. Some (x ∷ xs))
all_short None rest b h = refl
all_short (Some x) None b h = grind_false (is_short x) b h
  where
    grind_false : (a b : Bool) → false ≡ b → (a && b) ≡ false
    grind_false true b h = sym h
    grind_false false b h = refl
all_short (Some x) (Some xs) b h = ap (λ c. is_short x && c) (sym h)

each_short : (vs : List Value) → list_all (λ v. holds_in is_short (text_or_null (view v))) vs ≡ holds_in (list_all is_short) (each_of text_or_null (items_view vs))
each_short [] = refl
each_short (v ∷ vs) = all_short (text_or_null (view v)) (each_of text_or_null (items_view vs)) (list_all (λ w. holds_in is_short (text_or_null (view w))) vs) (sym (each_short vs))

pub among_fits : (d : List ℕ) (vs : List Value) → is_label d ≡ true → nat_le (length vs) max_values ≡ true → list_all (λ v. holds_in is_short (text_or_null (view v))) vs ≡ fits_among d (items_view vs)
among_fits d vs label few = each_short vs ∙ through (each_of text_or_null (items_view vs)) (λ xs e. sym (ap (λ n. nat_le n max_values) (each_of_length text_or_null vs xs e)))
  where
    through : (o : Option (List (Option (List ℕ)))) → ((xs : List (Option (List ℕ))) → o ≡ Some xs → nat_le (length vs) max_values ≡ nat_le (length xs) max_values)
        → holds_in (list_all is_short) o ≡ holds_in (λ wanted. is_label d && nat_le (length wanted) max_values && list_all is_short wanted) o
    through None same = refl
    through (Some xs) same = ap (λ (b : Bool). b && list_all is_short xs) (sym (ap (λ (b : Bool). b && nat_le (length xs) max_values) label ∙ sym (same xs refl) ∙ few))

pub among_label : (d : List ℕ) (ds : Items) → is_label d ≡ false → false ≡ fits_among d ds
among_label d ds label = through (each_of text_or_null ds)
  where
    through : (o : Option (List (Option (List ℕ)))) → false ≡ holds_in (λ wanted. is_label d && nat_le (length wanted) max_values && list_all is_short wanted) o
    through None = refl
    through (Some xs) = sym (ap (λ (b : Bool). b && nat_le (length xs) max_values && list_all is_short xs) label)

and_false : (a : Bool) → false ≡ (a && false)
and_false true = refl
and_false false = refl

pub among_long : (d : List ℕ) (vs : List Value) → nat_le (length vs) max_values ≡ false → false ≡ fits_among d (items_view vs)
among_long d vs long = through (each_of text_or_null (items_view vs)) (λ xs e. ap (λ n. nat_le n max_values) (each_of_length text_or_null vs xs e) ∙ long)
  where
    through : (o : Option (List (Option (List ℕ)))) → ((xs : List (Option (List ℕ))) → o ≡ Some xs → nat_le (length xs) max_values ≡ false)
        → false ≡ holds_in (λ wanted. is_label d && nat_le (length wanted) max_values && list_all is_short wanted) o
    through None same = refl
    through (Some xs) same = sym (ap (λ (b : Bool). b && list_all is_short xs) (ap (λ (b : Bool). is_label d && b) (same xs refl) ∙ sym (and_false (is_label d))))

-- ---- one filter

pub spoken : (d : Data) (l : Layer) → Some l ≡ layer_at d → layer_says l ≡ filter_at d
spoken d l h = ap (λ o. o >>= layer_says) h ∙ sym (of_layer d)

pub unspoken : (d : Data) → None ≡ layer_at d → None ≡ filter_at d
unspoken d h = ap (λ o. o >>= layer_says) h ∙ sym (of_layer d)

-- what a filter leaves, where it is one
abbrev pub left_by : Option Condition → ℕ → ℕ → Option ℕ
left_by o deep room = option_and_then (λ c. left_after c deep room) o

full_leaves : (c : Condition) (deep room : ℕ) → is_full deep room ≡ true → None ≡ left_after c deep room
full_leaves (has d v) deep room h = rw h refl
full_leaves (has_among d v) deep room h = rw h refl
full_leaves (all_of cs) deep room h = rw h refl
full_leaves (any_of cs) deep room h = rw h refl
full_leaves (is_not c) deep room h = rw h refl

full : (o : Option Condition) (deep room : ℕ) → is_full deep room ≡ true → None ≡ left_by o deep room
full None deep room h = refl
full (Some c) deep room h = full_leaves c deep room h

pub no_level_left : (o : Option Condition) (deep room : ℕ) → (deep == 0) ≡ true → None ≡ left_by o deep room
no_level_left o deep room h = full o deep room (ap (λ (b : Bool). b || room == 0) h)

pub no_room_left : (o : Option Condition) (deep room : ℕ) → (room == 0) ≡ true → None ≡ left_by o deep room
no_room_left o deep room h = full o deep room (ap (λ (b : Bool). deep == 0 || b) h ∙ or_right (deep == 0) true refl)

not_full : (deep room : ℕ) → (deep == 0) ≡ false → (room == 0) ≡ false → is_full deep room ≡ false
not_full deep room a b = ap (λ (x : Bool). x || room == 0) a ∙ b

pub left_selector : (d : List ℕ) (v : Option (List ℕ)) (deep room : ℕ) → (deep == 0) ≡ false → (room == 0) ≡ false
    → leaf (is_label d && is_short v) room ≡ left_by (Some (has d v)) deep room
left_selector d v deep room a b = let free = not_full deep room a b in rw free refl

pub left_among : (d : List ℕ) (ds : Items) (deep room : ℕ) → (deep == 0) ≡ false → (room == 0) ≡ false
    → leaf (fits_among d ds) room ≡ left_by (option_map (has_among d) (each_of text_or_null ds)) deep room
left_among d ds deep room a b = through (each_of text_or_null ds)
  where
    through : (o : Option (List (Option (List ℕ)))) → leaf (holds_in (λ wanted. is_label d && nat_le (length wanted) max_values && list_all is_short wanted) o) room ≡ left_by (option_map (has_among d) o) deep room
    through None = refl
    through (Some xs) = let free = not_full deep room a b in rw free refl

pub left_all : (o : Option Conditions) (deep room : ℕ) → (deep == 0) ≡ false → (room == 0) ≡ false
    → option_and_then (λ cs. all_left cs (deep - 1) (room - 1)) o ≡ left_by (option_map all_of o) deep room
left_all None deep room a b = refl
left_all (Some cs) deep room a b = let free = not_full deep room a b in rw free refl

pub left_any : (o : Option Conditions) (deep room : ℕ) → (deep == 0) ≡ false → (room == 0) ≡ false
    → option_and_then (λ cs. all_left cs (deep - 1) (room - 1)) o ≡ left_by (option_map any_of o) deep room
left_any None deep room a b = refl
left_any (Some cs) deep room a b = let free = not_full deep room a b in rw free refl

pub left_not : (o : Option Condition) (deep room : ℕ) → (deep == 0) ≡ false → (room == 0) ≡ false
    → left_by o (deep - 1) (room - 1) ≡ left_by (option_map is_not o) deep room
left_not None deep room a b = refl
left_not (Some c) deep room a b = let free = not_full deep room a b in rw free refl

-- ---- a list of filters

abbrev pub left_by_all : Items → ℕ → ℕ → Option ℕ
left_by_all ds deep room = option_and_then (λ cs. all_left cs deep room) (each_filter ds)

next_left : (o : Option Condition) (rest : Option Conditions) (deep room left : ℕ) → Some left ≡ left_by o deep room
    → option_and_then (λ cs. all_left cs deep left) rest ≡ option_and_then (λ cs. all_left cs deep room) (o >>= λ c. rest >>= λ cs. Some (condition c cs))
next_left None rest deep room left h = absurd (cc)
next_left (Some c) None deep room left h = refl
next_left (Some c) (Some cs) deep room left h = ap (λ o. o >>= λ n. all_left cs deep n) h

next_none : (o : Option Condition) (rest : Option Conditions) (deep room : ℕ) → None ≡ left_by o deep room
    → None ≡ option_and_then (λ cs. all_left cs deep room) (o >>= λ c. rest >>= λ cs. Some (condition c cs))
next_none None rest deep room h = refl
next_none (Some c) None deep room h = refl
next_none (Some c) (Some cs) deep room h = ap (λ o. o >>= λ n. all_left cs deep n) h

pub left_more : (vs : List Value) (i : ℕ) (v : Value) (deep room left : ℕ) → i < length vs → v ≡ get_or vs i v → Some left ≡ left_by (filter_at (view v)) deep room
    → left_by_all (items_view (drop (i + 1) vs)) deep left ≡ left_by_all (items_view (drop i vs)) deep room
unfolding filter_at
left_more vs i v deep room left h is read =
    next_left (filter_at (view (get_or vs i v))) (each_filter (items_view (drop (i + 1) vs))) deep room left (read ∙ ap (λ (w : Value). left_by (filter_at (view w)) deep room) is)
    ∙ sym (ap (λ (ws : List Value). left_by_all (items_view ws) deep room) (drop_more vs i v h))

pub left_none : (vs : List Value) (i : ℕ) (v : Value) (deep room : ℕ) → i < length vs → v ≡ get_or vs i v → None ≡ left_by (filter_at (view v)) deep room
    → None ≡ left_by_all (items_view (drop i vs)) deep room
unfolding filter_at
left_none vs i v deep room h is read =
    next_none (filter_at (view (get_or vs i v))) (each_filter (items_view (drop (i + 1) vs))) deep room (read ∙ ap (λ (w : Value). left_by (filter_at (view w)) deep room) is)
    ∙ sym (ap (λ (ws : List Value). left_by_all (items_view ws) deep room) (drop_more vs i v h))

pub left_last : (vs : List Value) (i deep room : ℕ) → length vs ≤ i → Some room ≡ left_by_all (items_view (drop i vs)) deep room
unfolding filter_at
left_last vs i deep room h = sym (ap (λ (ws : List Value). left_by_all (items_view ws) deep room) (drop_of_length-le vs h))

pub is_zero : (n : ℕ) → n ≡ 0 → (n == 0) ≡ true
is_zero n h = grind (arith, nat_tests)

pub is_some_number : (n : ℕ) → (n ≡ 0 → ⊥) → (n == 0) ≡ false
is_some_number n h = grind (arith, nat_tests)

-- ---- a filter built

pub selected : (d : Data) (x : List ℕ) (v : Option (List ℕ)) (r : Result Filter AllocError) → Some (selector x v) ≡ layer_at d → IfOk r (λ f. says f ≡ has x v) → IfOk r (λ f. filter_at d ≡ Some (says f))
selected d x v (Ok f) h e = sym (spoken d (selector x v) h) ∙ ap Some (sym e)
selected d x v (Err a) h e = e

pub wanted : (d : Data) (x : List ℕ) (ds : Items) (r : Result Filter AllocError) → Some (among x ds) ≡ layer_at d → IfOk r (λ f. option_map (has_among x) (each_of text_or_null ds) ≡ Some (says f)) → IfOk r (λ f. filter_at d ≡ Some (says f))
wanted d x ds (Ok f) h e = sym (spoken d (among x ds) h) ∙ e
wanted d x ds (Err a) h e = e

-- ---- the limits

open_means : (deep room : ℕ) → is_full deep room ≡ false → (1 ≤ deep) × (1 ≤ room)
open_means deep room h = (grind (arith, nat_tests), grind (arith, nat_tests))

is_open : (deep room : ℕ) → 1 ≤ deep → 1 ≤ room → is_full deep room ≡ false
is_open deep room a b = not_full deep room (is_some_number deep (λ e. omega (arith, a, e))) (is_some_number room (λ e. omega (arith, b, e)))

-- there is a level and a place
inside : (f : Bool) (o : Option ℕ) (left : ℕ) → (if f then None else o) ≡ Some left → (f ≡ false) × (o ≡ Some left)
inside true o left h = absurd (cc)
inside false o left h = (refl, h)

leaf_left : (b : Bool) (room left : ℕ) → leaf b room ≡ Some left → (b ≡ true) × (room - 1 ≡ left)
leaf_left true room left h = (refl, same_Some (room - 1) left h)
leaf_left false room left h = absurd (cc)

bound : (o : Option ℕ) (f : ℕ → Option ℕ) (left : ℕ) → (o >>= f) ≡ Some left → (n : ℕ) × (o ≡ Some n) × (f n ≡ Some left)
bound None f left h = absurd (cc)
bound (Some n) f left h = (n, refl, h)

-- what is left tells that no limit is passed
record Took (deep room left : ℕ) (l m : ℕ) (b : Bool) : Type 0 where
  level : l ≤ deep
  places : m + left ≡ room
  texts : b ≡ true

one_took : (b : Bool) (deep room left : ℕ) → (if is_full deep room then None else leaf b room) ≡ Some left → Took deep room left 1 1 b
one_took b deep room left h =
    let free = inside (is_full deep room) (leaf b room) left h in
    let some = open_means deep room free.0 in
    let taken = leaf_left b room left free.1 in
    record { level = some.0; places = omega (arith, some.1, taken.1); texts = taken.0 }

deeper_took : (deep room left l m : ℕ) (b : Bool) → is_full deep room ≡ false → Took (deep - 1) (room - 1) left l m b → Took deep room left (suc l) (suc m) b
deeper_took deep room left l m b free t =
    let some = open_means deep room free in
    record { level = omega (arith, some.0, t.level); places = omega (arith, some.1, t.places); texts = t.texts }

both_took : (deep room n left l m k p : ℕ) (a b : Bool) → Took deep room n l m a → Took deep n left k p b → Took deep room left (max l k) (m + p) (a && b)
both_took deep room n left l m k p a b t u = record {
  level = omega (arith, t.level, u.level);
  places = omega (arith, t.places, u.places);
  texts = ap (λ x. x && b) t.texts ∙ u.texts;
}

mutual
  took : (c : Condition) (deep room left : ℕ) → left_after c deep room ≡ Some left → Took deep room left (levels c) (members c) (fits_texts c)
  took (has d v) deep room left h = one_took (is_label d && is_short v) deep room left h
  took (has_among d vs) deep room left h = one_took (is_label d && nat_le (length vs) max_values && list_all is_short vs) deep room left h
  took (all_of cs) deep room left h =
      let free = inside (is_full deep room) (all_left cs (deep - 1) (room - 1)) left h in
      deeper_took deep room left (most_levels cs) (all_members cs) (fit_texts cs) free.0 (all_took cs (deep - 1) (room - 1) left free.1)
  took (any_of cs) deep room left h =
      let free = inside (is_full deep room) (all_left cs (deep - 1) (room - 1)) left h in
      deeper_took deep room left (most_levels cs) (all_members cs) (fit_texts cs) free.0 (all_took cs (deep - 1) (room - 1) left free.1)
  took (is_not c) deep room left h =
      let free = inside (is_full deep room) (left_after c (deep - 1) (room - 1)) left h in
      deeper_took deep room left (levels c) (members c) (fits_texts c) free.0 (took c (deep - 1) (room - 1) left free.1)

  all_took : (cs : Conditions) (deep room left : ℕ) → all_left cs deep room ≡ Some left → Took deep room left (most_levels cs) (all_members cs) (fit_texts cs)
  all_took no_conditions deep room left h = record { level = omega arith; places = omega (arith, same_Some room left h); texts = refl }
  all_took (condition c cs) deep room left h =
      let n = bound (left_after c deep room) (λ m. all_left cs deep m) left h in
      both_took deep room n.0 left (levels c) (members c) (most_levels cs) (all_members cs) (fits_texts c) (fit_texts cs) (took c deep room n.0 n.1) (all_took cs deep n.0 left n.2)

-- where no limit is passed, all places are left that are not taken
one_leaves : (b : Bool) (deep room : ℕ) → 1 ≤ deep → 1 ≤ room → b ≡ true → (if is_full deep room then None else leaf b room) ≡ Some (room - 1)
one_leaves b deep room d r h = let free = is_open deep room d r in rw (free, h) refl

deeper_leaves : (o : Option ℕ) (deep room m : ℕ) → 1 ≤ deep → 1 ≤ room → o ≡ Some (room - 1 - m) → (if is_full deep room then None else o) ≡ Some (room - suc m)
deeper_leaves o deep room m d r h =
    let free = is_open deep room d r in
    let same : room - 1 - m ≡ room - suc m = omega arith in
    rw free (h ∙ ap Some same)

mutual
  leaves : (c : Condition) (deep room : ℕ) → levels c ≤ deep → members c ≤ room → fits_texts c ≡ true → left_after c deep room ≡ Some (room - members c)
  leaves (has d v) deep room l m t = one_leaves (is_label d && is_short v) deep room l m t
  leaves (has_among d vs) deep room l m t = one_leaves (is_label d && nat_le (length vs) max_values && list_all is_short vs) deep room l m t
  leaves (all_of cs) deep room l m t =
      deeper_leaves (all_left cs (deep - 1) (room - 1)) deep room (all_members cs) (omega (arith, l)) (omega (arith, m)) (all_leave cs (deep - 1) (room - 1) (omega (arith, l)) (omega (arith, m)) t)
  leaves (any_of cs) deep room l m t =
      deeper_leaves (all_left cs (deep - 1) (room - 1)) deep room (all_members cs) (omega (arith, l)) (omega (arith, m)) (all_leave cs (deep - 1) (room - 1) (omega (arith, l)) (omega (arith, m)) t)
  leaves (is_not c) deep room l m t =
      deeper_leaves (left_after c (deep - 1) (room - 1)) deep room (members c) (omega (arith, l)) (omega (arith, m)) (leaves c (deep - 1) (room - 1) (omega (arith, l)) (omega (arith, m)) t)

  all_leave : (cs : Conditions) (deep room : ℕ) → most_levels cs ≤ deep → all_members cs ≤ room → fit_texts cs ≡ true → all_left cs deep room ≡ Some (room - all_members cs)
  all_leave no_conditions deep room l m t = ap Some (omega arith)
  all_leave (condition c cs) deep room l m t =
      let texts = and_parts (fits_texts c) (fit_texts cs) t in
      let first = leaves c deep room (omega (arith, l)) (omega (arith, m)) texts.0 in
      let rest = all_leave cs deep (room - members c) (omega (arith, l)) (omega (arith, m)) texts.1 in
      let same : room - members c - all_members cs ≡ room - (members c + all_members cs) = omega arith in
      ap (λ o. o >>= λ n. all_left cs deep n) first ∙ rest ∙ ap Some same

fits_one : (c : Condition) (o : Option ℕ) (b : Bool) → left_after c max_levels max_members ≡ o → fits_filter c ≡ b → is_some o ≡ b
fits_one c None false e h = refl
fits_one c (Some n) true e h = refl
fits_one c None true e h =
    let texts = and_parts (nat_le (levels c) max_levels && nat_le (members c) max_members) (fits_texts c) h in
    let limits = and_parts (nat_le (levels c) max_levels) (nat_le (members c) max_members) texts.0 in
    let left = leaves c max_levels max_members (leb-true (levels c) max_levels limits.0) (leb-true (members c) max_members limits.1) texts.1 in
    let none : None ≡ Some (max_members - members c) = sym e ∙ left in
    absurd (cc)
fits_one c (Some n) false e h =
    let t = took c max_levels max_members n e in
    let l = le-leb (levels c) max_levels t.level in
    let m = le-leb (members c) max_members (omega (arith, t.places)) in
    let all : fits_filter c ≡ true = ap (λ x. x && nat_le (members c) max_members && fits_texts c) l ∙ ap (λ x. x && fits_texts c) m ∙ t.texts in
    let no : true ≡ false = sym all ∙ h in
    absurd (cc)

-- a filter fits where there is room for it
pub fits_by_room : (o : Option Condition) → is_some (left_by o max_levels max_members) ≡ holds_in fits_filter o
fits_by_room None = refl
fits_by_room (Some c) = fits_one c (left_after c max_levels max_members) (fits_filter c) refl refl

-- ---- what filters of filters say

pub says_all : (fs : Vec Filter Global) → says (All fs) ≡ all_of (each_says fs.items)
says_all fs = search (rules, the_lemmas)

pub says_any : (fs : Vec Filter Global) → says (Any fs) ≡ any_of (each_says fs.items)
says_any fs = search (rules, the_lemmas)

pub says_not : (f : Box Filter) → says (Not f) ≡ is_not (says (box_value f))
says_not f = search (rules, the_lemmas)
