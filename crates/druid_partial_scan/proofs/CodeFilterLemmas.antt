-- Filters whose names are looked up.
use Rattle.std.proofs.Common.{◌≡◌, ◌∙◌, ℕ, zero, suc, ◌+◌, ◌<◌, arith, List, [], ◌∷◌, ◌++◌, length, get_or, take, Bool, true, false, cond, ◌&&◌, ◌||◌, Option, Some, None, refl, sym, ap, String, Global, string_bytes, option_map}
use Rattle.std.proofs.Common.{rules, Vec, Bor}
use Rattle.std.specs.Prelude.{not, slice_get, IfSome}
use Rattle.std.specs.Box.{box_value}
use Rattle.std.specs.Global.{Box}
use Rattle.std.specs.List.{list_any}
use Rattle.druid_filter.specs.Filters.{has, has_among, is_not}
use Rattle.druid_filter.specs.declared.filter.Filter.{Selector, Among as FilterAmong, Not as FilterNot, the_lemmas as filter_lemmas}
use Rattle.druid_partial_scan.specs.declared.code_filter.CodeFilter.{Same, Is, Among, All, Any, Not, the_lemmas as code_filter_lemmas}
use Rattle.std.specs.Ordering.{is_eq}
use Rattle.std.proofs.lemmas.Cmp.{nat_list_eq_equiv}
use Rattle.std.proofs.lemmas.List.{take_more}
use Rattle.std.proofs.lemmas.Map.Text.{is_eq-slice_cmp}
use Rattle.std.proofs.Math.Bool.{or-false}
use Rattle.druid_segment_rows.specs.Rows.{nullable_texts_of}
use Rattle.druid_filter.specs.Filters.{same_value, passes, all_pass, any_passes, says, each_says}
use Rattle.druid_filter.specs.declared.filter.Filter.{Filter}
use Rattle.druid_partial_scan.specs.declared.code_filter.CodeFilter.{CodeFilter}
use Rattle.druid_partial.specs.Groups.{value_cmp}
use Rattle.druid_partial_scan.specs.CodeFilters.{code_is, code_among, holds, all_hold, any_holds}

pub value_tie : (v w : Option (List ℕ)) → is_eq (value_cmp v w) ≡ same_value v w
value_tie None None = refl
value_tie None (Some w) = refl
value_tie (Some v) None = refl
value_tie (Some v) (Some w) = is_eq-slice_cmp v w

same_back : (v w : Option (List ℕ)) → same_value v w ≡ same_value w v
same_back None None = refl
same_back None (Some w) = refl
same_back (Some v) None = refl
same_back (Some v) (Some w) = nat_list_eq_equiv.symm v w

either : (a b : Bool) → cond a true b ≡ (b || a)
either true true = refl
either true false = refl
either false true = refl
either false false = refl

and_all : (b : Bool) → (b && true) ≡ b
and_all true = refl
and_all false = refl

and_assoc : (a b c : Bool) → (a && (b && c)) ≡ ((a && b) && c)
and_assoc true b c = refl
and_assoc false b c = refl

or_assoc : (a b c : Bool) → (a || (b || c)) ≡ ((a || b) || c)
or_assoc true b c = refl
or_assoc false b c = refl

pub any_push : (p : Option (List ℕ) → Bool) (xs : List (Option (String Global))) (y : Option (String Global)) → list_any p (nullable_texts_of (xs ++ y ∷ [])) ≡ (list_any p (nullable_texts_of xs) || p (option_map string_bytes y))
any_push p [] y = or-false _
any_push p (x ∷ xs) y =
    ap (λ b. p (option_map string_bytes x) || b) (any_push p xs y) ∙ or_assoc (p (option_map string_bytes x)) (list_any p (nullable_texts_of xs)) (p (option_map string_bytes y))

all_says_push : (value : List ℕ → Option (List ℕ)) (xs : List Filter) (y : Filter) → all_pass value (each_says (xs ++ y ∷ [])) ≡ (all_pass value (each_says xs) && passes value (says y))
all_says_push value [] y = and_all _
all_says_push value (x ∷ xs) y =
    ap (λ b. passes value (says x) && b) (all_says_push value xs y) ∙ and_assoc (passes value (says x)) (all_pass value (each_says xs)) (passes value (says y))

any_says_push : (value : List ℕ → Option (List ℕ)) (xs : List Filter) (y : Filter) → any_passes value (each_says (xs ++ y ∷ [])) ≡ (any_passes value (each_says xs) || passes value (says y))
any_says_push value [] y = or-false _
any_says_push value (x ∷ xs) y =
    ap (λ b. passes value (says x) || b) (any_says_push value xs y) ∙ or_assoc (passes value (says x)) (any_passes value (each_says xs)) (passes value (says y))

all_hold_push : (ts : List CodeFilter) (t : CodeFilter) (row : ℕ) → all_hold (ts ++ t ∷ []) row ≡ (all_hold ts row && holds t row)
all_hold_push [] t row = and_all _
all_hold_push (u ∷ ts) t row =
    ap (λ b. holds u row && b) (all_hold_push ts t row) ∙ and_assoc (holds u row) (all_hold ts row) (holds t row)

any_holds_push : (ts : List CodeFilter) (t : CodeFilter) (row : ℕ) → any_holds (ts ++ t ∷ []) row ≡ (any_holds ts row || holds t row)
any_holds_push [] t row = or-false _
any_holds_push (u ∷ ts) t row =
    ap (λ b. holds u row || b) (any_holds_push ts t row) ∙ or_assoc (holds u row) (any_holds ts row) (holds t row)

-- one filter more
pub all_more : (value : List ℕ → Option (List ℕ)) (row : ℕ) (fs : List Filter) (i : ℕ) (f : Filter) (ts more : List CodeFilter) (t : CodeFilter) → i < length fs → f ≡ get_or fs i f → more ≡ ts ++ t ∷ [] → all_hold ts row ≡ all_pass value (each_says (take i fs)) → holds t row ≡ passes value (says f) → all_hold more row ≡ all_pass value (each_says (take (i + 1) fs))
all_more value row fs i f ts more t h is e was one =
    ap (λ l. all_hold l row) e ∙ all_hold_push ts t row ∙ ap (λ b. b && holds t row) was
    ∙ ap (λ b. all_pass value (each_says (take i fs)) && b) (one ∙ ap (λ g. passes value (says g)) is)
    ∙ sym (all_says_push value (take i fs) (get_or fs i f)) ∙ ap (λ l. all_pass value (each_says l)) (sym (take_more fs i f h))

pub any_more : (value : List ℕ → Option (List ℕ)) (row : ℕ) (fs : List Filter) (i : ℕ) (f : Filter) (ts more : List CodeFilter) (t : CodeFilter) → i < length fs → f ≡ get_or fs i f → more ≡ ts ++ t ∷ [] → any_holds ts row ≡ any_passes value (each_says (take i fs)) → holds t row ≡ passes value (says f) → any_holds more row ≡ any_passes value (each_says (take (i + 1) fs))
any_more value row fs i f ts more t h is e was one =
    ap (λ l. any_holds l row) e ∙ any_holds_push ts t row ∙ ap (λ b. b || holds t row) was
    ∙ ap (λ b. any_passes value (each_says (take i fs)) || b) (one ∙ ap (λ g. passes value (says g)) is)
    ∙ sym (any_says_push value (take i fs) (get_or fs i f)) ∙ ap (λ l. any_passes value (each_says l)) (sym (take_more fs i f h))

-- ---- one level

says_selector : (name : String Global) (wanted : Option (String Global)) → says (Selector name wanted) ≡ has (string_bytes name) (option_map string_bytes wanted)
says_selector name wanted = search (rules, filter_lemmas)

says_among : (name : String Global) (wanted : Vec (Option (String Global)) Global) → says (FilterAmong name wanted) ≡ has_among (string_bytes name) (nullable_texts_of wanted.items)
says_among name wanted = search (rules, filter_lemmas)

pub selector_passes : (value : List ℕ → Option (List ℕ)) (f : Filter) (name : String Global) (wanted : Option (String Global)) → f ≡ Selector name wanted → same_value (value (string_bytes name)) (option_map string_bytes wanted) ≡ passes value (says f)
selector_passes value f name wanted e = sym (ap (λ g. passes value (says g)) e ∙ ap (passes value) (says_selector name wanted))

pub among_passes : (value : List ℕ → Option (List ℕ)) (f : Filter) (name : String Global) (wanted : Vec (Option (String Global)) Global) → f ≡ FilterAmong name wanted → list_any (same_value (value (string_bytes name))) (nullable_texts_of wanted.items) ≡ passes value (says f)
among_passes value f name wanted e = sym (ap (λ g. passes value (says g)) e ∙ ap (passes value) (says_among name wanted))

pub holds_same : (answer : Bool) (row : ℕ) → holds (Same answer) row ≡ answer
holds_same answer row = search (rules, code_filter_lemmas)

pub holds_is : (codes : Bor (List ℕ)) (wanted row : ℕ) → holds (Is codes wanted) row ≡ code_is (slice_get codes.now row) wanted
holds_is codes wanted row = search (rules, code_filter_lemmas)

pub holds_among : (codes : Bor (List ℕ)) (marks : Vec Bool Global) (row : ℕ) → holds (Among codes marks) row ≡ code_among (slice_get codes.now row) marks.items
holds_among codes marks row = search (rules, code_filter_lemmas)

pub holds_not : (inner : Box CodeFilter) (row : ℕ) → holds (Not inner) row ≡ not (holds (box_value inner) row)
holds_not inner row = search (rules, code_filter_lemmas)

says_not : (inner : Box Filter) → says (FilterNot inner) ≡ is_not (says (box_value inner))
says_not inner = search (rules, filter_lemmas)

-- it passes what the other does not
pub not_passes : (value : List ℕ → Option (List ℕ)) (f : Filter) (inner : Box Filter) → f ≡ FilterNot inner → not (passes value (says (box_value inner))) ≡ passes value (says f)
not_passes value f inner e = sym (ap (λ g. passes value (says g)) e ∙ ap (passes value) (says_not inner))

-- ---- answers that are seen without a row

and_false : (b : Bool) → (b && false) ≡ false
and_false true = refl
and_false false = refl

or_true : (b : Bool) → (b || true) ≡ true
or_true true = refl
or_true false = refl

pub all_hold_false : (ts : List CodeFilter) (i : ℕ) (t : CodeFilter) (row : ℕ) → i < length ts → holds (get_or ts i t) row ≡ false → all_hold ts row ≡ false
all_hold_false [] i t row h e = absurd (omega (arith, h))
all_hold_false (u ∷ ts) zero t row h e = ap (λ b. b && all_hold ts row) e
all_hold_false (u ∷ ts) (suc i) t row h e = ap (λ b. holds u row && b) (all_hold_false ts i t row (omega (arith, h)) e) ∙ and_false (holds u row)

pub any_holds_true : (ts : List CodeFilter) (i : ℕ) (t : CodeFilter) (row : ℕ) → i < length ts → holds (get_or ts i t) row ≡ true → any_holds ts row ≡ true
any_holds_true [] i t row h e = absurd (omega (arith, h))
any_holds_true (u ∷ ts) zero t row h e = ap (λ b. b || any_holds ts row) e
any_holds_true (u ∷ ts) (suc i) t row h e = ap (λ b. holds u row || b) (any_holds_true ts i t row (omega (arith, h)) e) ∙ or_true (holds u row)

-- one that always passes changes nothing
pub all_hold_same : (ts : List CodeFilter) (i : ℕ) (t : CodeFilter) (row : ℕ) → i < length ts → holds (get_or ts i t) row ≡ true → all_hold (take (i + 1) ts) row ≡ all_hold (take i ts) row
all_hold_same ts i t row h e = ap (λ l. all_hold l row) (take_more ts i t h) ∙ all_hold_push (take i ts) (get_or ts i t) row ∙ ap (λ b. all_hold (take i ts) row && b) e ∙ and_all _

pub any_holds_same : (ts : List CodeFilter) (i : ℕ) (t : CodeFilter) (row : ℕ) → i < length ts → holds (get_or ts i t) row ≡ false → any_holds (take (i + 1) ts) row ≡ any_holds (take i ts) row
any_holds_same ts i t row h e = ap (λ l. any_holds l row) (take_more ts i t h) ∙ any_holds_push (take i ts) (get_or ts i t) row ∙ ap (λ b. any_holds (take i ts) row || b) e ∙ or-false _

holds_all : (inner : Vec CodeFilter Global) (row : ℕ) → holds (All inner) row ≡ all_hold inner.items row
holds_all inner row = search (rules, code_filter_lemmas)

holds_any : (inner : Vec CodeFilter Global) (row : ℕ) → holds (Any inner) row ≡ any_holds inner.items row
holds_any inner row = search (rules, code_filter_lemmas)

-- what answers the same
pub always_of : (f g : ℕ → Bool) (known : Option Bool) → ((row : ℕ) → f row ≡ g row) → IfSome known (λ answer. (row : ℕ) → g row ≡ answer) → IfSome known (λ answer. (row : ℕ) → f row ≡ answer)
always_of f g None same known = known
always_of f g (Some answer) same known = λ row. same row ∙ known row

pub all_constant_is : (t : CodeFilter) (inner : Vec CodeFilter Global) (ts : List CodeFilter) (known : Option Bool) → t ≡ All inner → ts ≡ inner.items → IfSome known (λ answer. (row : ℕ) → all_hold ts row ≡ answer) → IfSome known (λ answer. (row : ℕ) → holds t row ≡ answer)
all_constant_is t inner ts known e same = always_of (holds t) (all_hold ts) known (λ row. ap (λ u. holds u row) e ∙ holds_all inner row ∙ ap (λ us. all_hold us row) (sym same))

pub any_constant_is : (t : CodeFilter) (inner : Vec CodeFilter Global) (ts : List CodeFilter) (known : Option Bool) → t ≡ Any inner → ts ≡ inner.items → IfSome known (λ answer. (row : ℕ) → any_holds ts row ≡ answer) → IfSome known (λ answer. (row : ℕ) → holds t row ≡ answer)
any_constant_is t inner ts known e same = always_of (holds t) (any_holds ts) known (λ row. ap (λ u. holds u row) e ∙ holds_any inner row ∙ ap (λ us. any_holds us row) (sym same))
