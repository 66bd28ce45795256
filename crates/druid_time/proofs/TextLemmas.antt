-- The printed texts: their bytes, what is read of them again, and their order.
use Rattle.std.proofs.Common.{◌≡◌, ◌≢◌, ℕ, suc, ◌+◌, ◌*◌, ◌/◌, ◌%◌, ◌<◌, ◌≤◌, inl, inr, cond, nat_lt, refl, sym, ap, ◌∙◌, subst, arith, Bool, true, false, List, [], ◌∷◌, length, get_or, nat_le, nat_eq, codes, lit<, pos, Ok, Err, Result, IfOk, Option, None, Some, SomeIff, if◌then◌else◌, Ordering, Less, Equal, Greater, nat_cmp, ◌++◌, drop, take, length-append, append_assoc}
use Rattle.std.specs.Str.{IsAscii, IsUtf8}
use Rattle.std.specs.Char.{is_ascii_digit}
use Rattle.std.proofs.lemmas.Str.{IsUtf8-from_ascii}
use Rattle.std.proofs.lemmas.Str.Ascii.{IsAscii-from_all}
use Rattle.std.proofs.lemmas.List.Elements.{All-from_recursion}
use Rattle.std.proofs.lemmas.Bool.{or_left, or_right, and_from, le-leb, lt-ltb, le-ltb, eq-eqb, ne_eqb, cases_order, cases_Bool, and_parts, leb-true, ltb-true, false_from_ne_true, false≢true, or_cases, or_parts}
use Rattle.std.specs.Ordering.{ordering_then}
use Rattle.std.specs.Cmp.Lexicographic.{slice_cmp}
use Rattle.std.proofs.lemmas.List.Sums.{sum_by-cons}
use Rattle.std.specs.Option.{ok_or}
use Rattle.std.specs.List.{All, AllByRecursion, count_by, list_any, position_or_len, before_first, after_first}
use Rattle.jiff_core.proofs.CalendarLemmas.{days_in_month_bounds}
use Rattle.druid_base.proofs.OrderLemmas.{ordering_then-assoc, nat_cmp-lt, nat_cmp-eq, nat_cmp-gt}
use Rattle.druid_time.proofs.CivilLemmas.{civil_same, IsInstant-instant_of, IsCivil-civil_of, instant_of-civil_of, time_of_day_limit, day_number-lt_year, day_number-lt_month, day_number-lt_day, day_number-same}
use Rattle.druid_time.specs.declared.fault.TimeFault.{TimeFault}
use Rattle.druid_time.specs.declared.fault.TimeFault.TheVariants.{NotATime, OutOfRange, Empty}
use Rattle.druid_time.specs.Civil.{Civil, IsCivil, is_civil, instant_of, civil_of, day_number, time_of_day}
use Rattle.druid_time.specs.Texts.{digit, civil_text, instant_text, fits_form, has_form, civil_parts, instant_at, extent_at, extent_text, digits_value, two_digits, three_digits, four_digits}
use Rattle.druid_time.specs.Extent.{Extent, IsExtent}
use Rattle.druid_time.specs.Instant.{IsInstant, day_length}

-- ---- the bytes

pub length-civil_text : (c : Civil) → length (civil_text c) ≡ 24
unfolding civil_text
length-civil_text c = refl

pub length-instant_text : (t : ℕ) → length (instant_text t) ≡ 24
unfolding instant_text
length-instant_text t = length-civil_text (civil_of t)

digit_low : (n : ℕ) → digit n < 95
digit_low n = omega arith

-- each byte comes before `_`
all_low : (c : Civil) → AllByRecursion (λ b. b < 95) (civil_text c)
unfolding civil_text
all_low c =
    (digit_low _, (digit_low _, (digit_low _, (digit_low _, (lit< tt, (digit_low _, (digit_low _, (lit< tt, (digit_low _, (digit_low _, (lit< tt, (digit_low _, (digit_low _, (lit< tt, (digit_low _, (digit_low _, (lit< tt, (digit_low _, (digit_low _, (lit< tt, (digit_low _, (digit_low _, (digit_low _, (lit< tt, tt))))))))))))))))))))))))

pub All-instant_text : (t : ℕ) → All (λ b. b < 95) (instant_text t)
unfolding instant_text
All-instant_text t = All-from_recursion _ _ (all_low (civil_of t))

pub IsAscii-instant_text : (t : ℕ) → IsAscii (instant_text t)
IsAscii-instant_text t = IsAscii-from_all (instant_text t) (λ k d h. let low : get_or (instant_text t) k d < 95 = All-instant_text t k d h in omega arith)

pub IsUtf8-instant_text : (t : ℕ) → IsUtf8 (instant_text t)
IsUtf8-instant_text t = IsUtf8-from_ascii (instant_text t) (IsAscii-instant_text t)

-- ---- what is read of them

digit_is : (n : ℕ) → is_ascii_digit (digit n) ≡ true
digit_is n = and_from (nat_le 48 (digit n)) (nat_le (digit n) 57) (le-leb _ _ (omega arith)) (le-leb _ _ (omega arith))

fits_digit : (fs bs : List ℕ) (n : ℕ) → fits_form fs bs ≡ true → fits_form (100 ∷ fs) (digit n ∷ bs) ≡ true
unfolding fits_form
fits_digit fs bs n rest = and_from (is_ascii_digit (digit n)) _ (digit_is n) rest

fits_byte : (fs bs : List ℕ) (b : ℕ) → nat_eq b 100 ≡ false → fits_form fs bs ≡ true → fits_form (b ∷ fs) (b ∷ bs) ≡ true
unfolding fits_form
fits_byte fs bs b other rest = rw other (and_from (nat_eq b b) _ (eq-eqb b b refl) rest)

fits_end : fits_form [] [] ≡ true
unfolding fits_form
fits_end = refl

form_fits : (c : Civil) → fits_form (codes "dddd-dd-ddTdd:dd:dd.dddZ") (civil_text c) ≡ true
unfolding civil_text
form_fits c =
    fits_digit _ _ _ (fits_digit _ _ _ (fits_digit _ _ _ (fits_digit _ _ _ (fits_byte _ _ _ refl (fits_digit _ _ _ (fits_digit _ _ _ (fits_byte _ _ _ refl (fits_digit _ _ _ (fits_digit _ _ _ (fits_byte _ _ _ refl (fits_digit _ _ _ (fits_digit _ _ _ (fits_byte _ _ _ refl (fits_digit _ _ _ (fits_digit _ _ _ (fits_byte _ _ _ refl (fits_digit _ _ _ (fits_digit _ _ _ (fits_byte _ _ _ refl (fits_digit _ _ _ (fits_digit _ _ _ (fits_digit _ _ _ (fits_byte _ _ _ refl (fits_end))))))))))))))))))))))))

pub has_form-civil_text : (c : Civil) → has_form (civil_text c) ≡ true
unfolding has_form
has_form-civil_text c =
    let fits : List ℕ → Bool = λ form. fits_form form (civil_text c) in
    or_right (fits (codes "dddd-dd-dd")) _
    (or_right (fits (codes "dddd-dd-ddTdd:dd")) _
    (or_right (fits (codes "dddd-dd-ddTdd:ddZ")) _
    (or_right (fits (codes "dddd-dd-ddTdd:dd:dd")) _
    (or_right (fits (codes "dddd-dd-ddTdd:dd:ddZ")) _
    (or_right (fits (codes "dddd-dd-ddTdd:dd:dd.ddd")) _
    (or_left _ false (form_fits c)))))))

two_read : (n : ℕ) → n < 100 → digits_value (two_digits n) ≡ n
two_read n h = omega arith

three_read : (n : ℕ) → n < 1000 → digits_value (three_digits n) ≡ n
three_read n h = omega arith

four_read : (n : ℕ) → n < 10_000 → digits_value (four_digits n) ≡ n
four_read n h = omega arith

pub civil_parts-civil_text : (c : Civil) → IsCivil c → civil_parts (civil_text c) ≡ c
unfolding civil_parts civil_text
civil_parts-civil_text c h =
    let long = days_in_month_bounds (pos c.year) c.month in
    civil_same _ c
    (four_read c.year (omega (arith, h.year)))
    (two_read c.month (omega (arith, h.month_high)))
    (two_read c.day (omega (arith, h.day_high)))
    (two_read c.hour (omega (arith, h.hour)))
    (two_read c.minute (omega (arith, h.minute)))
    (two_read c.second (omega (arith, h.second)))
    (three_read c.milli (omega (arith, h.milli)))

-- the test says what `IsCivil` says
pub is_civil_from : (c : Civil) → IsCivil c → is_civil c ≡ true
unfolding is_civil
is_civil_from c h =
    and_from _ _ (and_from _ _ (and_from _ _ (and_from _ _ (and_from _ _ (and_from _ _ (and_from _ _ (and_from _ _ (le-leb _ _ h.year) (le-leb _ _ h.month_low)) (le-leb _ _ h.month_high)) (le-leb _ _ h.day_low)) (le-leb _ _ h.day_high)) (lt-ltb _ _ h.hour)) (lt-ltb _ _ h.minute)) (lt-ltb _ _ h.second)) (lt-ltb _ _ h.milli)

-- a printed instant is read back
pub instant_at-instant_text : (t : ℕ) → IsInstant t → instant_at (instant_text t) ≡ Ok t
unfolding instant_at instant_text
instant_at-instant_text t h =
    let civil = IsCivil-civil_of t h in
    rw (has_form-civil_text (civil_of t), civil_parts-civil_text (civil_of t) civil, is_civil_from (civil_of t) civil, instant_of-civil_of t h) refl

abbrev ok : ℕ → Result ℕ TimeFault
ok t = Ok t

pub instant_text_injective : (s t : ℕ) → IsInstant s → IsInstant t → instant_text s ≡ instant_text t → s ≡ t
instant_text_injective s t h k e =
    let same : ok s ≡ ok t = sym (instant_at-instant_text s h) ∙ ap instant_at e ∙ instant_at-instant_text t k in
    cc

-- ---- the order of the texts

-- a and b are compared by x and y first
cmp_first : (a b x y : ℕ) (o : Ordering) → (x < y → a < b) → (y < x → b < a) → (x ≡ y → nat_cmp a b ≡ o) → nat_cmp a b ≡ ordering_then (nat_cmp x y) o
cmp_first a b x y o less greater same =
    elim (cases_order x y) [
      | inl e ↦ rw (e, nat_cmp-eq y) (same e)
      | inr (inl before) ↦ rw (nat_cmp-lt x y before, nat_cmp-lt a b (less before)) refl
      | inr (inr after) ↦ rw (nat_cmp-gt x y after, nat_cmp-gt a b (greater after)) refl
    ]

cmp_shift : (a b x y : ℕ) → (x < y → a < b) → (y < x → b < a) → (x ≡ y → a ≡ b) → nat_cmp a b ≡ nat_cmp x y
cmp_shift a b x y less greater same =
    elim (cases_order x y) [
      | inl e ↦ rw (e, same e, nat_cmp-eq y, nat_cmp-eq b) refl
      | inr (inl before) ↦ rw (nat_cmp-lt x y before, nat_cmp-lt a b (less before)) refl
      | inr (inr after) ↦ rw (nat_cmp-gt x y after, nat_cmp-gt a b (greater after)) refl
    ]

digit_cmp : (a b : ℕ) → nat_cmp (digit a) (digit b) ≡ nat_cmp (a % 10) (b % 10)
digit_cmp a b = cmp_shift (digit a) (digit b) (a % 10) (b % 10) (λ h. omega arith) (λ h. omega arith) (λ h. omega arith)

-- numbers of one length are compared as their digits are
more_digits : (a b : ℕ) → nat_cmp a b ≡ ordering_then (nat_cmp (a / 10) (b / 10)) (nat_cmp (digit a) (digit b))
more_digits a b =
    cmp_first a b (a / 10) (b / 10) (nat_cmp (digit a) (digit b)) (λ h. omega arith) (λ h. omega arith)
    (λ e. cmp_shift a b (a % 10) (b % 10) (λ h. omega arith) (λ h. omega arith) (λ h. omega arith) ∙ sym (digit_cmp a b))

one_digit : (a b : ℕ) → a < 10 → b < 10 → nat_cmp a b ≡ nat_cmp (digit a) (digit b)
one_digit a b h k = cmp_shift a b (digit a) (digit b) (λ e. omega arith) (λ e. omega arith) (λ e. omega arith)

two_cmp : (a b : ℕ) (o : Ordering) → a < 100 → b < 100 → ordering_then (nat_cmp (digit (a / 10)) (digit (b / 10))) (ordering_then (nat_cmp (digit a) (digit b)) o) ≡ ordering_then (nat_cmp a b) o
two_cmp a b o h k =
    rw (more_digits a b, one_digit (a / 10) (b / 10) (omega arith) (omega arith)) (sym (ordering_then-assoc _ _ o))

three_cmp : (a b : ℕ) (o : Ordering) → a < 1000 → b < 1000 → ordering_then (nat_cmp (digit (a / 100)) (digit (b / 100))) (ordering_then (nat_cmp (digit (a / 10)) (digit (b / 10))) (ordering_then (nat_cmp (digit a) (digit b)) o)) ≡ ordering_then (nat_cmp a b) o
three_cmp a b o h k =
    let first : a / 10 / 10 ≡ a / 100 = omega arith in
    let second : b / 10 / 10 ≡ b / 100 = omega arith in
    rw (more_digits a b) (rw (first, second) at (two_cmp (a / 10) (b / 10) (ordering_then (nat_cmp (digit a) (digit b)) o) (omega arith) (omega arith)) ∙ sym (ordering_then-assoc _ _ o))

four_cmp : (a b : ℕ) (o : Ordering) → a < 10_000 → b < 10_000 → ordering_then (nat_cmp (digit (a / 1000)) (digit (b / 1000))) (ordering_then (nat_cmp (digit (a / 100)) (digit (b / 100))) (ordering_then (nat_cmp (digit (a / 10)) (digit (b / 10))) (ordering_then (nat_cmp (digit a) (digit b)) o))) ≡ ordering_then (nat_cmp a b) o
four_cmp a b o h k =
    let first : a / 10 / 100 ≡ a / 1000 = omega arith in
    let second : b / 10 / 100 ≡ b / 1000 = omega arith in
    let first_two : a / 10 / 10 ≡ a / 100 = omega arith in
    let second_two : b / 10 / 10 ≡ b / 100 = omega arith in
    rw (more_digits a b) (rw (first, second, first_two, second_two) at (three_cmp (a / 10) (b / 10) (ordering_then (nat_cmp (digit a) (digit b)) o) (omega arith) (omega arith)) ∙ sym (ordering_then-assoc _ _ o))

-- dates and times by their parts, the larger ones first
abbrev civil_cmp : Civil → Civil → Ordering
civil_cmp a b =
    ordering_then (nat_cmp a.year b.year)
    (ordering_then (nat_cmp a.month b.month)
    (ordering_then (nat_cmp a.day b.day)
    (ordering_then (nat_cmp a.hour b.hour)
    (ordering_then (nat_cmp a.minute b.minute)
    (ordering_then (nat_cmp a.second b.second) (nat_cmp a.milli b.milli))))))

then-equal : (x : Ordering) → ordering_then x Equal ≡ x
then-equal Less = refl
then-equal Equal = refl
then-equal Greater = refl

slice_cmp-civil_text : (a b : Civil) → IsCivil a → IsCivil b → slice_cmp nat_cmp (civil_text a) (civil_text b) ≡ civil_cmp a b
unfolding civil_text
slice_cmp-civil_text a b h k =
    let long = days_in_month_bounds (pos a.year) a.month in
    let long_other = days_in_month_bounds (pos b.year) b.month in
    four_cmp a.year b.year _ (omega (arith, h.year)) (omega (arith, k.year))
    ∙ ap (ordering_then (nat_cmp a.year b.year)) (two_cmp a.month b.month _ (omega (arith, h.month_high)) (omega (arith, k.month_high))
    ∙ ap (ordering_then (nat_cmp a.month b.month)) (two_cmp a.day b.day _ (omega (arith, h.day_high)) (omega (arith, k.day_high))
    ∙ ap (ordering_then (nat_cmp a.day b.day)) (two_cmp a.hour b.hour _ (omega (arith, h.hour)) (omega (arith, k.hour))
    ∙ ap (ordering_then (nat_cmp a.hour b.hour)) (two_cmp a.minute b.minute _ (omega (arith, h.minute)) (omega (arith, k.minute))
    ∙ ap (ordering_then (nat_cmp a.minute b.minute)) (two_cmp a.second b.second _ (omega (arith, h.second)) (omega (arith, k.second))
    ∙ ap (ordering_then (nat_cmp a.second b.second)) (three_cmp a.milli b.milli Equal h.milli k.milli ∙ then-equal _))))))

time_cmp : (a b : Civil) → IsCivil a → IsCivil b → nat_cmp (time_of_day a) (time_of_day b) ≡ ordering_then (nat_cmp a.hour b.hour) (ordering_then (nat_cmp a.minute b.minute) (ordering_then (nat_cmp a.second b.second) (nat_cmp a.milli b.milli)))
time_cmp a b h k =
    let seconds = ordering_then (nat_cmp a.second b.second) (nat_cmp a.milli b.milli) in
    let minutes = ordering_then (nat_cmp a.minute b.minute) seconds in
    let s = time_of_day a in
    let t = time_of_day b in
    cmp_first s t a.hour b.hour minutes
    (λ e. omega (arith, h.minute, h.second, h.milli))
    (λ e. omega (arith, k.minute, k.second, k.milli))
    (λ hour. cmp_first s t a.minute b.minute seconds
    (λ e. omega (arith, h.second, h.milli))
    (λ e. omega (arith, k.second, k.milli))
    (λ minute. cmp_first s t a.second b.second (nat_cmp a.milli b.milli)
    (λ e. omega (arith, h.milli))
    (λ e. omega (arith, k.milli))
    (λ second. cmp_shift s t a.milli b.milli (λ e. omega arith) (λ e. omega arith) (λ e. omega arith))))

day_cmp : (a b : Civil) → IsCivil a → IsCivil b → nat_cmp (day_number a) (day_number b) ≡ ordering_then (nat_cmp a.year b.year) (ordering_then (nat_cmp a.month b.month) (nat_cmp a.day b.day))
day_cmp a b h k =
    let s = day_number a in
    let t = day_number b in
    cmp_first s t a.year b.year (ordering_then (nat_cmp a.month b.month) (nat_cmp a.day b.day)) (day_number-lt_year a b h k) (day_number-lt_year b a k h)
    (λ year. cmp_first s t a.month b.month (nat_cmp a.day b.day) (day_number-lt_month a b h k year) (day_number-lt_month b a k h (sym year))
    (λ month. cmp_shift s t a.day b.day (day_number-lt_day a b h k year month) (day_number-lt_day b a k h (sym year) (sym month)) (λ e. day_number-same a b year month e)))

instant_cmp : (a b : Civil) → IsCivil a → IsCivil b → nat_cmp (instant_of a) (instant_of b) ≡ civil_cmp a b
unfolding instant_of
instant_cmp a b h k =
    let low = time_of_day_limit a h in
    let high = time_of_day_limit b k in
    let s = day_number a * day_length + time_of_day a in
    let t = day_number b * day_length + time_of_day b in
    cmp_first s t (day_number a) (day_number b) (nat_cmp (time_of_day a) (time_of_day b)) (λ e. omega arith) (λ e. omega arith)
    (λ day. cmp_shift s t (time_of_day a) (time_of_day b) (λ e. omega arith) (λ e. omega arith) (λ e. omega arith))
    ∙ rw (day_cmp a b h k, time_cmp a b h k) (ordering_then-assoc (nat_cmp a.year b.year) _ _ ∙ ap (ordering_then (nat_cmp a.year b.year)) (ordering_then-assoc (nat_cmp a.month b.month) _ _))

-- texts of instants stand in the order of the instants
pub slice_cmp-instant_text : (s t : ℕ) → IsInstant s → IsInstant t → slice_cmp nat_cmp (instant_text s) (instant_text t) ≡ nat_cmp s t
unfolding instant_text
slice_cmp-instant_text s t h k =
    let first = IsCivil-civil_of s h in
    let second = IsCivil-civil_of t k in
    slice_cmp-civil_text (civil_of s) (civil_of t) first second
    ∙ sym (instant_cmp (civil_of s) (civil_of t) first second)
    ∙ rw (instant_of-civil_of s h, instant_of-civil_of t k) refl

-- ---- what a text names, case by case

pub is_civil_to : (c : Civil) → is_civil c ≡ true → IsCivil c
unfolding is_civil
is_civil_to c h =
    let milli = and_parts _ _ h in
    let second = and_parts _ _ milli.0 in
    let minute = and_parts _ _ second.0 in
    let hour = and_parts _ _ minute.0 in
    let day_high = and_parts _ _ hour.0 in
    let day_low = and_parts _ _ day_high.0 in
    let month_high = and_parts _ _ day_low.0 in
    let month_low = and_parts _ _ month_high.0 in
    record {
      year = leb-true _ _ month_low.0;
      month_low = leb-true _ _ month_low.1;
      month_high = leb-true _ _ month_high.1;
      day_low = leb-true _ _ day_low.1;
      day_high = leb-true _ _ day_high.1;
      hour = ltb-true _ _ hour.1;
      minute = ltb-true _ _ minute.1;
      second = ltb-true _ _ second.1;
      milli = ltb-true _ _ milli.1;
    }

pub instant_at-no_form : (text : List ℕ) → has_form text ≡ false → instant_at text ≡ Err NotATime
unfolding instant_at
instant_at-no_form text h = rw h refl

pub instant_at-no_date : (text : List ℕ) → has_form text ≡ true → ¬ IsCivil (civil_parts text) → instant_at text ≡ Err OutOfRange
unfolding instant_at
instant_at-no_date text h none =
    rw (h, false_from_ne_true (is_civil (civil_parts text)) (λ e. none (is_civil_to (civil_parts text) e))) refl

pub instant_at-found : (text : List ℕ) → has_form text ≡ true → IsCivil (civil_parts text) → instant_at text ≡ Ok (instant_of (civil_parts text))
unfolding instant_at
instant_at-found text h civil = rw (h, is_civil_from (civil_parts text) civil) refl

-- the same, in the steps of the code
pub instant_at-not : (text bytes : List ℕ) (r : Bool) → bytes ≡ text → r ≡ has_form bytes → r ≡ false → instant_at text ≡ Err NotATime
instant_at-not text bytes r same is other = instant_at-no_form text (ap has_form (sym same) ∙ sym is ∙ other)

pub instant_at-None : (text bytes : List ℕ) (r : Bool) (c : Civil) → bytes ≡ text → r ≡ has_form bytes → r ≡ true → c ≡ civil_parts bytes → ¬ IsCivil c → instant_at text ≡ Err OutOfRange
instant_at-None text bytes r c same is form parts none =
    instant_at-no_date text (ap has_form (sym same) ∙ sym is ∙ form) (subst (λ x. ¬ IsCivil x) (parts ∙ ap civil_parts same) none)

pub instant_at-Some : (text bytes : List ℕ) (r : Bool) (c : Civil) (t : ℕ) → bytes ≡ text → r ≡ has_form bytes → r ≡ true → c ≡ civil_parts bytes → IsCivil c × (t ≡ instant_of c) → (instant_at text ≡ Ok t) × IsInstant t
instant_at-Some text bytes r c t same is form parts found =
    let civil : IsCivil (civil_parts text) = subst IsCivil (parts ∙ ap civil_parts same) found.0 in
    let instant : t ≡ instant_of (civil_parts text) = found.1 ∙ ap instant_of (parts ∙ ap civil_parts same) in (
      rw instant (instant_at-found text (ap has_form (sym same) ∙ sym is ∙ form) civil),
      rw instant (IsInstant-instant_of (civil_parts text) civil),
    )

-- what is read is an instant
pub IfOk-instant_at : (text : List ℕ) → IfOk (instant_at text) IsInstant
unfolding instant_at
IfOk-instant_at text =
    elim (cases_Bool (has_form text)) [
      | inl form ↦ elim (cases_Bool (is_civil (civil_parts text))) [
        | inl date ↦ rw (form, date) (IsInstant-instant_of (civil_parts text) (is_civil_to (civil_parts text) date))
        | inr none ↦ rw (form, none) tt
      ]
      | inr none ↦ rw none tt
    ]

-- the number of the passing ones, one element at a time
count_by-cons : (p : ℕ → Bool) (x : ℕ) (xs : List ℕ) → count_by p (x ∷ xs) ≡ cond (p x) 1 0 + count_by p xs
count_by-cons p x xs = sum_by-cons (λ y. cond (p y) 1 0) x xs

count_by-no : (p : ℕ → Bool) (xs : List ℕ) → position_or_len p xs ≡ length xs → count_by p xs ≡ 0
count_by-no p [] e = refl
count_by-no p (x ∷ xs) e =
    elim (cases_Bool (p x)) [
      | inl passes ↦ absurd (let none : 0 ≡ suc (length xs) = rw passes at e in omega arith)
      | inr fails ↦
          let rest : 1 + position_or_len p xs ≡ suc (length xs) = rw fails at e in
          rw (count_by-cons p x xs, fails, count_by-no p xs (omega arith)) refl
    ]

count_by-first : (p : ℕ → Bool) (xs : List ℕ) → position_or_len p xs < length xs → count_by p xs ≡ suc (count_by p (after_first p xs))
count_by-first p [] h = absurd (omega arith)
count_by-first p (x ∷ xs) h =
    elim (cases_Bool (p x)) [
      | inl passes ↦ rw (count_by-cons p x xs, passes) (omega arith)
      | inr fails ↦
          let rest : 1 + position_or_len p xs < suc (length xs) = rw fails at h in
          let shift : 1 + position_or_len p xs + 1 ≡ suc (position_or_len p xs + 1) = omega arith in
          rw (count_by-cons p x xs, fails, shift) (omega (arith, count_by-first p xs (omega arith)))
    ]

count_by-any : (p : ℕ → Bool) (xs : List ℕ) → list_any p xs ≡ true → 0 < count_by p xs
count_by-any p [] h = absurd (false≢true h)
count_by-any p (x ∷ xs) h =
    elim (or_cases (p x) (list_any p xs) h) [
      | inl passes ↦ rw (count_by-cons p x xs, passes) (omega arith)
      | inr later ↦ rw (count_by-cons p x xs) (omega (arith, count_by-any p xs later))
    ]

count_by-none : (p : ℕ → Bool) (xs : List ℕ) → list_any p xs ≡ false → count_by p xs ≡ 0
count_by-none p [] h = refl
count_by-none p (x ∷ xs) h =
    let parts = or_parts (p x) (list_any p xs) h in
    rw (count_by-cons p x xs, parts.0, count_by-none p xs parts.1) refl

abbrev ok_extent : Extent → Result Extent TimeFault
ok_extent x = Ok x

abbrev is_slash : ℕ → Bool
is_slash b = nat_eq b 47

abbrev read_start : List ℕ → Result ℕ TimeFault
read_start text = instant_at (before_first is_slash text)

abbrev read_end : List ℕ → Result ℕ TimeFault
read_end text = instant_at (after_first is_slash text)

pub extent_at-no_slash : (text : List ℕ) → position_or_len is_slash text ≡ length text → extent_at text ≡ Err NotATime
unfolding extent_at
extent_at-no_slash text none = rw (count_by-no is_slash text none) refl

pub extent_at-slashes : (text : List ℕ) → position_or_len is_slash text < length text → list_any is_slash (after_first is_slash text) ≡ true → extent_at text ≡ Err NotATime
unfolding extent_at
extent_at-slashes text first more =
    let two : count_by is_slash text ≢ 1 =
    omega (arith, count_by-first is_slash text first, count_by-any is_slash (after_first is_slash text) more) in
    rw (ne_eqb (count_by is_slash text) 1 two) refl

one_slash : (text : List ℕ) → position_or_len is_slash text < length text → list_any is_slash (after_first is_slash text) ≡ false → count_by is_slash text ≡ 1
one_slash text first last =
    omega (arith, count_by-first is_slash text first, count_by-none is_slash (after_first is_slash text) last)

pub extent_at-start_fault : (text : List ℕ) (e : TimeFault) → position_or_len is_slash text < length text → list_any is_slash (after_first is_slash text) ≡ false → read_start text ≡ Err e → extent_at text ≡ Err e
unfolding extent_at
extent_at-start_fault text e first last start = rw (one_slash text first last, start) refl

pub extent_at-end_fault : (text : List ℕ) (s : ℕ) (e : TimeFault) → position_or_len is_slash text < length text → list_any is_slash (after_first is_slash text) ≡ false → read_start text ≡ Ok s → read_end text ≡ Err e → extent_at text ≡ Err e
unfolding extent_at
extent_at-end_fault text s e first last start end = rw (one_slash text first last, start, end) refl

pub extent_at-both : (text : List ℕ) (s t : ℕ) → position_or_len is_slash text < length text → list_any is_slash (after_first is_slash text) ≡ false → read_start text ≡ Ok s → read_end text ≡ Ok t → extent_at text ≡ if nat_lt s t then Ok (record { start = s; end = t }) else Err Empty
unfolding extent_at
extent_at-both text s t first last start end = rw (one_slash text first last, start, end) refl

-- what the code sees after the first `/`
pub slashes_are : (text end bytes : List ℕ) (r v : Bool) → end ≡ after_first is_slash text → bytes ≡ end → r ≡ list_any is_slash bytes → r ≡ v → list_any is_slash (after_first is_slash text) ≡ v
slashes_are text end bytes r v cut same is e = ap (list_any is_slash) (sym (same ∙ cut)) ∙ sym is ∙ e

-- two instants make an interval, or the fault
pub extent_or_empty : (s t : ℕ) (o : Option Extent) (r : Result Extent TimeFault) → r ≡ ok_or o Empty → SomeIff o (s < t) (record { start = s; end = t }) → r ≡ if nat_lt s t then Ok (record { start = s; end = t }) else Err Empty
extent_or_empty s t None r e h =
    let late : t ≤ s = omega (arith, h) in
    rw (le-ltb s t late) e
extent_or_empty s t (Some x) r e h = rw (lt-ltb s t h.0) (e ∙ ap (λ (y : Extent). ok_extent y) h.1)

-- ---- the text of an interval

digit_no_slash : (n : ℕ) → is_slash (digit n) ≡ false
digit_no_slash n = ne_eqb (digit n) 47 (omega arith)

no_slash : (c : Civil) → AllByRecursion (λ b. is_slash b ≡ false) (civil_text c)
unfolding civil_text
no_slash c =
    (digit_no_slash _, (digit_no_slash _, (digit_no_slash _, (digit_no_slash _, (refl, (digit_no_slash _, (digit_no_slash _, (refl, (digit_no_slash _, (digit_no_slash _, (refl, (digit_no_slash _, (digit_no_slash _, (refl, (digit_no_slash _, (digit_no_slash _, (refl, (digit_no_slash _, (digit_no_slash _, (refl, (digit_no_slash _, (digit_no_slash _, (digit_no_slash _, (refl, tt))))))))))))))))))))))))

no_slash_instant : (t : ℕ) → AllByRecursion (λ b. is_slash b ≡ false) (instant_text t)
unfolding instant_text
no_slash_instant t = no_slash (civil_of t)

list_any-none : (p : ℕ → Bool) (xs : List ℕ) → AllByRecursion (λ b. p b ≡ false) xs → list_any p xs ≡ false
list_any-none p [] h = refl
list_any-none p (x ∷ xs) h = rw h.0 (list_any-none p xs h.1)

first_at : (p : ℕ → Bool) (xs ys : List ℕ) (y : ℕ) → AllByRecursion (λ b. p b ≡ false) xs → p y ≡ true → position_or_len p (xs ++ y ∷ ys) ≡ length xs
first_at p [] ys y h passes = rw passes refl
first_at p (x ∷ xs) ys y h passes = rw h.0 (omega (arith, first_at p xs ys y h.1 passes))

drop_beyond : (xs ys : List ℕ) (y : ℕ) → drop (length xs + 1) (xs ++ y ∷ ys) ≡ ys
drop_beyond [] ys y = refl
drop_beyond (x ∷ xs) ys y = let next : suc (length xs) + 1 ≡ suc (length xs + 1) = omega arith in rw next (drop_beyond xs ys y)

take_before : (xs ys : List ℕ) → take (length xs) (xs ++ ys) ≡ xs
take_before [] ys = refl
take_before (x ∷ xs) ys = ap (λ zs. x ∷ zs) (take_before xs ys)

extent_text-parts : (e : Extent) → extent_text e ≡ instant_text e.start ++ 47 ∷ instant_text e.end
unfolding extent_text
extent_text-parts e = append_assoc (instant_text e.start) (47 ∷ []) (instant_text e.end)

-- a printed interval is read back
pub extent_at-extent_text : (e : Extent) → IsExtent e → extent_at (extent_text e) ≡ Ok e
extent_at-extent_text e h =
    let s = instant_text e.start in
    let t = instant_text e.end in
    let text = s ++ 47 ∷ t in
    let place : position_or_len is_slash text ≡ length s = first_at is_slash s t 47 (no_slash_instant e.start) refl in
    let inside : position_or_len is_slash text < length text = omega (arith, place, length-append s (47 ∷ t)) in
    let before : before_first is_slash text ≡ s = rw place (take_before s (47 ∷ t)) in
    let after : after_first is_slash text ≡ t = rw place (drop_beyond s t 47) in
    let last : list_any is_slash (after_first is_slash text) ≡ false = rw after (list_any-none is_slash t (no_slash_instant e.end)) in
    let start : read_start text ≡ Ok e.start = rw before (instant_at-instant_text e.start (omega (arith, h))) in
    let end : read_end text ≡ Ok e.end = rw after (instant_at-instant_text e.end h.1) in
    ap extent_at (extent_text-parts e) ∙ extent_at-both text e.start e.end inside last start end ∙ rw (lt-ltb e.start e.end h.0) refl
