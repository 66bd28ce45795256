-- The texts of instants and intervals. They are ASCII, and a text is its bytes.
use Rattle.std.specs.Prelude.{ℕ, ◌+◌, ◌-◌, ◌*◌, ◌/◌, ◌%◌, Bool, true, false, ◌&&◌, ◌==◌, List, [], ◌∷◌, ◌++◌, length, take, drop, fold, count_by, codes, nat_lt, nat_le, if◌then◌else◌, Result, Ok, Err}
use Rattle.std.specs.Char.{is_ascii_digit}
use Rattle.std.specs.List.{list_any, before_first, after_first}
use Rattle.druid_time.specs.Civil.{Civil, is_civil, instant_of, civil_of}
use Rattle.druid_time.specs.Extent.{Extent}
use Rattle.druid_time.specs.Results.{◌>>=◌}
use Rattle.druid_time.specs.declared.fault.TimeFault.{TimeFault}
use Rattle.druid_time.specs.declared.fault.TimeFault.TheVariants.{NotATime, OutOfRange, Empty}

-- ---- written

-- the last digit of a number
abbrev pub digit : ℕ → ℕ
digit n = 48 + n % 10

abbrev pub two_digits : ℕ → List ℕ
two_digits n = digit (n / 10) ∷ digit n ∷ []

abbrev pub three_digits : ℕ → List ℕ
three_digits n = digit (n / 100) ∷ two_digits n

abbrev pub four_digits : ℕ → List ℕ
four_digits n = digit (n / 1000) ∷ three_digits n

-- `YYYY-MM-DDTHH:MM:SS.mmmZ`
unfoldable pub civil_text : Civil → List ℕ
civil_text c =
    four_digits c.year ++ codes "-" ++ two_digits c.month ++ codes "-" ++ two_digits c.day ++ codes "T"
    ++ two_digits c.hour ++ codes ":" ++ two_digits c.minute ++ codes ":" ++ two_digits c.second ++ codes "."
    ++ three_digits c.milli ++ codes "Z"

-- the printed form of an instant, of 24 bytes
unfoldable pub instant_text : ℕ → List ℕ
instant_text t = civil_text (civil_of t)

-- the printed form of an interval
unfoldable pub extent_text : Extent → List ℕ
extent_text e = instant_text e.start ++ codes "/" ++ instant_text e.end

-- ---- read

-- a byte of a text fits the byte of a form: a `d` stands for a digit, and each other byte for itself
abbrev pub byte_fits : ℕ → ℕ → Bool
byte_fits f b = if f == 100 then is_ascii_digit b else b == f

-- the text has this form
unfoldable pub fits_form : List ℕ → List ℕ → Bool
fits_form [] [] = true
fits_form [] (b ∷ bs) = false
fits_form (f ∷ fs) [] = false
fits_form (f ∷ fs) (b ∷ bs) = byte_fits f b && fits_form fs bs

-- the forms in which an instant is read
abbrev pub forms : List (List ℕ)
forms =
    codes "dddd-dd-dd" ∷ codes "dddd-dd-ddTdd:dd" ∷ codes "dddd-dd-ddTdd:ddZ" ∷ codes "dddd-dd-ddTdd:dd:dd"
    ∷ codes "dddd-dd-ddTdd:dd:ddZ" ∷ codes "dddd-dd-ddTdd:dd:dd.ddd" ∷ codes "dddd-dd-ddTdd:dd:dd.dddZ" ∷ []

unfoldable pub has_form : List ℕ → Bool
has_form text = list_any (λ form. fits_form form text) forms

-- the number that digits spell
abbrev pub digits_value : List ℕ → ℕ
digits_value ds = fold (λ n b. n * 10 + (b - 48)) 0 ds

-- the number in the n digits from place i on, and 0 where the text ends before them
abbrev pub number_at : ℕ → ℕ → List ℕ → ℕ
number_at i n text = if nat_le (i + n) (length text) then digits_value (take n (drop i text)) else 0

-- what the parts of a text of one of the forms say; what is left out is 0
unfoldable pub civil_parts : List ℕ → Civil
civil_parts text = record {
  year = number_at 0 4 text;
  month = number_at 5 2 text;
  day = number_at 8 2 text;
  hour = number_at 11 2 text;
  minute = number_at 14 2 text;
  second = number_at 17 2 text;
  milli = number_at 20 3 text;
}

-- the instant that a text names: first its form is looked at, and then whether there is such a day and time
unfoldable pub instant_at : List ℕ → Result ℕ TimeFault
instant_at text =
    if has_form text
    then (if is_civil (civil_parts text) then Ok (instant_of (civil_parts text)) else Err OutOfRange)
    else Err NotATime

-- the interval that a text names: two instants round the one `/`, the start before the end
unfoldable pub extent_at : List ℕ → Result Extent TimeFault
extent_at text =
    if count_by (λ b. b == 47) text == 1
    then (
    do
      start ← instant_at (before_first (λ b. b == 47) text)
      end ← instant_at (after_first (λ b. b == 47) text)
      if nat_lt start end then Ok (record { start = start; end = end }) else Err Empty
    )
    else Err NotATime
