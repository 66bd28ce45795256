-- Dates and day numbers: each instant has one date and time, and each date and time one instant.
use Rattle.std.proofs.Common.{◌≡◌, ℕ, zero, suc, ◌+◌, ◌-◌, ◌*◌, ◌/◌, ◌%◌, ◌<◌, ◌≤◌, inl, inr, refl, sym, subst, ap, ◌∙◌, arith, ℤ, pos, negsuc, ◌+ℤ◌, ◌-ℤ◌, ◌≤ℤ◌, unsigned_abs, ◌^◌, to_z, of_z, w8, w16, w32, w64, Fits, lit≤}
use Rattle.std.proofs.lemmas.Bool.{cases_lt, lt-ltb, le-ltb}
use Rattle.std.proofs.lemmas.Int.{by_lt_z, to_z_pos}
use Rattle.jiff.specs.Words.{days_in_month, days_in_year}
use Rattle.jiff_core.specs.Calendar.{day_count, days_of_years, days_from_civil, days_of_months as jiff_days_of_months, IsCivilDate, IsEpochDay, IsYear}
use Rattle.jiff_core.specs.declared.civil.date.Date.{Date}
use Rattle.jiff_core.specs.Date.{epoch_day, IsYmd}
use Rattle.jiff_core.proofs.DateLemmas.{civil}
use Rattle.jiff_core.proofs.SignedLemmas.{signed_arith}
use Rattle.jiff_core.proofs.CalendarLemmas.{day_count-end, day_count-epoch, day_count-lt_year, days_of_months_all, days_from_civil-day_count}
use Rattle.jiff_core.proofs.MarchLemmas.{day_count-early}
use lib.Dec.{T}
use lib.Signed.{non_neg}
use lib.IntN.{nat_abs}
use Rattle.druid_time.specs.Civil.{Civil, IsCivil, IsWithinLimits, days_before_year, days_of_months, day_number, instant_of, civil_of, time_of_day, year_at, month_at, new_year_1970}
use Rattle.druid_time.specs.Instant.{IsInstant, day_length, unix_epoch}

-- ---- the days before a year and a month

pub days_before_year-suc : (y : ℕ) → days_before_year (suc y) ≡ days_before_year y + days_in_year (pos y)
unfolding days_before_year
days_before_year-suc y = refl

pub days_of_months-suc : (y m : ℕ) → days_of_months y (suc m) ≡ days_of_months y m + days_in_month (pos y) (suc m)
unfolding days_of_months
days_of_months-suc y m = refl

days_before_year-add : (y k : ℕ) → days_before_year y ≤ days_before_year (k + y)
days_before_year-add y zero = let same : 0 + y ≡ y = omega arith in rw same (omega arith)
days_before_year-add y (suc k) =
    let next : suc k + y ≡ suc (k + y) = omega arith in
    rw next (omega (arith, days_before_year-add y k, days_before_year-suc (k + y)))

-- a year ends before the next begins
days_before_year-later : (y later : ℕ) → y < later → days_before_year y + days_in_year (pos y) ≤ days_before_year later
days_before_year-later y later h =
    let same : later - suc y + suc y ≡ later = omega arith in
    omega (arith, rw same at (days_before_year-add (suc y) (later - suc y)), days_before_year-suc y)

days_of_months-add : (y m k : ℕ) → days_of_months y m ≤ days_of_months y (k + m)
days_of_months-add y m zero = let same : 0 + m ≡ m = omega arith in rw same (omega arith)
days_of_months-add y m (suc k) =
    let next : suc k + m ≡ suc (k + m) = omega arith in
    rw next (omega (arith, days_of_months-add y m k, days_of_months-suc y (k + m)))

-- and a month before the next
days_of_months-later : (y m later : ℕ) → m < later → days_of_months y m + days_in_month (pos y) (suc m) ≤ days_of_months y later
days_of_months-later y m later h =
    let same : later - suc m + suc m ≡ later = omega arith in
    omega (arith, rw same at (days_of_months-add y (suc m) (later - suc m)), days_of_months-suc y m)

-- ---- the calendar of `jiff`

pub days_of_months-jiff : (y m : ℕ) → days_of_months y m ≡ jiff_days_of_months (pos y) m
unfolding days_of_months jiff_days_of_months
days_of_months-jiff y zero = refl
days_of_months-jiff y (suc m) = ap (λ n. n + days_in_month (pos y) (suc m)) (days_of_months-jiff y m)

pub days_of_months-year : (y : ℕ) → days_of_months y 12 ≡ days_in_year (pos y)
days_of_months-year y = days_of_months-jiff y 12 ∙ days_of_months_all (pos y)

year_shift : (y : ℕ) → pos (y + 10000) -ℤ pos 10000 ≡ pos y
year_shift y = omega (arith, signed_arith)

days_of_years-next : (n : ℕ) → days_of_years (suc n) ≡ days_of_years n + days_in_year (pos n -ℤ pos 10000)
unfolding days_of_years
days_of_years-next n = refl

-- `jiff` counts its years from -10000
pub days_before_year-jiff : (y : ℕ) → days_of_years (y + 10000) ≡ days_before_year y + days_of_years 10000
days_before_year-jiff zero = unfold days_before_year in omega arith
days_before_year-jiff (suc y) =
    let next : suc y + 10000 ≡ suc (y + 10000) = omega arith in
    rw next (days_of_years-next (y + 10000) ∙ ap (λ z. days_of_years (y + 10000) + days_in_year z) (year_shift y) ∙ omega (arith, days_before_year-jiff y, days_before_year-suc y))

-- a day count of `jiff` in our words
day_count-parts : (y m d : ℕ) → day_count (pos y) m d ≡ days_before_year y + days_of_years 10000 + (days_of_months y (m - 1) + d - 1)
unfolding day_count
day_count-parts y m d =
    let year : unsigned_abs (pos y +ℤ pos 10000) ≡ y + 10000 = refl in
    rw (← days_of_months-jiff y (m - 1), days_before_year-jiff y) refl

days_before_zero : days_before_year 0 ≡ 0
unfolding days_before_year
days_before_zero = refl

no_months : (y : ℕ) → days_of_months y 0 ≡ 0
unfolding days_of_months
no_months y = refl

before_zero : days_of_years 10000 ≡ 3_652_425
before_zero =
    let first : day_count (pos 0) 1 1 ≡ 3_652_425 = day_count-early (pos 0) 9999 1 1 refl (omega arith) (omega arith) (omega arith) in
    omega (arith, day_count-parts 0 1 1, no_months 0, days_before_zero)

-- the days of the years 0 to 9999
pub days_before_year-end : days_before_year 10000 ≡ 3_652_425
days_before_year-end =
    omega (arith, day_count-parts 10000 1 1, day_count-end, no_months 10000, before_zero)

-- the day number of `jiff` counts from 1970
pub day_number-jiff : (c : Civil) → 1 ≤ c.day → pos (day_number c) ≡ days_from_civil (pos c.year) c.month c.day +ℤ pos 719_528
unfolding day_number
day_number-jiff c low =
    omega (arith, signed_arith, days_from_civil-day_count (pos c.year) c.month c.day, day_count-parts c.year c.month c.day, before_zero)

-- ---- a day of the years 0 to 9999 is one day of one month of one year

-- a day within the year y is found there
year_at-finds : (n k d y r : ℕ) → d + days_before_year k ≡ days_before_year y + r → k ≤ y → y < k + n → r < days_in_year (pos y) → year_at n k d ≡ (y, r)
unfolding year_at
year_at-finds zero k d y r e low high within = absurd (omega arith)
year_at-finds (suc n) k d y r e low high within =
    elim (cases_lt k y) [
      | inl before ↦
          let later = days_before_year-later k y before in
          let past : days_in_year (pos k) ≤ d = omega arith in
          rw (le-ltb d (days_in_year (pos k)) past)
          (year_at-finds n (suc k) (d - days_in_year (pos k)) y r (omega (arith, days_before_year-suc k)) (omega arith) (omega arith) within)
      | inr reached ↦
          let same : y ≡ k = omega arith in
          let place : r ≡ d = omega (arith, ap days_before_year same) in
          rw (same, place) (let here : d < days_in_year (pos k) = rw (same, place) at within in rw (lt-ltb d (days_in_year (pos k)) here) refl)
    ]

-- a day within the month j + 1 is found there
month_at-finds : (n y k d j r : ℕ) → d + days_of_months y k ≡ days_of_months y j + r → k ≤ j → j < k + n → r < days_in_month (pos y) (suc j) → month_at n y (suc k) d ≡ (suc j, r)
unfolding month_at
month_at-finds zero y k d j r e low high within = absurd (omega arith)
month_at-finds (suc n) y k d j r e low high within =
    elim (cases_lt k j) [
      | inl before ↦
          let later = days_of_months-later y k j before in
          let past : days_in_month (pos y) (suc k) ≤ d = omega arith in
          rw (le-ltb d (days_in_month (pos y) (suc k)) past)
          (month_at-finds n y (suc k) (d - days_in_month (pos y) (suc k)) j r (omega (arith, days_of_months-suc y k)) (omega arith) (omega arith) within)
      | inr reached ↦
          let same : j ≡ k = omega arith in
          let place : r ≡ d = omega (arith, ap (days_of_months y) same) in
          rw (same, place) (let here : d < days_in_month (pos y) (suc k) = rw (same, place) at within in rw (lt-ltb d (days_in_month (pos y) (suc k)) here) refl)
    ]

-- what `year_at` finds is a day within a year
pub record IsInYear (k n d y r : ℕ) : Type 0 where
  pub within : r < days_in_year (pos y)
  pub same : d + days_before_year k ≡ days_before_year y + r
  pub high : y < k + n

year_at-found : (n k d : ℕ) → d + days_before_year k < days_before_year (n + k) → IsInYear k n d (year_at n k d).0 (year_at n k d).1
unfolding year_at
year_at-found zero k d h = let same : 0 + k ≡ k = omega arith in absurd (omega (arith, ap days_before_year same))
year_at-found (suc n) k d h =
    elim (cases_lt d (days_in_year (pos k))) [
      | inl here ↦ rw (lt-ltb d (days_in_year (pos k)) here) (record { within = here; same = omega arith; high = omega arith })
      | inr past ↦
          let shift : suc n + k ≡ n + suc k = omega arith in
          let found = year_at-found n (suc k) (d - days_in_year (pos k)) (omega (arith, days_before_year-suc k, ap days_before_year shift)) in
          rw (le-ltb d (days_in_year (pos k)) past) (record { within = found.within; same = omega (arith, found.same, days_before_year-suc k); high = omega (arith, found.high) })
    ]

-- and what `month_at` finds is a day within a month
pub record IsInMonth (y k n d m r : ℕ) : Type 0 where
  pub within : r < days_in_month (pos y) m
  pub same : d + days_of_months y k ≡ days_of_months y (m - 1) + r
  pub low : k < m
  pub high : m ≤ k + n

month_at-found : (n y k d : ℕ) → d + days_of_months y k < days_of_months y (n + k) → IsInMonth y k n d (month_at n y (suc k) d).0 (month_at n y (suc k) d).1
unfolding month_at
month_at-found zero y k d h = let same : 0 + k ≡ k = omega arith in absurd (omega (arith, ap (days_of_months y) same))
month_at-found (suc n) y k d h =
    elim (cases_lt d (days_in_month (pos y) (suc k))) [
      | inl here ↦
          let back : suc k - 1 ≡ k = omega arith in
          rw (lt-ltb d (days_in_month (pos y) (suc k)) here) (record { within = here; same = omega (arith, ap (days_of_months y) back); low = omega arith; high = omega arith })
      | inr past ↦
          let shift : suc n + k ≡ n + suc k = omega arith in
          let found = month_at-found n y (suc k) (d - days_in_month (pos y) (suc k)) (omega (arith, days_of_months-suc y k, ap (days_of_months y) shift)) in
          rw (le-ltb d (days_in_month (pos y) (suc k)) past) (record { within = found.within; same = omega (arith, found.same, days_of_months-suc y k); low = omega (arith, found.low); high = omega (arith, found.high) })
    ]

-- ---- instants

-- the day lies in its year
day_number_bounds : (c : Civil) → IsCivil c → (day_number c < days_before_year c.year + days_in_year (pos c.year)) × (days_before_year c.year ≤ day_number c)
unfolding day_number
day_number_bounds c h =
    let last : c.month - 1 < 12 = omega (arith, h.month_low, h.month_high) in
    let month : suc (c.month - 1) ≡ c.month = omega (arith, h.month_low) in
    let later = rw month at (days_of_months-later c.year (c.month - 1) 12 last) in
    omega (arith, h.day_low, h.day_high, later, days_of_months-year c.year)

pub day_number-lt_year : (a b : Civil) → IsCivil a → IsCivil b → a.year < b.year → day_number a < day_number b
day_number-lt_year a b h k lt =
    omega (arith, day_number_bounds a h, day_number_bounds b k, days_before_year-later a.year b.year lt)

pub day_number-lt_month : (a b : Civil) → IsCivil a → IsCivil b → a.year ≡ b.year → a.month < b.month → day_number a < day_number b
unfolding day_number
day_number-lt_month a b h k year lt =
    let before : a.month - 1 < b.month - 1 = omega (arith, h.month_low) in
    let month : suc (a.month - 1) ≡ a.month = omega (arith, h.month_low) in
    let later = rw month at (days_of_months-later a.year (a.month - 1) (b.month - 1) before) in
    rw (← year) (omega (arith, later, h.day_low, h.day_high, k.day_low))

pub day_number-lt_day : (a b : Civil) → IsCivil a → IsCivil b → a.year ≡ b.year → a.month ≡ b.month → a.day < b.day → day_number a < day_number b
unfolding day_number
day_number-lt_day a b h k year month lt = rw (← year, ← month) (omega (arith, h.day_low))

pub day_number-same : (a b : Civil) → a.year ≡ b.year → a.month ≡ b.month → a.day ≡ b.day → day_number a ≡ day_number b
unfolding day_number
day_number-same a b year month day = rw (year, month, day) refl

day_number_limit : (c : Civil) → IsCivil c → day_number c < 3_652_425
day_number_limit c h =
    let year : c.year < 10000 = omega (arith, h.year) in
    omega (arith, day_number_bounds c h, days_before_year-later c.year 10000 year, days_before_year-end)

pub time_of_day_limit : (c : Civil) → IsCivil c → time_of_day c < day_length
time_of_day_limit c h = omega (arith, h.hour, h.minute, h.second, h.milli)

-- a date and a time of the calendar name an instant
pub IsInstant-instant_of : (c : Civil) → IsCivil c → IsInstant (instant_of c)
unfolding instant_of
IsInstant-instant_of c h = omega (arith, day_number_limit c h, time_of_day_limit c h)

pub civil_same : (a b : Civil) → a.year ≡ b.year → a.month ≡ b.month → a.day ≡ b.day → a.hour ≡ b.hour → a.minute ≡ b.minute → a.second ≡ b.second → a.milli ≡ b.milli → a ≡ b
civil_same a b year month day hour minute second milli i = record { year = year i; month = month i; day = day i; hour = hour i; minute = minute i; second = second i; milli = milli i }

time_of_day-read : (t day h m s ms : ℕ) → t ≡ day * 86_400_000 + (((h * 60 + m) * 60 + s) * 1000 + ms) → h < 24 → m < 60 → s < 60 → ms < 1000 → (t / 86_400_000 ≡ day) × (h ≡ t % 86_400_000 / 3_600_000) × (m ≡ t % 3_600_000 / 60_000) × (s ≡ t % 60_000 / 1000) × (ms ≡ t % 1000)
time_of_day-read t day h m s ms e hour minute second milli =
    let low : t % 1000 ≡ ms = omega arith in
    let seconds : t / 1000 ≡ ((day * 24 + h) * 60 + m) * 60 + s = omega arith in
    let minutes : t / 60_000 ≡ (day * 24 + h) * 60 + m = omega arith in
    let hours : t / 3_600_000 ≡ day * 24 + h = omega arith in
    (omega arith, omega arith, omega arith, omega arith, omega arith)

civil_of-parts : (t y r m q : ℕ) → year_at 10_000 0 (t / day_length) ≡ (y, r) → month_at 12 y 1 r ≡ (m, q) → civil_of t ≡ record { year = y; month = m; day = q + 1; hour = t % day_length / 3_600_000; minute = t % 3_600_000 / 60_000; second = t % 60_000 / 1000; milli = t % 1000 }
unfolding civil_of
civil_of-parts t y r m q e f = rw e (rw f refl)

-- a date and a time are read off their instant again
civil_of-found : (c : Civil) (t : ℕ) → IsCivil c → t ≡ day_number c * day_length + time_of_day c → civil_of t ≡ c
unfolding day_number
civil_of-found c t h e =
    let r = days_of_months c.year (c.month - 1) + (c.day - 1) in
    let time = time_of_day-read t (day_number c) c.hour c.minute c.second c.milli e h.hour h.minute h.second h.milli in
    let last : c.month - 1 < 12 = omega (arith, h.month_low, h.month_high) in
    let month : suc (c.month - 1) ≡ c.month = omega (arith, h.month_low) in
    let within : c.day - 1 < days_in_month (pos c.year) c.month = omega (arith, h.day_low, h.day_high) in
    let later = rw month at (days_of_months-later c.year (c.month - 1) 12 last) in
    let year_found : year_at 10_000 0 (t / day_length) ≡ (c.year, r) =
    year_at-finds 10_000 0 (t / day_length) c.year r (omega (arith, time.0, days_before_zero)) (omega arith) (omega (arith, h.year)) (omega (arith, later, days_of_months-year c.year)) in
    let month_found : month_at 12 c.year 1 r ≡ (c.month, c.day - 1) =
    rw month at (month_at-finds 12 c.year 0 r (c.month - 1) (c.day - 1) (omega (arith, no_months c.year)) (omega arith) (omega arith) (rw month within)) in
    civil_of-parts t c.year r c.month (c.day - 1) year_found month_found
    ∙ civil_same _ c refl refl (omega (arith, h.day_low)) (sym time.1) (sym time.2) (sym time.3) (sym time.4)

pub civil_of-instant_of : (c : Civil) → IsCivil c → civil_of (instant_of c) ≡ c
unfolding instant_of
civil_of-instant_of c h = civil_of-found c (instant_of c) h refl

-- what `civil_of` finds
record IsFound (t : ℕ) (c : Civil) : Type 0 where
  pub civil : IsCivil c
  pub day : day_number c ≡ t / day_length
  pub hour : c.hour ≡ t % day_length / 3_600_000
  pub minute : c.minute ≡ t % 3_600_000 / 60_000
  pub second : c.second ≡ t % 60_000 / 1000
  pub milli : c.milli ≡ t % 1000

civil_of-is : (t : ℕ) → IsInstant t → IsFound t (civil_of t)
unfolding civil_of day_number
civil_of-is t h =
    let day = t / day_length in
    let y = (year_at 10_000 0 day).0 in
    let r = (year_at 10_000 0 day).1 in
    let limit : day + days_before_year 0 < days_before_year (10_000 + 0) = omega (arith, days_before_zero, days_before_year-end) in
    let year = year_at-found 10_000 0 day limit in
    let month_limit : r + days_of_months y 0 < days_of_months y (12 + 0) = omega (arith, no_months y, year.within, days_of_months-year y) in
    let month = month_at-found 12 y 0 r month_limit in
    record {
      civil = record {
        year = omega (arith, year.high);
        month_low = omega (arith, month.low);
        month_high = omega (arith, month.high);
        day_low = omega arith;
        day_high = omega (arith, month.within);
        hour = omega arith;
        minute = omega arith;
        second = omega arith;
        milli = omega arith;
      };
      day = omega (arith, year.same, month.same, no_months y, days_before_zero);
      hour = refl;
      minute = refl;
      second = refl;
      milli = refl;
    }

pub IsCivil-civil_of : (t : ℕ) → IsInstant t → IsCivil (civil_of t)
IsCivil-civil_of t h = (civil_of-is t h).civil

time_of_day-sum : (t h m s ms : ℕ) → h ≡ t % 86_400_000 / 3_600_000 → m ≡ t % 3_600_000 / 60_000 → s ≡ t % 60_000 / 1000 → ms ≡ t % 1000 → t / 86_400_000 * 86_400_000 + (((h * 60 + m) * 60 + s) * 1000 + ms) ≡ t
time_of_day-sum t h m s ms hour minute second milli = omega arith

-- each instant is that of its date and time
pub instant_of-civil_of : (t : ℕ) → IsInstant t → instant_of (civil_of t) ≡ t
unfolding instant_of
instant_of-civil_of t h =
    let found = civil_of-is t h in
    rw found.day (time_of_day-sum t _ _ _ _ found.hour found.minute found.second found.milli)

-- ---- the dates of `jiff`

pub first_day : days_from_civil (pos 0) 1 1 +ℤ pos 719_528 ≡ pos 0
first_day =
    omega (arith, signed_arith, days_from_civil-day_count (pos 0) 1 1, day_count-parts 0 1 1, no_months 0, days_before_zero, before_zero)

-- a day on or after 0000-01-01 has no negative year
pub year_not_negative : (y : ℤ) (m d n : ℕ) → IsCivilDate y m d → days_from_civil y m d ≡ days_from_civil (pos 0) 1 1 +ℤ pos n → pos 0 ≤ℤ y
year_not_negative y m d n h e =
    by_lt_z y (pos 0)
    (λ lt. absurd (omega (arith, signed_arith, day_count-lt_year y m d (pos 0) 1 1 h (omega arith) lt, days_from_civil-day_count y m d, days_from_civil-day_count (pos 0) 1 1)))
    (λ le. le)

civil_of-same_year : (c : Civil) (t : ℕ) → IsCivilDate (pos c.year) c.month c.day → days_from_civil (pos c.year) c.month c.day ≡ days_from_civil (pos 0) 1 1 +ℤ pos (t / 86_400_000) → c.hour ≡ t % 86_400_000 / 3_600_000 → c.minute ≡ t % 3_600_000 / 60_000 → c.second ≡ t % 60_000 / 1000 → c.milli ≡ t % 1000 → civil_of t ≡ c
civil_of-same_year c t date e hour minute second milli =
    let civil : IsCivil c = record {
      year = omega (arith, signed_arith, date.0);
      month_low = date.1.0;
      month_high = date.1.1;
      day_low = date.2.0;
      day_high = date.2.1;
      hour = omega arith;
      minute = omega arith;
      second = omega arith;
      milli = omega arith;
    } in
    let day : day_number c ≡ t / 86_400_000 = omega (arith, signed_arith, day_number-jiff c date.2.0, first_day) in
    civil_of-found c t civil (rw day (sym (time_of_day-sum t _ _ _ _ hour minute second milli)))

-- the day that lies that many days after 0000-01-01 has the date of the instants in it
pub civil_of-date : (c : Civil) (t : ℕ) (y : ℤ) → y ≡ pos c.year → IsCivilDate y c.month c.day → days_from_civil y c.month c.day ≡ days_from_civil (pos 0) 1 1 +ℤ pos (t / 86_400_000) → c.hour ≡ t % 86_400_000 / 3_600_000 → c.minute ≡ t % 3_600_000 / 60_000 → c.second ≡ t % 60_000 / 1000 → c.milli ≡ t % 1000 → civil_of t ≡ c
civil_of-date c t y year date e =
    civil_of-same_year c t (let P : ℤ → Type 0 = λ z. IsCivilDate z c.month c.day in subst P year date) (let Q : ℤ → Type 0 = λ z. days_from_civil z c.month c.day ≡ days_from_civil (pos 0) 1 1 +ℤ pos (t / 86_400_000) in subst Q year e)

-- the sum of a day number and a number of days, as the code makes it
pub days_later : (start day : ℤ) (n : ℕ) → start ≡ days_from_civil (pos 0) 1 1 → n < 2 ^ 63 → day ≡ start +ℤ to_z w64 n → day ≡ days_from_civil (pos 0) 1 1 +ℤ pos n
days_later start day n s h e = rw (← s, ← to_z_pos w64 n h) e

pub epoch_day-limit : (start : ℤ) (n : ℕ) → start ≡ days_from_civil (pos 0) 1 1 → n < 3_652_425 → IsEpochDay (start +ℤ to_z w64 n)
epoch_day-limit start n s h =
    let small : n < 2 ^ 63 = omega arith in
    rw (s, to_z_pos w64 n small) (omega (arith, signed_arith, first_day))

year_cast : (y : ℤ) → IsYear y → pos 0 ≤ℤ y → (y ≡ pos (nat_abs (to_z w16 (of_z w16 y)))) × (T (non_neg (to_z w16 (of_z w16 y))) × Fits w32 (nat_abs (to_z w16 (of_z w16 y))))
year_cast (pos a) h low =
    let small : a < 2 ^ 15 = omega (arith, signed_arith) in
    let fits : Fits w32 a = omega arith in
    rw (to_z_pos w16 a small) (refl, (tt, fits))
year_cast (negsuc a) h low = absurd (omega (arith, signed_arith))

-- a year that is not negative, as the code casts it
pub year_of : (y : ℤ) (m d n : ℕ) → IsCivilDate y m d → days_from_civil y m d ≡ days_from_civil (pos 0) 1 1 +ℤ pos n → (y ≡ pos (nat_abs (to_z w16 (of_z w16 y)))) × (T (non_neg (to_z w16 (of_z w16 y))) × Fits w32 (nat_abs (to_z w16 (of_z w16 y))))
year_of y m d n h e = year_cast y h.0 (year_not_negative y m d n h e)

civil_date_same : (y z : ℤ) (m n d e : ℕ) → y ≡ z → m ≡ n → d ≡ e → IsCivilDate y m d → IsCivilDate z n e
civil_date_same y z m n d e year month day h =
    let Y : ℤ → Type 0 = λ x. IsCivilDate x m d in
    let M : ℕ → Type 0 = λ x. IsCivilDate z x d in
    let D : ℕ → Type 0 = λ x. IsCivilDate z n x in
    subst D day (subst M month (subst Y year h))

-- the days from 0000-01-01 to the date of `jiff` with the parts of c
pub days_until : (c : Civil) (start d : Date) (y m k : ℕ) (r : ℤ) → IsWithinLimits c → y ≡ c.year → m ≡ c.month → k ≡ c.day → epoch_day start ≡ days_from_civil (pos 0) 1 1 → IsYmd (to_z w16 y) (to_z w8 m) (to_z w8 k) d → r ≡ epoch_day d -ℤ epoch_day start → (r ≡ pos (day_number c)) × IsCivil c
days_until c start d y m k r h ey em ek s parts e =
    let year_small : c.year < 2 ^ 15 = omega (arith, h) in
    let month_small : c.month < 2 ^ 7 = omega (arith, h) in
    let day_small : c.day < 2 ^ 7 = omega (arith, h) in
    let year : d.year ≡ pos c.year = parts.0 ∙ ap (to_z w16) ey ∙ to_z_pos w16 c.year year_small in
    let month : d.month ≡ c.month = let p = parts.1 ∙ ap (to_z w8) em ∙ to_z_pos w8 c.month month_small in cc in
    let day : d.day ≡ c.day = let p = parts.2 ∙ ap (to_z w8) ek ∙ to_z_pos w8 c.day day_small in cc in
    let date : IsCivilDate (pos c.year) c.month c.day = civil_date_same d.year (pos c.year) d.month c.month d.day c.day year month day (civil d) in
    let number : epoch_day d ≡ days_from_civil (pos c.year) c.month c.day = rw (year, month, day) refl in (
      rw e (omega (arith, signed_arith, day_number-jiff c date.2.0, first_day, number, s)),
      record {
        year = h.0;
        month_low = date.1.0;
        month_high = h.1;
        day_low = date.2.0;
        day_high = date.2.1;
        hour = h.3;
        minute = h.4;
        second = h.5;
        milli = h.6;
      },
    )

-- as the code casts it
pub days_cast : (c : Civil) (r : ℤ) → IsCivil c → r ≡ pos (day_number c) → (nat_abs (to_z w32 (of_z w32 r)) ≡ day_number c) × (T (non_neg (to_z w32 (of_z w32 r))) × Fits w64 (nat_abs (to_z w32 (of_z w32 r))))
days_cast c r h e =
    let limit = day_number_limit c h in
    let small : day_number c < 2 ^ 31 = omega (arith, limit) in
    let fits : Fits w64 (day_number c) = omega (arith, limit) in
    rw e (rw (to_z_pos w32 (day_number c) small) (refl, (tt, fits)))

-- 1970 begins 719,528 days after the year 0
pub instant_of-1970 : instant_of new_year_1970 ≡ unix_epoch
unfolding instant_of
instant_of-1970 =
    let days : day_number new_year_1970 ≡ 719_528 =
    omega (arith, signed_arith, day_number-jiff new_year_1970 (lit≤ tt), days_from_civil-day_count (pos 1970) 1 1, day_count-epoch) in
    rw days refl
