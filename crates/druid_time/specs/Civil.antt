-- Civil dates and times of the years 0000 to 9999, in UTC, on the proleptic Gregorian calendar.
use Rattle.std.specs.Prelude.{ℕ, zero, suc, ◌+◌, ◌-◌, ◌*◌, ◌/◌, ◌%◌, ◌<◌, ◌≤◌, Bool, ◌&&◌, pos, nat_lt, nat_le, if◌then◌else◌}
use Rattle.jiff.specs.Words.{days_in_month, days_in_year}
use Rattle.druid_time.specs.Instant.{day_length}

pub record Civil : Type 0 where
  pub year : ℕ
  pub month : ℕ
  pub day : ℕ
  pub hour : ℕ
  pub minute : ℕ
  pub second : ℕ
  pub milli : ℕ

-- the calendar has this day, and the day this time
pub record IsCivil (c : Civil) : Type 0 where
  pub year : c.year ≤ 9999
  pub month_low : 1 ≤ c.month
  pub month_high : c.month ≤ 12
  pub day_low : 1 ≤ c.day
  pub day_high : c.day ≤ days_in_month (pos c.year) c.month
  pub hour : c.hour < 24
  pub minute : c.minute < 60
  pub second : c.second < 60
  pub milli : c.milli < 1000

-- no part is above the largest that some date or time has
abbrev pub IsWithinLimits : Civil → Type 0
IsWithinLimits c =
    (c.year ≤ 9999) × (c.month ≤ 12) × (c.day ≤ 31) × (c.hour < 24) × (c.minute < 60) × (c.second < 60)
    × (c.milli < 1000)

-- the test of `IsCivil`
unfoldable pub is_civil : Civil → Bool
is_civil c =
    nat_le c.year 9999 && nat_le 1 c.month && nat_le c.month 12 && nat_le 1 c.day
    && nat_le c.day (days_in_month (pos c.year) c.month) && nat_lt c.hour 24 && nat_lt c.minute 60
    && nat_lt c.second 60 && nat_lt c.milli 1000

-- the days of the years from 0 to the one before
unfoldable pub days_before_year : ℕ → ℕ
days_before_year zero = 0
days_before_year (suc y) = days_before_year y + days_in_year (pos y)

-- the days of the first m months of a year
unfoldable pub days_of_months : ℕ → ℕ → ℕ
days_of_months y zero = 0
days_of_months y (suc m) = days_of_months y m + days_in_month (pos y) (suc m)

-- how many days lie between 0000-01-01 and the date
unfoldable pub day_number : Civil → ℕ
day_number c = days_before_year c.year + days_of_months c.year (c.month - 1) + (c.day - 1)

-- the milliseconds since the day began
abbrev pub time_of_day : Civil → ℕ
time_of_day c = ((c.hour * 60 + c.minute) * 60 + c.second) * 1000 + c.milli

-- the instant that a date and a time name
unfoldable pub instant_of : Civil → ℕ
instant_of c = day_number c * day_length + time_of_day c

-- 1970-01-01T00:00:00.000Z
abbrev pub new_year_1970 : Civil
new_year_1970 =
    record { year = 1970; month = 1; day = 1; hour = 0; minute = 0; second = 0; milli = 0 }

-- the year of the day that lies d days after the start of the year y, and its place in it, from 0: a year at a
-- time, at most n of them
unfoldable pub year_at : ℕ → ℕ → ℕ → ℕ × ℕ
year_at zero y d = (y, d)
year_at (suc n) y d =
    if nat_lt d (days_in_year (pos y)) then (y, d) else year_at n (suc y) (d - days_in_year (pos y))

-- the month of the day that lies d days after the start of the month m, and its place in it, from 0: a month
-- at a time
unfoldable pub month_at : ℕ → ℕ → ℕ → ℕ → ℕ × ℕ
month_at zero y m d = (m, d)
month_at (suc n) y m d =
    if nat_lt d (days_in_month (pos y) m) then (m, d) else month_at n y (suc m) (d - days_in_month (pos y) m)

-- the date and the time of an instant
unfoldable pub civil_of : ℕ → Civil
civil_of t =
    let in_year = year_at 10_000 0 (t / day_length) in
    let in_month = month_at 12 in_year.0 1 in_year.1 in
    record {
      year = in_year.0;
      month = in_month.0;
      day = in_month.1 + 1;
      hour = t % day_length / 3_600_000;
      minute = t % 3_600_000 / 60_000;
      second = t % 60_000 / 1000;
      milli = t % 1000;
    }
