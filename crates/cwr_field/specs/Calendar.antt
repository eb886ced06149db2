-- Days of the Gregorian calendar and times of a day, as the numbers that YYYYMMDD and HHMMSS spell.
use Rattle.std.specs.Prelude.{ℕ, ◌/◌, ◌%◌, Bool, not, ◌&&◌, ◌||◌, ◌==◌, nat_le, nat_lt, List, Option, Some, None, option_and_then, if◌then◌else◌}
use Rattle.cwr_field.specs.Number.{number_of}

-- a leap year: divisible by 4, and where it is divisible by 100 also by 400
abbrev pub is_leap_year : ℕ → Bool
is_leap_year year = (year % 4 == 0) && (not (year % 100 == 0) || (year % 400 == 0))

-- the number of days of a month, from 1 to 12, of a year
abbrev pub days_in_month : ℕ → ℕ → ℕ
days_in_month year month =
    if month == 2 then (if is_leap_year year then 29 else 28)
    else (if (month == 4) || (month == 6) || (month == 9) || (month == 11) then 30 else 31)

-- year, month and day are a day of the calendar, in the years 1 to 9999
abbrev pub is_date : ℕ → ℕ → ℕ → Bool
is_date year month day =
    (nat_le 1 year && nat_le year 9999) && (nat_le 1 month && nat_le month 12)
    && (nat_le 1 day && nat_le day (days_in_month year month))

-- the number, whose digits are YYYYMMDD, is a day of the calendar
abbrev pub is_day : ℕ → Bool
is_day n = is_date (n / 10000) (n / 100 % 100) (n % 100)

-- the number, whose digits are HHMMSS, is a time of a day, from 000000 to 235959
abbrev pub is_time : ℕ → Bool
is_time n = nat_lt (n / 10000) 24 && nat_lt (n / 100 % 100) 60 && nat_lt (n % 100) 60

-- the day that the bytes YYYYMMDD spell, as a number; `None` where they are no digits, or no day
abbrev pub day_of : List ℕ → Option ℕ
day_of bytes = option_and_then (λ n. if is_day n then Some n else None) (number_of bytes)

-- the time that the bytes HHMMSS spell, as a number; `None` where they are no digits, or no time
abbrev pub time_of : List ℕ → Option ℕ
time_of bytes = option_and_then (λ n. if is_time n then Some n else None) (number_of bytes)
