-- The line that says how far long work is.
use Rattle.std.specs.Prelude.{ℕ, ◌+◌, ◌-◌, ◌*◌, ◌/◌, ◌%◌, ◌&&◌, ◌==◌, nat_le, nat_lt, Bool, List, [], ◌++◌, codes, if◌then◌else◌}
use Rattle.std.specs.Fmt.{decimal}
use Rattle.cwr_field.specs.Number.{number_text}
use Rattle.progress_text.specs.declared.progress.Counted.{Counted}
use Rattle.progress_text.specs.declared.progress.Counted.TheVariants as counted
use Rattle.progress_text.specs.declared.progress.HowFar.{HowFar}

-- what is counted
abbrev pub counted_text : Counted → List ℕ
counted_text counted.Entries = codes " entries"
counted_text counted.Files = codes " files"

-- a number, with commas before its last three digits and before the three digits that these follow
abbrev pub grouped : ℕ → List ℕ
grouped n =
    if nat_lt n 1000 then decimal n
    else if nat_lt n 1000000 then decimal (n / 1000) ++ codes "," ++ number_text 3 (n % 1000)
    else decimal (n / 1000000) ++ codes "," ++ number_text 3 (n / 1000 % 1000) ++ codes "," ++ number_text 3 (n % 1000)

-- the seconds that are left, a begun one whole, where all that is left takes as long as what is done did
abbrev pub seconds_left : HowFar → ℕ
seconds_left far = far.millis * (far.total - far.done) / (1000 * far.done) + 1

-- enough is known of how long the work takes: a hundredth of it is done, and not all of it
abbrev pub is_foreseen : HowFar → Bool
is_foreseen far = nat_lt far.done far.total && nat_le far.total (100 * far.done)

-- a time of so many seconds: in minutes, a begun one whole, from two minutes on
abbrev pub time_text : ℕ → List ℕ
time_text seconds =
    if seconds == 1 then codes "1 second"
    else if nat_lt seconds 120 then decimal seconds ++ codes " seconds"
    else decimal ((seconds + 59) / 60) ++ codes " minutes"

-- the time that is left, where enough is known
abbrev pub left_text : HowFar → List ℕ
left_text far = if is_foreseen far then codes ", " ++ time_text (seconds_left far) ++ codes " left" else []

-- the line, as `1,200,000 of 10,000,000 entries, 12 seconds left`
abbrev pub progress_text : HowFar → List ℕ
progress_text far = grouped far.done ++ codes " of " ++ grouped far.total ++ counted_text far.counted ++ left_text far
