-- The International Standard Musical Work Code of ISO 15707: T, nine digits and a check digit.
use Rattle.std.specs.Prelude.{ℕ, zero, suc, ◌+◌, ◌-◌, ◌*◌, ◌/◌, ◌%◌, List, [], ◌∷◌, ◌++◌, ◌==◌, ◌&&◌, slice_index, slice_range, Option, Some, None, if◌then◌else◌}
use Rattle.cwr_field.specs.Layout.{is_blank}
use Rattle.cwr_field.specs.Number.{number_of, number_text}
use Rattle.cwr_field.specs.declared.codes.Iswc.{Iswc}
use Rattle.cwr_field.specs.declared.codes.Iswc.TheVariants.{Blank, Valid, Wrong}

-- of the last `count` digits of a number: 1 times the first of them, 2 times the second, and so on, added up
abbrev pub weighted_sum : ℕ → ℕ → ℕ
weighted_sum zero n = 0
weighted_sum (suc count) n = weighted_sum count (n / 10) + (count + 1) * (n % 10)

-- the greatest number of nine digits, and so of an ISWC
abbrev pub max_code : ℕ
max_code = 999999999

-- the check digit of the nine digits: with it, 1 and the digits in their weights add up to a multiple of 10
abbrev pub check_digit : ℕ → ℕ
check_digit n = (10 - (1 + weighted_sum 9 n) % 10) % 10

-- the eleven bytes of the ISWC with these nine digits: T, the digits, the check digit
abbrev pub iswc_text : ℕ → List ℕ
iswc_text n = 84 ∷ number_text 9 n ++ (48 + check_digit n) ∷ []

-- the ISWC in eleven bytes, given the number in digits of bytes 2 to 10: T at 1, and the check digit at 11, or it is
-- wrong
abbrev pub code_of : List ℕ → Option ℕ → Iswc
code_of bytes None = Wrong
code_of bytes (Some n) =
    if (slice_index bytes 0 == 84) && (slice_index bytes 10 == 48 + check_digit n) then Valid n else Wrong

-- what the eleven bytes of an ISWC field are: blank, a valid code, or wrong
abbrev pub iswc_of : List ℕ → Iswc
iswc_of bytes = if is_blank bytes then Blank else code_of bytes (number_of (slice_range bytes 1 10))
