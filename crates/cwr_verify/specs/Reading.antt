-- What files are, each of them judged once.
use Rattle.std.specs.Prelude.{ℕ, ◌<◌, ◌≤◌, List, [], length, map}
use Rattle.cwr_call.specs.CallValue.{CallValue}
use Rattle.cwr_engine.specs.Account.{IsRefused, max_file_bytes}
use Rattle.cwr_engine.specs.Judged.{JudgedValue, WasJudged}
use Rattle.cwr_verify.specs.declared.reading.Reading.{Reading}
use Rattle.cwr_verify.specs.declared.reading.Reading.TheVariants.{File, TooLong, Refused}

-- what a text was read as: a well-formed file with this header and these transactions, a file that is too long, or one
-- with this first fault
abbrev pub IsReadingOf : {Z : Type 0} → List ℕ → Reading Z → Type 0
IsReadingOf text (File file) = (length text ≤ max_file_bytes) × WasJudged text file.header file.transactions.items
IsReadingOf text TooLong = max_file_bytes < length text
IsReadingOf text (Refused number line) = IsRefused text number line

-- the transactions of a well-formed file; an empty list for any other
abbrev pub transactions_in : {Z : Type 0} → Reading Z → List JudgedValue
transactions_in (File file) = file.transactions.items
transactions_in TooLong = []
transactions_in (Refused number line) = []

-- the calls of the transactions, in order
abbrev pub asked_in : List JudgedValue → List CallValue
asked_in transactions = map (λ j. j.call) transactions
