-- What is known of a file that was judged.
use Rattle.std.proofs.Common.{◌≤◌, ℕ, List, [], length, refl, arith}
use Rattle.cwr_record.specs.declared.control.Header.{Header}
use Rattle.cwr_engine.specs.Account.{IsRead, max_file_bytes}
use Rattle.cwr_engine.specs.Judged.{JudgedValue, AreJudged, WasJudged}
use Rattle.cwr_verify.specs.Reading.{IsReadingOf, transactions_in}
use Rattle.cwr_verify.specs.Replied.{AreOfFile}
use Rattle.cwr_verify.specs.declared.reading.Reading.{Reading}
use Rattle.cwr_verify.specs.declared.reading.Reading.TheVariants.{File, TooLong, Refused}

-- of no more bytes than a file may have, it is read
pub is_read : (text : List ℕ) (head : Header) (judged : List JudgedValue) → length text ≤ max_file_bytes → (was : WasJudged text head judged) → IsRead text head was.transactions
is_read text head judged fits was = record { fits = fits; file = was.file; formed = was.formed; header = was.header; found = was.found }

-- and its transactions have the bounds of such a file
pub are_judged : (text : List ℕ) (head : Header) (judged : List JudgedValue) → length text ≤ max_file_bytes → (was : WasJudged text head judged)
    → AreJudged max_file_bytes head was.transactions judged
are_judged text head judged fits was =
    let bounds = was.are.bounds in
    record {
      judged_are = was.are.judged_are;
      bounds = record { placed = bounds.placed; few = let few = bounds.few in omega (arith, few, fits); printable = bounds.printable };
    }

-- they are of a file
pub of_file : (text : List ℕ) (head : Header) (judged : List JudgedValue) → WasJudged text head judged → AreOfFile judged
of_file text head judged was = record { submitter = head.sender; found = was.transactions; judged = was.are.judged_are; placed = was.are.bounds.placed }

pub of_reading : {Z : Type 0} (text : List ℕ) (reading : Reading Z) → IsReadingOf text reading → AreOfFile (transactions_in reading)
of_reading text (File file) is = of_file text file.header file.transactions.items is.1
of_reading text TooLong is = record { submitter = []; found = []; judged = refl; placed = tt }
of_reading text (Refused number line) is = record { submitter = []; found = []; judged = refl; placed = tt }
