-- A list of at most 63 files has the fault that the words have.
use Rattle.std.proofs.Common.{◌≡◌, ℕ, ◌≤◌, Bool, true, false, List, length, refl, arith}
use Rattle.std.specs.Prelude.{◌||◌, Option, Some, None, is_some, option_map, not, nat_lt, if◌then◌else◌}
use Rattle.std.proofs.lemmas.Bool.Decides.{nat_tests}
use Rattle.run_options.specs.RunFault.{is_society, is_name, is_date, is_time, is_named_twice}
use Rattle.run_options.specs.WordsFault.{is_file_lost, is_read_lost, is_kept_over, is_read_taken, words_fault}
use Rattle.run_options.specs.ListFault.{list_fault}
use Rattle.run_options.specs.declared.words.RunFault.{RunFault}
use Rattle.run_options.specs.declared.words.RunFault.TheVariants.{Society, Name, Date, Time, TooMany, Twice}
use Rattle.run_options.specs.declared.words.WordsFault.{WordsFault}
use Rattle.run_options.specs.declared.words.WordsFault.TheVariants.{Run, UsedTwice}

-- the first fault, by the answers to each question in turn
first : Bool → Bool → Bool → Bool → Bool → Bool → Option RunFault
first society name date time many twice =
    if not society then Some Society
    else if not name then Some Name
    else if not date then Some Date
    else if not time then Some Time
    else if many then Some TooMany
    else if twice then Some Twice
    else None

last : Bool → Option WordsFault
last used = if used then Some UsedTwice else None

same : (society name date time twice used : Bool) →
    (if is_some (first society name date time false false) then option_map Run (first society name date time false false)
    else if twice then Some (Run Twice) else last used)
    ≡ (if is_some (first society name date time false twice) then option_map Run (first society name date time false twice) else last used)
unfolding first last
same false name date time twice used = refl
same true false date time twice used = refl
same true true false time twice used = refl
same true true true false twice used = refl
same true true true true true used = refl
same true true true true false used = refl

pub as_words : (society name date time : List ℕ) (files : List (List ℕ)) (from to : Option (List ℕ)) → length files ≤ 63
    → list_fault society name date time files from to ≡ words_fault society name date time files from to
unfolding first last
as_words society name date time files from to few =
    let most : nat_lt 63 (length files) ≡ false = grind (arith, nat_tests) in
    rw most (same (is_society society) (is_name name) (is_date date) (is_time time) (is_named_twice files)
    (is_file_lost files || is_read_lost from files || is_kept_over to files || is_read_taken from to))
