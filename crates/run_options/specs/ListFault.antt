-- What is wrong with the words of a run whose files come from a list, however many they are.
use Rattle.std.specs.Prelude.{◌≡◌, ℕ, Bool, false, ◌||◌, List, [], ◌∷◌, ◌++◌, Option, Some, None, is_some, option_map, if◌then◌else◌}
use Rattle.std.specs.List.{list_any}
use Rattle.std.specs.Borrow.{Bor}
use Rattle.std.specs.Str.{bytes_eq}
use Rattle.run_options.specs.RunFault.{is_named_twice, run_fault}
use Rattle.run_options.specs.WordsFault.{is_file_lost, is_read_lost, is_kept_over, is_read_taken}
use Rattle.run_options.specs.declared.words.RunFault.TheVariants.{Twice}
use Rattle.run_options.specs.declared.words.WordsFault.{WordsFault}
use Rattle.run_options.specs.declared.words.WordsFault.TheVariants.{Run, UsedTwice}

-- two of the names, at different places, are one
abbrev pub is_repeated : List (List ℕ) → Bool
is_repeated [] = false
is_repeated (file ∷ files) = list_any (bytes_eq file) files || is_repeated files

-- one of the names is one of them with this end behind it
abbrev pub has_one_with : List ℕ → List (List ℕ) → Bool
has_one_with end files = list_any (λ word. list_any (λ file. bytes_eq word (file ++ end)) files) files

-- these keys have each of the names, and no other: a test passes on one of them where it does on one of the names
abbrev pub HasSame : List (Bor (List ℕ)) → List (List ℕ) → Type 0
HasSame keys names = (test : List ℕ → Bool) → list_any (λ key. test key.now) keys ≡ list_any test names

-- the first fault of the files of a run that may begin with a register (`from`) and may leave one (`to`)
abbrev pub files_fault : List (List ℕ) → Option (List ℕ) → Option (List ℕ) → Option WordsFault
files_fault files from to =
    if is_named_twice files then Some (Run Twice)
    else if is_file_lost files || is_read_lost from files || is_kept_over to files || is_read_taken from to then Some UsedTwice
    else None

-- the first fault of the words of a run, as `words_fault` has it, but with any number of files
abbrev pub list_fault : List ℕ → List ℕ → List ℕ → List ℕ → List (List ℕ) → Option (List ℕ) → Option (List ℕ) → Option WordsFault
list_fault society name date time files from to =
    if is_some (run_fault society name date time []) then option_map Run (run_fault society name date time [])
    else files_fault files from to
