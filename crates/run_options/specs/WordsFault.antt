-- What is wrong with the words of a run and its registers: of its files, or of the names that it would read and write.
use Rattle.std.specs.Prelude.{ℕ, Bool, false, ◌||◌, List, ◌++◌, codes, Option, Some, None, is_some, option_map, if◌then◌else◌}
use Rattle.std.specs.List.{list_any}
use Rattle.std.specs.Str.{bytes_eq}
use Rattle.run_options.specs.RunFault.{is_acknowledgement, run_fault, run_fault_text}
use Rattle.run_options.specs.declared.words.WordsFault.{WordsFault}
use Rattle.run_options.specs.declared.words.WordsFault.TheVariants.{Run, UsedTwice}

-- the other's name is that of the file with .ack.new behind it: there its acknowledgement lies until it takes its name
abbrev pub is_acknowledgement_draft : List ℕ → List ℕ → Bool
is_acknowledgement_draft file other = bytes_eq other (file ++ codes ".ack.new")

-- the other's name is one that is written for the file
unfoldable pub is_written_for : List ℕ → List ℕ → Bool
is_written_for file other = is_acknowledgement file other || is_acknowledgement_draft file other

-- the other's name is that of the register with .new behind it: there the register lies until it takes its name
abbrev pub is_register_draft : List ℕ → List ℕ → Bool
is_register_draft register other = bytes_eq other (register ++ codes ".new")

-- the other's name is that of the register with .lock behind it: who has it locked writes the register
abbrev pub is_register_lock : List ℕ → List ℕ → Bool
is_register_lock register other = bytes_eq other (register ++ codes ".lock")

-- the other's name is one that is taken beside the register's
unfoldable pub is_beside_register : List ℕ → List ℕ → Bool
is_beside_register register other = is_register_draft register other || is_register_lock register other

-- a register's name is that of a file, or one that is written for it; or the file's is taken beside the register's
unfoldable pub is_of_file : List ℕ → List ℕ → Bool
is_of_file register file = bytes_eq register file || is_written_for file register || is_beside_register register file

-- a file would lie where an acknowledgement or its draft is written
abbrev pub is_file_lost : List (List ℕ) → Bool
is_file_lost files = list_any (λ word. list_any (λ file. is_written_for file word) files) files

-- the register that a run begins with would lie where an acknowledgement or its draft is written
abbrev pub is_read_lost : Option (List ℕ) → List (List ℕ) → Bool
is_read_lost None _ = false
is_read_lost (Some from) files = list_any (λ file. is_written_for file from) files

-- the register that a run leaves, its draft or its lock would lie where a file, an acknowledgement or its draft does
abbrev pub is_kept_over : Option (List ℕ) → List (List ℕ) → Bool
is_kept_over None _ = false
is_kept_over (Some to) files = list_any (is_of_file to) files

-- the register that a run begins with would lie where the draft or the lock of the other does
abbrev pub is_read_taken : Option (List ℕ) → Option (List ℕ) → Bool
is_read_taken None _ = false
is_read_taken (Some _) None = false
is_read_taken (Some from) (Some to) = is_beside_register to from

-- the first fault of the words of a run that may begin with a register (`from`) and may leave one (`to`)
abbrev pub words_fault : List ℕ → List ℕ → List ℕ → List ℕ → List (List ℕ) → Option (List ℕ) → Option (List ℕ) → Option WordsFault
words_fault society name date time files from to =
    if is_some (run_fault society name date time files) then option_map Run (run_fault society name date time files)
    else if is_file_lost files || is_read_lost from files || is_kept_over to files || is_read_taken from to then Some UsedTwice
    else None

-- the text of a fault
abbrev pub words_fault_text : WordsFault → List ℕ
words_fault_text (Run fault) = run_fault_text fault
words_fault_text UsedTwice = codes "file used twice"
