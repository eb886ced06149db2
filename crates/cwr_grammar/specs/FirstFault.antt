-- The first fault of a file, computed line by line. That it is the least one is proved of it.
use Rattle.std.specs.Prelude.{ℕ, ◌+◌, List, [], ◌∷◌, length, map, Option, Some, None, if◌then◌else◌}
use Rattle.cwr_grammar.specs.declared.role.Role.{Role}
use Rattle.cwr_grammar.specs.Before.{is_nil, is_ended}
use Rattle.cwr_grammar.specs.Roles.{role_of}
use Rattle.cwr_grammar.specs.FaultTests.{is_headless, has_control, is_malformed, is_misplaced, is_foreign, is_mixed, is_misnumbered_group, is_misnumbered, is_miscounted_group, is_miscounted_file, is_tail, is_long, is_after_end}

-- the fault with its line put before it, where there is one
abbrev pub at_line : ℕ → Option ℕ → Option (ℕ × ℕ)
at_line line None = None
at_line line (Some number) = Some (line, number)

-- the first fault, or the other where there is none
abbrev pub or_else : Option (ℕ × ℕ) → Option (ℕ × ℕ) → Option (ℕ × ℕ)
or_else None other = other
or_else (Some fault) other = Some fault

-- the first fault number, or the other where there is none
abbrev pub or_number : Option ℕ → Option ℕ → Option ℕ
or_number None other = other
or_number (Some number) other = Some number

-- the least of the faults F3 to F10 that a line of this role has after the lines before, the newest first
abbrev pub grammar_fault : List Role → Role → Option ℕ
grammar_fault before role =
    if is_malformed before role then Some 3
    else if is_misplaced before role then Some 4
    else if is_foreign role then Some 5
    else if is_mixed before role then Some 6
    else if is_misnumbered_group before role then Some 7
    else if is_misnumbered before role then Some 8
    else if is_miscounted_group before role then Some 9
    else if is_miscounted_file before role then Some 10
    else None

-- the least fault that the roles of lines alone show: F1, then F3 to F10; after a TRL F11, whatever the line is
abbrev pub role_fault : List Role → Role → Option ℕ
role_fault before role =
    if is_ended before then Some 11
    else if is_headless before role then Some 1
    else grammar_fault before role

-- the fault of the end of the file after the lines before: F1 where there is none, F11 where there is no TRL
abbrev pub fault_at_end : List Role → Option ℕ
fault_at_end before = if is_nil before then Some 1 else if is_ended before then None else Some 11

-- the least fault of a line after the lines before, the newest first: F1, F2, F3 to F10, then F12; after a TRL F11
-- alone
abbrev pub line_fault : List (List ℕ) → List ℕ → Option ℕ
line_fault before line =
    if is_after_end before then (if is_tail line then None else Some 11)
    else if is_headless (map role_of before) (role_of line) then Some 1
    else if has_control line then Some 2
    else or_number (role_fault (map role_of before) (role_of line)) (if is_long line then Some 12 else None)

-- of these lines, which follow the lines before, the newest first: the first faulty one, with its least fault
abbrev pub first_fault_after : List (List ℕ) → List (List ℕ) → Option (ℕ × ℕ)
first_fault_after before [] = at_line (length before + 1) (fault_at_end (map role_of before))
first_fault_after before (line ∷ rest) = or_else (at_line (length before + 1) (line_fault before line)) (first_fault_after (line ∷ before) rest)

-- the first faulty line of a text, from 1, with its least fault; `None` where the text is well-formed
abbrev pub first_fault : List (List ℕ) → Option (ℕ × ℕ)
first_fault text = first_fault_after [] text

-- of lines after a TRL, of which the first has number k: the number of the first that may not stand there
abbrev pub tail_fault : ℕ → List (List ℕ) → Option ℕ
tail_fault k [] = None
tail_fault k (line ∷ rest) = if is_tail line then tail_fault (k + 1) rest else Some k

-- the number of a line as one with fault F11
abbrev pub with_eleven : Option ℕ → Option (ℕ × ℕ)
with_eleven None = None
with_eleven (Some k) = Some (k, 11)
