-- A list of file names, as bytes: its names in order, and its first fault.
use Rattle.std.specs.Prelude.{ℕ, ◌≡◌, ◌+◌, ◌==◌, List, [], ◌∷◌, length, Option, Some, None, is_some, ⊤, if◌then◌else◌}
use Rattle.std.specs.List.{slice_split}
use Rattle.std.specs.Str.{is_utf8}
use Rattle.file_lists.specs.declared.fault.ListFault.{ListFault}
use Rattle.file_lists.specs.declared.fault.ListFault.TheVariants.{NoNames, EmptyName, NoText}
use Rattle.file_lists.specs.declared.fault.ListRefused.{ListRefused}
use Rattle.file_lists.specs.declared.fault.ListRefused.TheVariants.{Memory, Fault}
use Rattle.file_lists.specs.declared.names.NameEnd.{NameEnd}
use Rattle.file_lists.specs.declared.names.NameEnd.TheVariants.{Newline, Nul}

-- the byte that ends a name
abbrev pub end_byte : NameEnd → ℕ
end_byte Newline = 10
end_byte Nul = 0

-- the parts without the last one, where that is empty
abbrev pub without_empty_end : List (List ℕ) → List (List ℕ)
without_empty_end [] = []
without_empty_end (part ∷ []) = if length part == 0 then [] else part ∷ []
without_empty_end (part ∷ next ∷ parts) = part ∷ without_empty_end (next ∷ parts)

-- the names of a list: what stands between its ends, and behind the last end where any byte does
abbrev pub entries : ℕ → List ℕ → List (List ℕ)
entries end text = without_empty_end (slice_split (λ byte. byte == end) text)

-- what is wrong with a name, which is the one of this number
abbrev pub name_fault : ℕ → List ℕ → Option ListFault
name_fault number name =
    if length name == 0 then Some (EmptyName number)
    else if is_utf8 name then None
    else Some (NoText number)

-- the fault of the first name that has one, where the first of them has this number
abbrev pub first_fault : ℕ → List (List ℕ) → Option ListFault
first_fault number [] = None
first_fault number (name ∷ names) = if is_some (name_fault number name) then name_fault number name else first_fault (number + 1) names

-- the first fault of a list
abbrev pub list_fault : ℕ → List ℕ → Option ListFault
list_fault end text = if length text == 0 then Some NoNames else first_fault 1 (entries end text)

-- a list with this fault is refused for it, and any list where memory is refused
abbrev pub IsRefusedFor : ListRefused → Option ListFault → Type 0
IsRefusedFor Memory fault = ⊤
IsRefusedFor (Fault found) fault = fault ≡ Some found
