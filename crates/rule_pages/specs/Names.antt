-- Which pages there are, and which word names which page.
use Rattle.std.specs.Prelude.{ℕ, Bool, List, [], ◌∷◌, ◌++◌, Option, map, length, nat_lt, nat_le, ◌==◌, ◌&&◌, if◌then◌else◌}
use Rattle.std.specs.List.{find, list_all}
use Rattle.std.specs.Str.{bytes_eq, byte}
use Rattle.std.specs.Char.{is_ascii_digit, to_ascii_uppercase}
use Rattle.cwr_record.specs.declared.status.Status.{Status}
use Rattle.cwr_record.specs.declared.status.Status.TheVariants.{Accepted, Duplicate, Conflict, Rejected}
use Rattle.cwr_record.specs.Kinds.{status_text}
use Rattle.rule_pages.specs.Pages.{every_rule, name_of}
use Rattle.rule_pages.specs.declared.page.Page.{Page}
use Rattle.rule_pages.specs.declared.page.Page.TheVariants as page

-- the name of a page: that of its rule, or the two letters of its answer
abbrev pub page_name : Page → List ℕ
page_name (page.Rule r) = name_of r
page_name (page.Answer s) = status_text s

-- AS, DU, CO and RJ, in this order
abbrev pub every_answer : List Status
every_answer = Accepted ∷ Duplicate ∷ Conflict ∷ Rejected ∷ []

-- the pages of all rules, and then those of all answers
abbrev pub every_page : List Page
every_page = map page.Rule every_rule ++ map page.Answer every_answer

-- one to three digits
abbrev pub is_number : List ℕ → Bool
is_number bytes = nat_lt 0 (length bytes) && nat_le (length bytes) 3 && list_all is_ascii_digit bytes

-- the digits without the zeros before them
abbrev pub without_zeros : List ℕ → List ℕ
without_zeros [] = []
without_zeros (d ∷ ds) = if d == byte "0" then without_zeros ds else d ∷ ds

-- the name that a word stands for: a number alone is that of a J; a letter with a number is the capital and that
-- number; any other word is itself, in capitals
abbrev pub name_meant : List ℕ → List ℕ
name_meant [] = []
name_meant (first ∷ rest) =
    if is_number (first ∷ rest) then byte "J" ∷ without_zeros (first ∷ rest)
    else to_ascii_uppercase first ∷ (if is_number rest then without_zeros rest else map to_ascii_uppercase rest)

-- the page whose name a word stands for; `None` where there is none
abbrev pub page_named : List ℕ → Option Page
page_named word = find (λ p. bytes_eq (page_name p) (name_meant word)) every_page
