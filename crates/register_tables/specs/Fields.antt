-- How a field stands in a table: exact, as the register has it, or plain, for spreadsheets.
use Rattle.std.specs.Prelude.{ℕ, ◌/◌, ◌%◌, ◌==◌, ◌&&◌, ◌||◌, Bool, true, false, List, [], ◌∷◌, ◌++◌, codes, if◌then◌else◌}
use Rattle.std.specs.Fmt.{decimal}
use Rattle.cwr_field.specs.Number.{number_text}
use Rattle.register_tables.specs.declared.form.Form.{Form}
use Rattle.register_tables.specs.declared.form.Form.TheVariants.{Exact, Plain}

-- there are no bytes
abbrev pub is_empty : List ℕ → Bool
is_empty [] = true
is_empty (byte ∷ bytes) = false

-- the text without the blanks behind it
abbrev pub unpadded : List ℕ → List ℕ
unpadded [] = []
unpadded (byte ∷ bytes) = if (byte == 32) && is_empty (unpadded bytes) then [] else byte ∷ unpadded bytes

-- a spreadsheet takes the text for a formula: it begins with =, +, -, @, TAB or CR
abbrev pub is_formula : List ℕ → Bool
is_formula [] = false
is_formula (byte ∷ bytes) = (byte == 61) || (byte == 43) || (byte == 45) || (byte == 64) || (byte == 9) || (byte == 13)

-- the text, with an apostrophe before it where it would be a formula
abbrev pub guarded : List ℕ → List ℕ
guarded text = if is_formula text then 39 ∷ text else text

-- a text as it stands, or in the plain form without the blanks behind it and guarded
abbrev pub text_field : Form → List ℕ → List ℕ
text_field Exact text = text
text_field Plain text = guarded (unpadded text)

-- a share in hundredths of one per cent, or in the plain form in per cent with two places
abbrev pub share_field : Form → ℕ → List ℕ
share_field Exact share = decimal share
share_field Plain share = decimal (share / 100) ++ codes "." ++ number_text 2 (share % 100)

-- The names of the columns of control.

-- the name of the column with the control of the performing right
abbrev pub performing_name : Form → List ℕ
performing_name Exact = codes "performing"
performing_name Plain = codes "performing_control"

-- the name of the column with the control of the mechanical right
abbrev pub mechanical_name : Form → List ℕ
mechanical_name Exact = codes "mechanical"
mechanical_name Plain = codes "mechanical_control"

-- the name of the column with the control of the synchronization right
abbrev pub synchronization_name : Form → List ℕ
synchronization_name Exact = codes "synchronization"
synchronization_name Plain = codes "synchronization_control"
