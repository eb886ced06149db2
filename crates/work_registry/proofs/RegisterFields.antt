-- What the fields of a register's line were read as.
use Rattle.std.proofs.Common.{◌≡◌, ◌∙◌, ℕ, Bool, true, false, List, Option, Some, None, ap, sym, refl}
use Rattle.std.specs.Prelude.{option_map, not, if◌then◌else◌}
use Rattle.std.specs.Str.{bytes_eq}
use Rattle.std.proofs.lemmas.Slice.Eq.{bytes_eq-Decides}
use Rattle.cwr_field.specs.Number.{number_of}
use Rattle.cwr_record.specs.Kinds.{work_kind_code, work_kind_named, status_text, status_named}
use Rattle.cwr_record.specs.Layout.{Value, Bytes, Number, Maybe}
use Rattle.cwr_record.specs.declared.works.WorkKind.{WorkKind}
use Rattle.cwr_record.specs.declared.status.Status.{Status}
use Rattle.cwr_record.proofs.lemmas.Codes.{work_kind_named-code, status_named-text, code_of_kind, text_of_status}

-- a number that was read
pub number_read : (bytes : List ℕ) (n : ℕ) → Some n ≡ number_of bytes → option_map Number (number_of bytes) ≡ Some (Number n)
number_read bytes n e = ap (option_map Number) (sym e)

pub no_number : (bytes : List ℕ) (n : ℕ) → None ≡ number_of bytes → option_map Number (number_of bytes) ≡ Some (Number n) → ⊥
no_number bytes n e is =
    let no : None ≡ Some (Number n) = ap (option_map Number) e ∙ is in
    cc

-- a code that was read
pub code_read : (value : Option Value) (o : Option ℕ) → value ≡ option_map Maybe (Some o) → value ≡ Some (Maybe o)
code_read value o e = e

pub no_code : (value : Option Value) (r : Option (Option ℕ)) (o : Option ℕ) → r ≡ None → value ≡ option_map Maybe r → value ≡ Some (Maybe o) → ⊥
no_code value r o none e is =
    let no : None ≡ Some (Maybe o) = sym (ap (option_map Maybe) none) ∙ sym e ∙ is in
    cc

-- a kind and a status
pub kind_read : (bytes field : List ℕ) (kind : WorkKind) → bytes ≡ field → Some kind ≡ work_kind_named bytes → work_kind_code kind ≡ field
kind_read bytes field kind is e = code_of_kind bytes kind (sym e) ∙ is

pub no_kind : (bytes field : List ℕ) (kind : WorkKind) → bytes ≡ field → None ≡ work_kind_named bytes → work_kind_code kind ≡ field → ⊥
no_kind bytes field kind is e code =
    let no : None ≡ Some kind = e ∙ ap work_kind_named (is ∙ sym code) ∙ work_kind_named-code kind in
    cc

pub status_read : (bytes field : List ℕ) (status : Status) → bytes ≡ field → Some status ≡ status_named bytes → status_text status ≡ field
status_read bytes field status is e = text_of_status bytes status (sym e) ∙ is

pub no_status : (bytes field : List ℕ) (status : Status) → bytes ≡ field → None ≡ status_named bytes → status_text status ≡ field → ⊥
no_status bytes field status is e text =
    let no : None ≡ Some status = e ∙ ap status_named (is ∙ sym text) ∙ status_named-text status in
    cc

-- what a line tells is named where it stands for that
marked : (field code : List ℕ) (b : Bool) (v : Value) → bytes_eq field code ≡ b → (if b then Some v else None) ≡ Some v → field ≡ code
marked field code true v p e = (bytes_eq-Decides field code).0 p
marked field code false v p e = absurd cc

pub is_marked : (field code : List ℕ) (v : Value) → (if bytes_eq field code then Some v else None) ≡ Some v → field ≡ code
is_marked field code v e = marked field code (bytes_eq field code) v refl e

pub mark_read : (bytes field code : List ℕ) → bytes ≡ field → false ≡ not (bytes_eq bytes code) → (if bytes_eq field code then Some (Bytes code) else None) ≡ Some (Bytes code)
mark_read bytes field code is e = by (bytes_eq bytes code) refl e
  where
    by : (b : Bool) → bytes_eq bytes code ≡ b → false ≡ not b → (if bytes_eq field code then Some (Bytes code) else None) ≡ Some (Bytes code)
    by true p q = rw (← is, p) refl
    by false p q = absurd cc
