-- Codes tell what they are the code of, and their widths.
use Rattle.std.proofs.Common.{◌≡◌, ◌∙◌, ℕ, Bool, true, false, List, length, Some, None, ap, sym, refl}
use Rattle.std.specs.Prelude.{codes, if◌then◌else◌}
use Rattle.std.specs.Str.{bytes_eq}
use Rattle.std.proofs.lemmas.Slice.Eq.{bytes_eq-Decides}
use Rattle.cwr_record.specs.Kinds.{work_kind_code, work_kind_named, status_text, status_named}
use Rattle.cwr_record.specs.declared.works.WorkKind.{WorkKind}
use Rattle.cwr_record.specs.declared.works.WorkKind.TheVariants.{Nwr, Rev}
use Rattle.cwr_record.specs.declared.status.Status.{Status}
use Rattle.cwr_record.specs.declared.status.Status.TheVariants.{Accepted, Duplicate, Conflict, Rejected}

-- a code names what it is the code of

pub work_kind_named-code : (kind : WorkKind) → work_kind_named (work_kind_code kind) ≡ Some kind
work_kind_named-code Nwr = refl
work_kind_named-code Rev = refl

pub status_named-text : (status : Status) → status_named (status_text status) ≡ Some status
status_named-text Accepted = refl
status_named-text Duplicate = refl
status_named-text Conflict = refl
status_named-text Rejected = refl

-- and of no other

kind_of : (code : List ℕ) (kind : WorkKind) (new revised : Bool) → bytes_eq code (codes "NWR") ≡ new → bytes_eq code (codes "REV") ≡ revised
    → (if new then Some Nwr else if revised then Some Rev else None) ≡ Some kind → work_kind_code kind ≡ code
kind_of code kind true revised p q e = let same : Nwr ≡ kind = cc in ap work_kind_code (sym same) ∙ sym ((bytes_eq-Decides code (codes "NWR")).0 p)
kind_of code kind false true p q e = let same : Rev ≡ kind = cc in ap work_kind_code (sym same) ∙ sym ((bytes_eq-Decides code (codes "REV")).0 q)
kind_of code kind false false p q e = absurd cc

pub code_of_kind : (code : List ℕ) (kind : WorkKind) → work_kind_named code ≡ Some kind → work_kind_code kind ≡ code
code_of_kind code kind e = kind_of code kind (bytes_eq code (codes "NWR")) (bytes_eq code (codes "REV")) refl refl e

status_of : (code : List ℕ) (status : Status) (a d c r : Bool)
    → bytes_eq code (codes "AS") ≡ a → bytes_eq code (codes "DU") ≡ d → bytes_eq code (codes "CO") ≡ c → bytes_eq code (codes "RJ") ≡ r
    → (if a then Some Accepted else if d then Some Duplicate else if c then Some Conflict else if r then Some Rejected else None) ≡ Some status → status_text status ≡ code
status_of code status true d c r p q s t e = let same : Accepted ≡ status = cc in ap status_text (sym same) ∙ sym ((bytes_eq-Decides code (codes "AS")).0 p)
status_of code status false true c r p q s t e = let same : Duplicate ≡ status = cc in ap status_text (sym same) ∙ sym ((bytes_eq-Decides code (codes "DU")).0 q)
status_of code status false false true r p q s t e = let same : Conflict ≡ status = cc in ap status_text (sym same) ∙ sym ((bytes_eq-Decides code (codes "CO")).0 s)
status_of code status false false false true p q s t e = let same : Rejected ≡ status = cc in ap status_text (sym same) ∙ sym ((bytes_eq-Decides code (codes "RJ")).0 t)
status_of code status false false false false p q s t e = absurd cc

pub text_of_status : (code : List ℕ) (status : Status) → status_named code ≡ Some status → status_text status ≡ code
text_of_status code status e =
    status_of code status (bytes_eq code (codes "AS")) (bytes_eq code (codes "DU")) (bytes_eq code (codes "CO")) (bytes_eq code (codes "RJ")) refl refl refl refl e

some_is : {T : Type 0} (a b : T) → Some a ≡ Some b → a ≡ b
some_is a b e = cc

pub same_kind : (a b : WorkKind) → work_kind_code a ≡ work_kind_code b → a ≡ b
same_kind a b e = some_is a b (sym (work_kind_named-code a) ∙ ap work_kind_named e ∙ work_kind_named-code b)

pub same_status : (a b : Status) → status_text a ≡ status_text b → a ≡ b
same_status a b e = some_is a b (sym (status_named-text a) ∙ ap status_named e ∙ status_named-text b)

pub length-work_kind_code : (kind : WorkKind) → length (work_kind_code kind) ≡ 3
length-work_kind_code Nwr = refl
length-work_kind_code Rev = refl

pub length-status_text : (status : Status) → length (status_text status) ≡ 2
length-status_text Accepted = refl
length-status_text Duplicate = refl
length-status_text Conflict = refl
length-status_text Rejected = refl
