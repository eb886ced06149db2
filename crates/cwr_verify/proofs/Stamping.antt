-- The stamp that a line has, from the header that it is read as.
use Rattle.std.proofs.Common.{◌≡◌, ◌∙◌, ℕ, Bool, true, false, List, [], ◌∷◌, Option, Some, None, refl, sym, ap, subst, arith}
use Rattle.std.specs.Prelude.{◌&&◌, is_some, option_and_then, option_map, if◌then◌else◌, Contains}
use Rattle.std.specs.List.{list_all}
use Rattle.cwr_field.specs.Calendar.{day_of, time_of}
use Rattle.cwr_field.specs.Layout.{field}
use Rattle.cwr_field.specs.Number.{number_of}
use Rattle.cwr_record.specs.Columns as column
use Rattle.cwr_record.specs.Columns.{field_at}
use Rattle.cwr_record.specs.Control as control
use Rattle.cwr_record.specs.Faults.{IsLeastFault, checked, fault_of, faults}
use Rattle.cwr_record.specs.Layout.{Part, Read, Kept, Written, Value, Number, StandsFor, reading}
use Rattle.cwr_record.specs.Stamp.{StampParts, stamp_of}
use Rattle.cwr_record.specs.declared.control.Header.{Header}
use Rattle.cwr_record.specs.declared.slot.FieldFault.{FieldFault}
use Rattle.cwr_verify.specs.Acknowledged.{is_header, stamp_in_line}

-- ---- a line that is no header

-- where each field can be read there is no fault
all_read : {X : Type 0} (line : List ℕ) (parts : List (Part X)) → list_all (λ s. is_some (reading line s)) (checked parts) ≡ true → faults line (checked parts) ≡ []
all_read line [] all = refl
all_read line (Read s part ∷ parts) all = step (is_some (reading line s)) (list_all (λ s. is_some (reading line s)) (checked parts)) (faults line (checked parts)) all (all_read line parts) where
  step : (read rest : Bool) (found : List FieldFault) → (read && rest) ≡ true → (rest ≡ true → found ≡ []) → (if read then found else fault_of s ∷ found) ≡ []
  step true rest found both next = next both
  step false rest found both next = absurd (let differ : false ≡ true = both in cc)
all_read line (Kept column part ∷ parts) all = all_read line parts all
all_read line (Written column text ∷ parts) all = all_read line parts all

no_header : (line : List ℕ) (f : FieldFault) (is : Bool) → is_header line ≡ is → IsLeastFault line (checked control.header) f → is ≡ false
no_header line f true is least =
    let one : Contains [] f = subst (λ (fs : List FieldFault). Contains fs f) (all_read line control.header is) least.0 in
    absurd (omega (arith, one.1))
no_header line f false is least = refl

-- it has no stamp
pub faulty : (line : List ℕ) (f : FieldFault) → IsLeastFault line (checked control.header) f → None ≡ stamp_in_line line
faulty line f least = sym (none (is_header line) _ (no_header line f (is_header line) refl least)) where
  none : (is : Bool) (stamp : Option StampParts) → is ≡ false → (if is then stamp else None) ≡ None
  none is stamp isnt = ap (λ (b : Bool). if b then stamp else None) isnt

-- ---- a line that is one

number_from : (o : Option ℕ) (n : ℕ) → option_map Number o ≡ Some (Number n) → o ≡ Some n
number_from None n is = absurd (let differ : ◌≡◌ {A = Option Value} None (Some (Number n)) = is in cc)
number_from (Some m) n is =
    let same : Some (Number m) ≡ Some (Number n) = is in
    let one : m ≡ n = cc in
    ap Some one

has_header : (line : List ℕ) (h : Header) → StandsFor control.header line h → is_header line ≡ true
has_header line h stands = λ i.
    is_some (stands.0 i) && (is_some (stands.1.1.1.0 i) && (is_some (stands.1.1.1.1.0 i) && (is_some (stands.1.1.1.1.1.0 i) && true)))

-- what the society is, is known
read_at : (line : List ℕ) (h : Header) (society : Option ℕ) → StandsFor control.header line h → society ≡ number_of (field h.sender 9 3)
    → option_and_then (λ society. stamp_of society h.name h.creation_date h.creation_time) society ≡ stamp_in_line line
read_at line h society stands its = sym (λ i.
    if has_header line h stands i
    then option_and_then (λ society. option_and_then (λ date. option_and_then (λ time. stamp_of society (sym stands.1.1.0 i) date time)
    (number_from (time_of (field_at line column.header_creation_time)) h.creation_time stands.1.1.1.1.0 i))
    (number_from (day_of (field_at line column.header_creation_date)) h.creation_date stands.1.1.1.0 i))
    (society_is i)
    else None)
  where
    society_is : number_of (field (field_at line column.header_sender) 9 3) ≡ society
    society_is = ap (λ (sender : List ℕ). number_of (field sender 9 3)) (sym stands.1.0) ∙ sym its

pub unnumbered : (line : List ℕ) (h : Header) (society : Option ℕ) → StandsFor control.header line h → society ≡ number_of (field h.sender 9 3) → society ≡ None
    → None ≡ stamp_in_line line
unnumbered line h society stands its none =
    sym (ap (λ (o : Option ℕ). option_and_then (λ n. stamp_of n h.name h.creation_date h.creation_time) o) none) ∙ read_at line h society stands its

pub stamped : (line : List ℕ) (h : Header) (society : Option ℕ) (number : ℕ) → StandsFor control.header line h → society ≡ number_of (field h.sender 9 3) → society ≡ Some number
    → stamp_of number h.name h.creation_date h.creation_time ≡ stamp_in_line line
stamped line h society number stands its some =
    sym (ap (λ (o : Option ℕ). option_and_then (λ n. stamp_of n h.name h.creation_date h.creation_time) o) some) ∙ read_at line h society stands its
