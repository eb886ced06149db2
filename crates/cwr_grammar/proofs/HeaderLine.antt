-- A line that the grammar takes for a valid file header is read as one.
use Rattle.std.proofs.Common.{◌≡◌, ℕ, Bool, true, false, ◌&&◌, cond, List, [], ◌∷◌, Option, Some, None, is_some, arith, refl, sym, ap, ◌∙◌}
use Rattle.std.specs.Prelude.{codes, option_map}
use Rattle.std.specs.Str.{bytes_eq}
use Rattle.cwr_field.specs.Calendar.{day_of, time_of}
use Rattle.cwr_record.specs.Columns.{field_at, every_record_type, header_creation_date, header_creation_time, header_transmission_date}
use Rattle.cwr_record.specs.RecordTypes.{type_of}
use Rattle.cwr_record.specs.Control as table
use Rattle.cwr_record.specs.Faults.{faults, checked, IsLeastFault}
use Rattle.cwr_record.specs.declared.slot.FieldFault.{FieldFault}
use Rattle.cwr_record.specs.declared.record_type.RecordType.{RecordType}
use Rattle.cwr_record.specs.declared.record_type.RecordType.TheVariants.{Hdr, Grh, Grt, Trl, Nwr, Rev, Ack, Spu, Spt, Opu, Swr, Swt, Pwr, Owr, Alt, Xrf, Other, Carried, Bad}
use Rattle.cwr_grammar.specs.declared.role.Role.TheVariants.{FileHeader}
use Rattle.cwr_grammar.specs.File.{File, IsFile}
use Rattle.cwr_grammar.specs.Roles.{role_of, role_at, is_dated}

-- the chain of names gives HDR at its own name alone
hdr_named : (a b c d e f g h i j k hdr l m n o p q : Bool)
    → cond a Nwr (cond b Rev (cond c Spu (cond d Spt (cond e Opu (cond f Swr (cond g Swt (cond h Pwr (cond i Owr (cond j Alt (cond k Xrf (cond hdr Hdr (cond l Grh (cond m Grt (cond n Trl (cond o Ack (cond p Other (cond q Carried Bad))))))))))))))))) ≡ Hdr → hdr ≡ true
hdr_named true b c d e f g h i j k hdr l m n o p q is = absurd cc
hdr_named false true c d e f g h i j k hdr l m n o p q is = absurd cc
hdr_named false false true d e f g h i j k hdr l m n o p q is = absurd cc
hdr_named false false false true e f g h i j k hdr l m n o p q is = absurd cc
hdr_named false false false false true f g h i j k hdr l m n o p q is = absurd cc
hdr_named false false false false false true g h i j k hdr l m n o p q is = absurd cc
hdr_named false false false false false false true h i j k hdr l m n o p q is = absurd cc
hdr_named false false false false false false false true i j k hdr l m n o p q is = absurd cc
hdr_named false false false false false false false false true j k hdr l m n o p q is = absurd cc
hdr_named false false false false false false false false false true k hdr l m n o p q is = absurd cc
hdr_named false false false false false false false false false false true hdr l m n o p q is = absurd cc
hdr_named false false false false false false false false false false false true l m n o p q is = refl
hdr_named false false false false false false false false false false false false true m n o p q is = absurd cc
hdr_named false false false false false false false false false false false false false true n o p q is = absurd cc
hdr_named false false false false false false false false false false false false false false true o p q is = absurd cc
hdr_named false false false false false false false false false false false false false false false true p q is = absurd cc
hdr_named false false false false false false false false false false false false false false false false true q is = absurd cc
hdr_named false false false false false false false false false false false false false false false false false true is = absurd cc
hdr_named false false false false false false false false false false false false false false false false false false is = absurd cc

named : (line : List ℕ) → type_of line ≡ Hdr → bytes_eq (field_at line every_record_type) (codes "HDR") ≡ true
named line is = hdr_named _ _ _ _ _ _ _ _ _ _ _ (bytes_eq (field_at line every_record_type) (codes "HDR")) _ _ _ _ _ _ is

header_at : (t : RecordType) (line : List ℕ) → role_at t line ≡ FileHeader true → (t ≡ Hdr) × (is_dated line ≡ true)
header_at Hdr line is = (refl, cc)
header_at Grh line is = absurd cc
header_at Grt line is = absurd cc
header_at Trl line is = absurd cc
header_at Nwr line is = absurd cc
header_at Rev line is = absurd cc
header_at Ack line is = absurd cc
header_at Spu line is = absurd cc
header_at Spt line is = absurd cc
header_at Opu line is = absurd cc
header_at Swr line is = absurd cc
header_at Swt line is = absurd cc
header_at Pwr line is = absurd cc
header_at Owr line is = absurd cc
header_at Alt line is = absurd cc
header_at Xrf line is = absurd cc
header_at Other line is = absurd cc
header_at Carried line is = absurd cc
header_at Bad line is = absurd cc

three_hold : (a b c : Bool) → (a && b && c) ≡ true → (a ≡ true) × (b ≡ true) × (c ≡ true)
three_hold true true true e = (refl, refl, refl)
three_hold true true false e = absurd cc
three_hold true false c e = absurd cc
three_hold false b c e = absurd cc

some_mapped : {A B : Type 0} (f : A → B) (o : Option A) → is_some (option_map f o) ≡ is_some o
some_mapped f None = refl
some_mapped f (Some a) = refl

some_chosen : {A : Type 0} (b : Bool) (a : A) → is_some (cond b (Some a) None) ≡ b
some_chosen true a = refl
some_chosen false a = refl

none_left : (a b c d : Bool) (w x y z : FieldFault) → a ≡ true → b ≡ true → c ≡ true → d ≡ true
    → cond a (cond b (cond c (cond d [] (z ∷ [])) (y ∷ cond d [] (z ∷ []))) (x ∷ cond c (cond d [] (z ∷ [])) (y ∷ cond d [] (z ∷ [])))) (w ∷ cond b (cond c (cond d [] (z ∷ [])) (y ∷ cond d [] (z ∷ []))) (x ∷ cond c (cond d [] (z ∷ [])) (y ∷ cond d [] (z ∷ [])))) ≡ []
none_left a b c d w x y z p q r s = rw (p, q, r, s) refl

no_faults : (line : List ℕ) → role_of line ≡ FileHeader true → faults line (checked table.header) ≡ []
no_faults line is =
    let at = header_at (type_of line) line is in
    let dates = three_hold (is_some (day_of (field_at line header_creation_date))) (is_some (time_of (field_at line header_creation_time))) (is_some (day_of (field_at line header_transmission_date))) at.1 in
    none_left _ _ _ _ _ _ _ _ (some_chosen (bytes_eq (field_at line every_record_type) (codes "HDR")) _ ∙ named line at.0) (some_mapped _ (day_of (field_at line header_creation_date)) ∙ dates.0) (some_mapped _ (time_of (field_at line header_creation_time)) ∙ dates.1) (some_mapped _ (day_of (field_at line header_transmission_date)) ∙ dates.2)

pub header_readable : (line : List ℕ) (fault : FieldFault) → role_of line ≡ FileHeader true → IsLeastFault line (checked table.header) fault → ⊥
header_readable line fault is least = let (i, inside, here) = rw (no_faults line is) at least.0 in omega (arith, inside)

-- the first of lines
abbrev head_of : List ℕ → List (List ℕ) → List ℕ
head_of line [] = line
head_of line (first ∷ more) = first

-- the first line of a file is its header
pub first_is : (text more : List (List ℕ)) (line : List ℕ) (f : File) → text ≡ line ∷ more → IsFile text f → line ≡ f.header
first_is text more line f split is = ap (head_of line) (sym split ∙ is.lines)
