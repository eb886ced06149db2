-- What is written of a fault is the text of its object.
use Rattle.std.proofs.Common.{◌≡◌, ◌∙◌, ℕ, Bool, true, List, ◌++◌, Option, Some, None, refl, sym, ap, append_assoc}
use Rattle.std.specs.Prelude.{codes, decimal}
use Rattle.json.specs.Print.{escape_byte}
use Rattle.serde_json.specs.Data.{Data, null, object, Items, item, Members, no_members, put}
use Rattle.serde_json.specs.Written.{compact_text, comma_if, items_text}
use Rattle.cwr_report.specs.declared.finding.Finding.{Finding}
use Rattle.cwr_report.specs.declared.finding.Spot.{Spot}
use Rattle.cwr_report.specs.declared.file_finding.FileFinding.{FileFinding}
use Rattle.cwr_report.specs.declared.file_finding.WrongByte.{WrongByte}
use Rattle.report_json.specs.declared.json_faults.PlaceMembers.{PlaceMembers}
use Rattle.report_texts.specs.FileText.{counted, file_rule_text, file_wanted_text}
use Rattle.report_texts.specs.LongText.{name_text, stands_at, message_of, wanted_text}
use Rattle.report_json.specs.Json.{text_data, count_data, option_data, field_members, fields_data, type_data, place_members, fault_members, fault_object, byte_data, file_place, file_fault_object}
use Rattle.report_json.specs.JsonText.{string_text, option_text, field_text, byte_text, where_text, rule_text, tail_text, fault_text, fault_object_text, file_fault_object_text}

in_one_row : (b byte x expected f fields g group l line r rtype u rule s detail t text n transaction end : List ℕ)
    → (b ++ byte ++ x) ++ expected ++ f ++ fields ++ (g ++ group ++ l ++ line ++ r ++ rtype) ++ (u ++ rule) ++ (s ++ detail ++ t ++ text ++ n ++ transaction ++ end)
    ≡ b ++ (byte ++ (x ++ (expected ++ (f ++ (fields ++ (g ++ (group ++ (l ++ (line ++ (r ++ (rtype ++ (u ++ (rule ++ (s ++ (detail ++ (t ++ (text ++ (n ++ (transaction ++ end)))))))))))))))))))
in_one_row b byte x expected f fields g group l line r rtype u rule s detail t text n transaction end = simp append_assoc

object_is : (line : ℕ) (rtype : Data) (group transaction detail : Option ℕ) (rule text fields byte expected : Data)
    → codes "{\"byte\":" ++ (compact_text byte
    ++ (codes ",\"expected\":" ++ (compact_text expected
    ++ (codes ",\"fields\":" ++ (compact_text fields
    ++ (codes ",\"group\":" ++ (compact_text (option_data group)
    ++ (codes ",\"line\":" ++ (decimal line
    ++ (codes ",\"record\":" ++ (compact_text rtype
    ++ (codes ",\"rule\":" ++ (compact_text rule
    ++ (codes ",\"sequence\":" ++ (compact_text (option_data detail)
    ++ (codes ",\"text\":" ++ (compact_text text
    ++ (codes ",\"transaction\":" ++ (compact_text (option_data transaction) ++ codes "}")))))))))))))))))))
    ≡ compact_text (object (fault_members (place_members line rtype group transaction detail) rule text fields byte expected))
unfolding escape_byte
object_is line rtype group transaction detail rule text fields byte expected = refl

pub fault_is : (line : ℕ) (rtype : Option (List ℕ)) (group transaction detail : Option ℕ) (letter : List ℕ) (number : ℕ) (text : List ℕ) (fields byte expected : Data)
    → fault_text (codes "{\"byte\":" ++ compact_text byte ++ codes ",\"expected\":") (compact_text expected) (compact_text fields) (where_text group line rtype) (rule_text letter number) (tail_text detail text transaction)
    ≡ compact_text (object (fault_members (place_members line (type_data rtype) group transaction detail) (text_data (counted letter number)) (text_data text) fields byte expected))
fault_is line rtype group transaction detail letter number text fields byte expected =
    in_one_row (codes "{\"byte\":") (compact_text byte) (codes ",\"expected\":") (compact_text expected) (codes ",\"fields\":") (compact_text fields)
    (codes ",\"group\":") (option_text group) (codes ",\"line\":") (decimal line) (codes ",\"record\":") (compact_text (type_data rtype))
    (codes ",\"rule\":") (string_text (counted letter number)) (codes ",\"sequence\":") (option_text detail) (codes ",\"text\":") (string_text text)
    (codes ",\"transaction\":") (option_text transaction) (codes "}")
    ∙ object_is line (type_data rtype) group transaction detail (text_data (counted letter number)) (text_data text) fields byte expected

-- of a byte that is wrong
seven_in_a_row : (a b c d e f g : List ℕ) → a ++ b ++ c ++ d ++ e ++ f ++ g ≡ a ++ (b ++ (c ++ (d ++ (e ++ (f ++ g)))))
seven_in_a_row a b c d e f g = simp append_assoc

wrong_object : (wrong : WrongByte)
    → codes "{\"byte\":" ++ (decimal wrong.byte ++ (codes ",\"in_file\":" ++ (decimal wrong.in_file ++ (codes ",\"in_line\":" ++ (decimal wrong.in_line ++ codes "}")))))
    ≡ compact_text (byte_data (Some wrong))
unfolding escape_byte
wrong_object wrong = refl

pub byte_is : (wrong : Option WrongByte) → byte_text wrong ≡ compact_text (byte_data wrong)
byte_is None = refl
byte_is (Some wrong) =
    seven_in_a_row (codes "{\"byte\":") (decimal wrong.byte) (codes ",\"in_file\":") (decimal wrong.in_file) (codes ",\"in_line\":") (decimal wrong.in_line) (codes "}")
    ∙ wrong_object wrong

-- of a fault of a transaction
pub told_is : (line : List ℕ) (f : Finding) → fault_object_text line f ≡ compact_text (fault_object line f)
told_is line f =
    fault_is f.line (Some f.fault.rtype) (Some f.group) (Some f.transaction) (Some f.fault.sequence) (codes "J") f.fault.number (message_of f.fault.number)
    (fields_data line f.fields) null (text_data (wanted_text f.fault.number f.expected))

-- of the fault of a file, in the record that stands there
pub file_told_is : (line : List ℕ) (f : FileFinding) (place : PlaceMembers)
    → ((n : ℕ) → file_place n f.rtype f.place ≡ place_members n (type_data place.rtype) place.group place.transaction place.detail)
    → file_fault_object_text line f place ≡ compact_text (file_fault_object line f)
file_told_is line f place stands =
    let rule = text_data (counted (codes "F") f.number) in
    let text = text_data (file_rule_text f.number) in
    let expected = text_data (file_wanted_text f.expected) in
    let fields = fields_data line f.fields in
    ap
    (λ (byte : List ℕ). fault_text (codes "{\"byte\":" ++ byte ++ codes ",\"expected\":") (string_text (file_wanted_text f.expected)) (compact_text fields)
    (where_text place.group f.line place.rtype) (rule_text (codes "F") f.number) (tail_text place.detail (file_rule_text f.number) place.transaction))
    (byte_is f.byte)
    ∙ fault_is f.line place.rtype place.group place.transaction place.detail (codes "F") f.number (file_rule_text f.number) fields (byte_data f.byte) expected
    ∙ ap (λ (at : Members). compact_text (object (fault_members at rule text fields (byte_data f.byte) expected))) (sym (stands f.line))

-- of a field
nine_in_a_row : (a b c d e f g h i : List ℕ) → a ++ b ++ c ++ d ++ e ++ f ++ g ++ h ++ i ≡ a ++ (b ++ (c ++ (d ++ (e ++ (f ++ (g ++ (h ++ i)))))))
nine_in_a_row a b c d e f g h i = simp append_assoc

field_object : (bytes name : Data) (start width : ℕ)
    → codes "{\"bytes\":" ++ (compact_text bytes ++ (codes ",\"length\":" ++ (decimal width ++ (codes ",\"name\":" ++ (compact_text name ++ (codes ",\"start\":" ++ (decimal start ++ codes "}")))))))
    ≡ compact_text (object (put (codes "bytes") bytes (put (codes "length") (count_data width) (put (codes "start") (count_data start) (put (codes "name") name no_members)))))
unfolding escape_byte
field_object bytes name start width = refl

pub field_is : (line : List ℕ) (spot : Spot) → field_text line spot ≡ compact_text (object (field_members line spot))
field_is line spot =
    nine_in_a_row (codes "{\"bytes\":") (string_text (stands_at line spot.column)) (codes ",\"length\":") (decimal spot.column.width) (codes ",\"name\":")
    (string_text (name_text spot.name)) (codes ",\"start\":") (decimal spot.column.start) (codes "}")
    ∙ field_object (text_data (stands_at line spot.column)) (text_data (name_text spot.name)) spot.column.start spot.column.width

-- one item more is written, with a comma where one stands before
pub item_then : (out mid new text : List ℕ) (later : Bool) (d : Data) (ds : Items) → mid ≡ out ++ comma_if later → new ≡ mid ++ text → text ≡ compact_text d
    → new ++ items_text true ds ≡ out ++ items_text later (item d ds)
item_then out mid new text later d ds wrote then_wrote is =
    ap (λ (x : List ℕ). x ++ items_text true ds) (then_wrote ∙ ap (λ (x : List ℕ). x ++ text) wrote)
    ∙ append_assoc (out ++ comma_if later) text (items_text true ds)
    ∙ append_assoc out (comma_if later) (text ++ items_text true ds)
    ∙ ap (λ (x : List ℕ). out ++ (comma_if later ++ (x ++ items_text true ds))) is
