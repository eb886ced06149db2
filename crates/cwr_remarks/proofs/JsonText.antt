-- What is written of a remark is the text of its object.
use Rattle.std.proofs.Common.{◌≡◌, ◌∙◌, ℕ, List, ◌++◌, Option, Bool, refl, ap, append_assoc}
use Rattle.std.specs.Prelude.{codes, decimal}
use Rattle.json.specs.Print.{escape_byte}
use Rattle.serde_json.specs.Data.{Data, object, no_members, put}
use Rattle.serde_json.specs.Written.{compact_text, comma_if}
use Rattle.report_json.specs.Json.{text_data, count_data, option_data, type_data}
use Rattle.cwr_remarks.specs.declared.remark.Remark.{Remark}
use Rattle.cwr_remarks.specs.Json.{kind_text, first_in, count_in, length_in, layout_in, remark_data}
use Rattle.report_json.specs.JsonText.{option_text, string_text}
use Rattle.cwr_remarks.specs.JsonText.{remark_text}
use Rattle.cwr_remarks.specs.Texts.{what_text}

in_one_row : (a b c d e f g h i j k l m n o p q : List ℕ)
    → (a ++ b ++ c ++ d ++ e ++ f ++ g ++ h ++ i ++ j) ++ k ++ l ++ m ++ n ++ o ++ p ++ q
    ≡ a ++ (b ++ (c ++ (d ++ (e ++ (f ++ (g ++ (h ++ (i ++ (j ++ (k ++ (l ++ (m ++ (n ++ (o ++ (p ++ q)))))))))))))))
in_one_row a b c d e f g h i j k l m n o p q = simp append_assoc

object_is : (count first layout length : Option ℕ) (kind rtype text : Data) (line : ℕ)
    → codes "{\"count\":" ++ (compact_text (option_data count)
    ++ (codes ",\"first\":" ++ (compact_text (option_data first)
    ++ (codes ",\"kind\":" ++ (compact_text kind
    ++ (codes ",\"layout\":" ++ (compact_text (option_data layout)
    ++ (codes ",\"length\":" ++ (compact_text (option_data length)
    ++ (codes ",\"line\":" ++ (decimal line
    ++ (codes ",\"record\":" ++ (compact_text rtype
    ++ (codes ",\"text\":" ++ (compact_text text ++ codes "}")))))))))))))))
    ≡ compact_text (object
    (put (codes "layout") (option_data layout)
    (put (codes "length") (option_data length)
    (put (codes "count") (option_data count)
    (put (codes "first") (option_data first)
    (put (codes "text") text
    (put (codes "kind") kind
    (put (codes "record") rtype
    (put (codes "line") (count_data line) no_members)))))))))
unfolding escape_byte
object_is count first layout length kind rtype text line = refl

remark_is : (r : Remark) → remark_text r ≡ compact_text (remark_data r)
remark_is r =
    in_one_row (codes "{\"count\":") (option_text (count_in r.what)) (codes ",\"first\":") (option_text (first_in r.what)) (codes ",\"kind\":") (string_text (kind_text r.what))
    (codes ",\"layout\":") (option_text (layout_in r.what)) (codes ",\"length\":") (option_text (length_in r.what)) (codes ",\"line\":") (decimal r.line)
    (codes ",\"record\":") (compact_text (type_data r.rtype)) (codes ",\"text\":") (string_text (what_text r.what)) (codes "}")
    ∙ object_is (count_in r.what) (first_in r.what) (layout_in r.what) (length_in r.what) (text_data (kind_text r.what)) (type_data r.rtype) (text_data (what_text r.what)) r.line

-- a remark is written, with a comma where one stands before
pub item_is : (out mid new : List ℕ) (later : Bool) (r : Remark) → mid ≡ out ++ comma_if later → new ≡ mid ++ remark_text r
    → new ≡ out ++ (comma_if later ++ compact_text (remark_data r))
item_is out mid new later r wrote then_wrote =
    then_wrote
    ∙ ap (λ (x : List ℕ). x ++ remark_text r) wrote
    ∙ append_assoc out (comma_if later) (remark_text r)
    ∙ ap (λ (x : List ℕ). out ++ (comma_if later ++ x)) (remark_is r)
