-- Where the pieces of a fault stand.
use Rattle.std.proofs.Common.{◌≡◌, ℕ, ◌+◌, true, List, [], ◌∷◌, ◌++◌, Option, Some, None, refl}
use Rattle.std.specs.Prelude.{nat_lt}
use Rattle.cwr_record.specs.declared.columns.Column.{Column}
use Rattle.cwr_report.specs.declared.file_finding.FileFinding.{FileFinding}
use Rattle.cwr_report.specs.declared.file_finding.WrongByte.{WrongByte}
use Rattle.cwr_report.specs.declared.finding.Finding.{Finding}
use Rattle.cwr_report.specs.declared.finding.Spot.{Spot}
use Rattle.html_text.specs.Contexts.{Text, Quoted, behind, is_rule_letter, of_files, of_transactions}
use Rattle.html_text.specs.Fragments.{fragment_text}
use Rattle.html_text.specs.Pieces.{Fixed, Number}
use Rattle.html_text.specs.declared.fragment.Fragment.TheVariants as fragment
use Rattle.html_text.proofs.lemmas.Contexts.{Keeps, behind_append, beyond, bytes, each, either, field_bytes, text}
use Rattle.check_pages.specs.Boxes.{most_places}
use Rattle.check_pages.specs.Faults.{rule_pieces, next_pieces, count_pieces, id_pieces, link_pieces, head_pieces, name_pieces, standing_pieces, spot_pieces, field_pieces, fields_pieces, expected_pieces, byte_place_pieces, byte_pieces, fault_pieces, file_fault_pieces}

pub rule_text : (letter number : ℕ) → Keeps (rule_pieces letter number)
unfolding rule_pieces
rule_text letter number = refl

-- between quotes a rule's name may stand
pub rule_quoted : (letter number : ℕ) → is_rule_letter letter ≡ true → behind Quoted (rule_pieces letter number) ≡ Quoted
unfolding rule_pieces
rule_quoted letter number is = rw is refl

next : (letter number k total : ℕ) → is_rule_letter letter ≡ true → Keeps (next_pieces letter number k total)
unfolding next_pieces fragment_text
next letter number k total is =
    either (nat_lt k total)
    (Fixed fragment.FaultNext ∷ (rule_pieces letter number ++ Fixed fragment.Dot ∷ Number (k + 1) ∷ Fixed fragment.FaultNextEnd ∷ (rule_pieces letter number ++ Fixed fragment.FaultNextClose ∷ [])))
    (Fixed fragment.FaultSmallEnd ∷ []) (simp (behind_append, rule_quoted letter number is, rule_text letter number) refl) refl

count : (letter number k total : ℕ) → is_rule_letter letter ≡ true → Keeps (count_pieces letter number k total)
unfolding count_pieces fragment_text
count letter number k total is =
    either (nat_lt 1 total) (Fixed fragment.FaultOf ∷ Number k ∷ Fixed fragment.Of ∷ Number total ∷ next_pieces letter number k total) [] (next letter number k total is) refl

id : (letter number k : ℕ) → is_rule_letter letter ≡ true → behind Text (id_pieces letter number k) ≡ Quoted
unfolding id_pieces fragment_text
id letter number k is = simp (behind_append, rule_quoted letter number is) refl

link : (letter number : ℕ) → is_rule_letter letter ≡ true → behind Quoted (link_pieces letter number) ≡ Text
unfolding link_pieces fragment_text
link letter number is = simp (behind_append, rule_quoted letter number is, rule_text letter number) refl

head : (letter number k total : ℕ) (t : List ℕ) → is_rule_letter letter ≡ true → Keeps (head_pieces letter number k total t)
unfolding head_pieces fragment_text
head letter number k total t is = simp (behind_append, id letter number k is, link letter number is, text t, count letter number k total is) refl

name : (spot : Spot) → Keeps (name_pieces spot)
unfolding name_pieces fragment_text
name spot = simp (behind_append, text) refl

standing : (line : List ℕ) (column : Column) → Keeps (standing_pieces line column)
unfolding standing_pieces
standing line column = simp (behind_append, field_bytes, beyond) refl

spot : (line : List ℕ) (s : Spot) → Keeps (spot_pieces line s)
unfolding spot_pieces fragment_text
spot line s = simp (behind_append, name, standing) refl

field : (line : List ℕ) (s : Option Spot) → Keeps (field_pieces line s)
field line None = refl
field line (Some s) = spot line s

fields : (line : List ℕ) (spots : List (Option Spot)) → Keeps (fields_pieces line spots)
fields line spots = each (field_pieces line) spots (field line)

expected : (t : List ℕ) → Keeps (expected_pieces t)
unfolding expected_pieces fragment_text
expected t = simp (behind_append, bytes) refl

byte_place : (place : ℕ) → Keeps (byte_place_pieces place)
unfolding byte_place_pieces fragment_text
byte_place place =
    either (nat_lt most_places place) (Fixed fragment.ByteBehind ∷ Number place ∷ Fixed fragment.ByteBehindEnd ∷ []) (Fixed fragment.ByteLine ∷ Number place ∷ Fixed fragment.ByteLineEnd ∷ []) refl refl

byte : (wrong : Option WrongByte) → Keeps (byte_pieces wrong)
unfolding byte_pieces fragment_text
byte None = refl
byte (Some wrong) = simp (behind_append, byte_place) refl

pub fault : (line : List ℕ) (f : Finding) (k total : ℕ) → Keeps (fault_pieces line f k total)
unfolding fault_pieces
fault line f k total = simp (behind_append, λ (number : ℕ) (t : List ℕ). head of_transactions number k total t refl, fields, expected) refl

pub file_fault : (line : List ℕ) (f : FileFinding) → Keeps (file_fault_pieces line f)
unfolding file_fault_pieces
file_fault line f = simp (behind_append, λ (number : ℕ) (t : List ℕ). head of_files number 1 1 t refl, byte, fields, expected) refl
