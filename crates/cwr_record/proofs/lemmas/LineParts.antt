-- Where a line stands for a record, its fields are the parts of the record.
use Rattle.std.proofs.Common.{◌≡◌, ◌∙◌, ℕ, Bool, true, false, List, [], ◌∷◌, Option, Some, None, refl, sym, ap}
use Rattle.std.specs.Prelude.{if◌then◌else◌, ◌||◌, option_map, codes}
use Rattle.std.specs.Str.{bytes_eq}
use Rattle.std.proofs.lemmas.Slice.Eq.{bytes_eq-Decides}
use Rattle.cwr_record.specs.Columns.{field_at, every_record_type}
use Rattle.cwr_record.specs.Layout.{Value, Bytes, Number, value_of, StandsFor}
use Rattle.cwr_record.specs.Kinds.{work_kind_code, publisher_kind_code, writer_kind_code}
use Rattle.cwr_record.specs.RecordTypes.{type_of, type_named}
use Rattle.cwr_record.specs.LineOf.{type_of_work, type_of_publisher, type_of_writer, IsLineOfPublisher, IsLineOfPublisherTerritory, IsLineOfWriter, IsLineOfWriterTerritory, IsLineOfLink}
use Rattle.cwr_record.specs.Works as works
use Rattle.cwr_record.specs.Publishers as publishers
use Rattle.cwr_record.specs.Writers as writers
use Rattle.cwr_record.specs.declared.slot.Content.TheVariants.{Kind, OneOf}
use Rattle.cwr_record.specs.declared.record_type.RecordType.TheVariants as of_type
use Rattle.cwr_record.specs.declared.works.WorkKind.{WorkKind}
use Rattle.cwr_record.specs.declared.works.WorkKind.TheVariants.{Nwr, Rev}
use Rattle.cwr_record.specs.declared.works.WorkHead.{WorkHead}
use Rattle.cwr_record.specs.declared.publishers.PublisherKind.{PublisherKind}
use Rattle.cwr_record.specs.declared.publishers.PublisherKind.TheVariants.{Spu, Opu}
use Rattle.cwr_record.specs.declared.publishers.Publisher.{Publisher}
use Rattle.cwr_record.specs.declared.publishers.PublisherTerritory.{PublisherTerritory}
use Rattle.cwr_record.specs.declared.writers.WriterKind.{WriterKind}
use Rattle.cwr_record.specs.declared.writers.WriterKind.TheVariants.{Swr, Owr}
use Rattle.cwr_record.specs.declared.writers.Writer.{Writer}
use Rattle.cwr_record.specs.declared.writers.WriterTerritory.{WriterTerritory}
use Rattle.cwr_record.specs.declared.writers.Link.{Link}

-- a field that was read as a number is that number
pub number_is : (o : Option ℕ) (n : ℕ) → option_map Number o ≡ Some (Number n) → o ≡ Some n
number_is None n e = absurd cc
number_is (Some m) n e = cc

chosen : (t : Bool) (bytes code : List ℕ) → (if t then Some (Bytes bytes) else None) ≡ Some (Bytes code) → bytes ≡ code
chosen true bytes code e = cc
chosen false bytes code e = absurd cc

is_chosen : (t : Bool) (v w : Value) → (if t then Some v else None) ≡ Some w → t ≡ true
is_chosen true v w e = refl
is_chosen false v w e = absurd cc

-- a line that is named by one of two codes
pub one_named : (line first second code : List ℕ) → value_of (OneOf first second) (field_at line every_record_type) ≡ Some (Bytes code)
    → type_of line ≡ type_named code
one_named line first second code e =
    let bytes = field_at line every_record_type in
    ap type_named (chosen (bytes_eq bytes first || bytes_eq bytes second) bytes code e)

-- a line that is named by a code
pub named : (line code : List ℕ) → value_of (Kind code) (field_at line every_record_type) ≡ Some (Bytes code)
    → type_of line ≡ type_named code
named line code e =
    let bytes = field_at line every_record_type in
    ap type_named ((bytes_eq-Decides bytes code).0 (is_chosen (bytes_eq bytes code) (Bytes code) (Bytes code) e))

work_type : (kind : WorkKind) → type_named (work_kind_code kind) ≡ type_of_work kind
work_type Nwr = refl
work_type Rev = refl

publisher_type : (kind : PublisherKind) → type_named (publisher_kind_code kind) ≡ type_of_publisher kind
publisher_type Spu = refl
publisher_type Opu = refl

writer_type : (kind : WriterKind) → type_named (writer_kind_code kind) ≡ type_of_writer kind
writer_type Swr = refl
writer_type Owr = refl

three : (a b c : Option ℕ) (x y z : ℕ) → a ≡ Some x → b ≡ Some y → c ≡ Some z → a ∷ b ∷ c ∷ [] ≡ Some x ∷ Some y ∷ Some z ∷ []
three a b c x y z p q r = rw (p, q, r) refl

pub work_is : (line : List ℕ) (x : WorkHead) → StandsFor works.work_head line x → type_of line ≡ type_of_work x.kind
work_is line x h = one_named line (codes "NWR") (codes "REV") (work_kind_code x.kind) h.0 ∙ work_type x.kind

publisher_at : (line : List ℕ) (x : Publisher) (kind : PublisherKind) → x.kind ≡ kind → type_of line ≡ type_of_publisher kind
    → StandsFor publishers.publisher line x → IsLineOfPublisher line x
publisher_at line x Spu k t h = record {
  type_is = rw k t;
  party = rw t (sym h.1.1.1.1.0);
  ownership = rw t (three _ _ _ _ _ _ (number_is _ _ h.1.1.1.1.1.1.1.1.1.1.1.1.0) (number_is _ _ h.1.1.1.1.1.1.1.1.1.1.1.1.1.1.0) (number_is _ _ h.1.1.1.1.1.1.1.1.1.1.1.1.1.1.1.1.0));
}
publisher_at line x Opu k t h = record {
  type_is = rw k t;
  party = rw t (sym h.1.1.1.1.0);
  ownership = rw t (three _ _ _ _ _ _ (number_is _ _ h.1.1.1.1.1.1.1.1.1.1.1.1.0) (number_is _ _ h.1.1.1.1.1.1.1.1.1.1.1.1.1.1.0) (number_is _ _ h.1.1.1.1.1.1.1.1.1.1.1.1.1.1.1.1.0));
}

pub publisher_is : (line : List ℕ) (x : Publisher) → StandsFor publishers.publisher line x → IsLineOfPublisher line x
publisher_is line x h =
    publisher_at line x x.kind refl (one_named line (codes "SPU") (codes "OPU") (publisher_kind_code x.kind) h.0 ∙ publisher_type x.kind) h

writer_at : (line : List ℕ) (x : Writer) (kind : WriterKind) → x.kind ≡ kind → type_of line ≡ type_of_writer kind
    → StandsFor writers.writer line x → IsLineOfWriter line x
writer_at line x Swr k t h = record {
  type_is = rw k t;
  party = rw t (sym h.1.1.1.0);
  ownership = rw t (three _ _ _ _ _ _ (number_is _ _ h.1.1.1.1.1.1.1.1.1.1.1.0) (number_is _ _ h.1.1.1.1.1.1.1.1.1.1.1.1.1.0) (number_is _ _ h.1.1.1.1.1.1.1.1.1.1.1.1.1.1.1.0));
}
writer_at line x Owr k t h = record {
  type_is = rw k t;
  party = rw t (sym h.1.1.1.0);
  ownership = rw t (three _ _ _ _ _ _ (number_is _ _ h.1.1.1.1.1.1.1.1.1.1.1.0) (number_is _ _ h.1.1.1.1.1.1.1.1.1.1.1.1.1.0) (number_is _ _ h.1.1.1.1.1.1.1.1.1.1.1.1.1.1.1.0));
}

pub writer_is : (line : List ℕ) (x : Writer) → StandsFor writers.writer line x → IsLineOfWriter line x
writer_is line x h =
    writer_at line x x.kind refl (one_named line (codes "SWR") (codes "OWR") (writer_kind_code x.kind) h.0 ∙ writer_type x.kind) h

pub publisher_territory_is : (line : List ℕ) (x : PublisherTerritory) → StandsFor publishers.publisher_territory line x → IsLineOfPublisherTerritory line x
publisher_territory_is line x h =
    let t : type_of line ≡ of_type.Spt = named line (codes "SPT") h.0 in
    record {
      type_is = t;
      party = rw t (sym h.1.1.1.0);
      collection = rw t (three _ _ _ _ _ _ (number_is _ _ h.1.1.1.1.0) (number_is _ _ h.1.1.1.1.1.0) (number_is _ _ h.1.1.1.1.1.1.0));
      indicator = rw t (sym h.1.1.1.1.1.1.1.0);
      territory = rw t (sym h.1.1.1.1.1.1.1.1.0);
    }

pub writer_territory_is : (line : List ℕ) (x : WriterTerritory) → StandsFor writers.writer_territory line x → IsLineOfWriterTerritory line x
writer_territory_is line x h =
    let t : type_of line ≡ of_type.Swt = named line (codes "SWT") h.0 in
    record {
      type_is = t;
      party = rw t (sym h.1.1.1.0);
      collection = rw t (three _ _ _ _ _ _ (number_is _ _ h.1.1.1.1.0) (number_is _ _ h.1.1.1.1.1.0) (number_is _ _ h.1.1.1.1.1.1.0));
      indicator = rw t (sym h.1.1.1.1.1.1.1.0);
      territory = rw t (sym h.1.1.1.1.1.1.1.1.0);
    }

pub link_is : (line : List ℕ) (x : Link) → StandsFor writers.link line x → IsLineOfLink line x
link_is line x h = record { type_is = named line (codes "PWR") h.0; publisher = sym h.1.1.1.0 }
