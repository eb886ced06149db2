-- What single fields of a line are, where the line stands for a record. The tables and the readings name the same
-- columns, and the laws say that so they agree.
use Rattle.std.specs.Prelude.{◌≡◌, ℕ, List, [], ◌∷◌, Some}
use Rattle.cwr_record.specs.Columns.{field_at, link_publisher_party}
use Rattle.cwr_record.specs.RecordTypes.{type_of}
use Rattle.cwr_record.specs.Parties.{party_column, ownership_columns, collection_columns, indicator_column, territory_column, shares_at}
use Rattle.cwr_record.specs.declared.record_type.RecordType.{RecordType}
use Rattle.cwr_record.specs.declared.record_type.RecordType.TheVariants as of_type
use Rattle.cwr_record.specs.declared.works.WorkKind.{WorkKind}
use Rattle.cwr_record.specs.declared.works.WorkKind.TheVariants.{Nwr, Rev}
use Rattle.cwr_record.specs.declared.publishers.PublisherKind.{PublisherKind}
use Rattle.cwr_record.specs.declared.publishers.PublisherKind.TheVariants.{Spu, Opu}
use Rattle.cwr_record.specs.declared.publishers.Publisher.{Publisher}
use Rattle.cwr_record.specs.declared.publishers.PublisherTerritory.{PublisherTerritory}
use Rattle.cwr_record.specs.declared.writers.WriterKind.{WriterKind}
use Rattle.cwr_record.specs.declared.writers.WriterKind.TheVariants.{Swr, Owr}
use Rattle.cwr_record.specs.declared.writers.Writer.{Writer}
use Rattle.cwr_record.specs.declared.writers.WriterTerritory.{WriterTerritory}
use Rattle.cwr_record.specs.declared.writers.Link.{Link}

-- the record type of a registration
abbrev pub type_of_work : WorkKind → RecordType
type_of_work Nwr = of_type.Nwr
type_of_work Rev = of_type.Rev

-- the record type of a publisher
abbrev pub type_of_publisher : PublisherKind → RecordType
type_of_publisher Spu = of_type.Spu
type_of_publisher Opu = of_type.Opu

-- the record type of a writer
abbrev pub type_of_writer : WriterKind → RecordType
type_of_writer Swr = of_type.Swr
type_of_writer Owr = of_type.Owr

-- the line's record type, party and ownership shares (performing, mechanical, synchronization) are those of the
-- publisher
pub record IsLineOfPublisher (line : List ℕ) (x : Publisher) : Type 0 where
  pub type_is : type_of line ≡ type_of_publisher x.kind
  pub party : field_at line (party_column (type_of line)) ≡ x.party
  pub ownership : shares_at line (ownership_columns (type_of line)) ≡ Some x.performing_ownership ∷ Some x.mechanical_ownership ∷ Some x.synchronization_ownership ∷ []

-- the line is an SPT, and its party, collection shares, indicator and territory are those of the record
pub record IsLineOfPublisherTerritory (line : List ℕ) (x : PublisherTerritory) : Type 0 where
  pub type_is : type_of line ≡ of_type.Spt
  pub party : field_at line (party_column (type_of line)) ≡ x.party
  pub collection : shares_at line (collection_columns (type_of line)) ≡ Some x.performing_collection ∷ Some x.mechanical_collection ∷ Some x.synchronization_collection ∷ []
  pub indicator : field_at line (indicator_column (type_of line)) ≡ x.indicator
  pub territory : field_at line (territory_column (type_of line)) ≡ x.territory

-- the line's record type, party and ownership shares (performing, mechanical, synchronization) are those of the writer
pub record IsLineOfWriter (line : List ℕ) (x : Writer) : Type 0 where
  pub type_is : type_of line ≡ type_of_writer x.kind
  pub party : field_at line (party_column (type_of line)) ≡ x.party
  pub ownership : shares_at line (ownership_columns (type_of line)) ≡ Some x.performing_ownership ∷ Some x.mechanical_ownership ∷ Some x.synchronization_ownership ∷ []

-- the line is an SWT, and its party, collection shares, indicator and territory are those of the record
pub record IsLineOfWriterTerritory (line : List ℕ) (x : WriterTerritory) : Type 0 where
  pub type_is : type_of line ≡ of_type.Swt
  pub party : field_at line (party_column (type_of line)) ≡ x.party
  pub collection : shares_at line (collection_columns (type_of line)) ≡ Some x.performing_collection ∷ Some x.mechanical_collection ∷ Some x.synchronization_collection ∷ []
  pub indicator : field_at line (indicator_column (type_of line)) ≡ x.indicator
  pub territory : field_at line (territory_column (type_of line)) ≡ x.territory

-- the line is a PWR, and its publisher's party is that of the record
pub record IsLineOfLink (line : List ℕ) (x : Link) : Type 0 where
  pub type_is : type_of line ≡ of_type.Pwr
  pub publisher : field_at line link_publisher_party ≡ x.publisher_party
