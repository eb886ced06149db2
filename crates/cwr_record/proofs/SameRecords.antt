-- Two records with the same values are one.
use Rattle.std.specs.Prelude.{codes, if◌then◌else◌}
use Rattle.std.specs.Str.{bytes_eq}
use Rattle.std.proofs.Common.{refl, sym, ◌∙◌, ◌≡◌, ℕ, List, [], get_or, ap, Option, None}
use Rattle.cwr_record.specs.declared.prefix.Prefix.{Prefix}
use Rattle.cwr_record.specs.declared.control.Header.{Header}
use Rattle.cwr_record.specs.declared.control.GroupHead.{GroupHead}
use Rattle.cwr_record.specs.declared.control.GroupTrailer.{GroupTrailer}
use Rattle.cwr_record.specs.declared.control.FileTrailer.{FileTrailer}
use Rattle.cwr_record.specs.declared.acknowledgement.Ack.{Ack}
use Rattle.cwr_record.specs.declared.works.WorkKind.{WorkKind}
use Rattle.cwr_record.specs.declared.works.WorkKind.TheVariants.{Nwr, Rev}
use Rattle.cwr_record.specs.declared.works.WorkHead.{WorkHead}
use Rattle.cwr_record.specs.declared.works.AltTitle.{AltTitle}
use Rattle.cwr_record.specs.declared.works.CrossRef.{CrossRef}
use Rattle.cwr_record.specs.declared.publishers.PublisherKind.{PublisherKind}
use Rattle.cwr_record.specs.declared.publishers.PublisherKind.TheVariants.{Spu, Opu}
use Rattle.cwr_record.specs.declared.publishers.Publisher.{Publisher}
use Rattle.cwr_record.specs.declared.publishers.PublisherTerritory.{PublisherTerritory}
use Rattle.cwr_record.specs.Publishers as publishers
use Rattle.cwr_record.specs.declared.writers.WriterKind.{WriterKind}
use Rattle.cwr_record.specs.declared.writers.WriterKind.TheVariants.{Swr, Owr}
use Rattle.cwr_record.specs.declared.writers.Writer.{Writer}
use Rattle.cwr_record.specs.declared.writers.WriterTerritory.{WriterTerritory}
use Rattle.cwr_record.specs.declared.writers.Link.{Link}
use Rattle.cwr_record.specs.Writers as writers
use Rattle.cwr_record.specs.declared.acknowledgement.Message.{Message}
use Rattle.cwr_record.specs.Kinds.{work_kind_code, publisher_kind_code, writer_kind_code}
use Rattle.cwr_record.specs.Works as works
use Rattle.cwr_record.specs.Layout.{Value, Bytes, Number, Maybe}
use Rattle.cwr_record.specs.Control as control
use Rattle.cwr_record.specs.Acknowledgement as acknowledgement
use Rattle.cwr_record.proofs.lemmas.RoundTrip.{values}

-- the value of a row, as what it is

abbrev number : List Value → ℕ → ℕ
number vs k = elim (get_or vs k (Number 0)) as (λ _. ℕ) [ Bytes b ↦ 0 | Number n ↦ n | Maybe o ↦ 0 ]

abbrev bytes : List Value → ℕ → List ℕ
bytes vs k = elim (get_or vs k (Number 0)) as (λ _. List ℕ) [ Bytes b ↦ b | Number n ↦ [] | Maybe o ↦ [] ]

abbrev maybe : List Value → ℕ → Option ℕ
maybe vs k = elim (get_or vs k (Number 0)) as (λ _. Option ℕ) [ Bytes b ↦ None | Number n ↦ None | Maybe o ↦ o ]

-- a kind is known by its record type

abbrev work_kind_named : List ℕ → WorkKind
work_kind_named name = if bytes_eq name (codes "NWR") then Nwr else Rev

work_kind_named-code : (k : WorkKind) → work_kind_named (work_kind_code k) ≡ k
work_kind_named-code Nwr = refl
work_kind_named-code Rev = refl

abbrev publisher_kind_named : List ℕ → PublisherKind
publisher_kind_named name = if bytes_eq name (codes "SPU") then Spu else Opu

publisher_kind_named-code : (k : PublisherKind) → publisher_kind_named (publisher_kind_code k) ≡ k
publisher_kind_named-code Spu = refl
publisher_kind_named-code Opu = refl

abbrev writer_kind_named : List ℕ → WriterKind
writer_kind_named name = if bytes_eq name (codes "SWR") then Swr else Owr

writer_kind_named-code : (k : WriterKind) → writer_kind_named (writer_kind_code k) ≡ k
writer_kind_named-code Swr = refl
writer_kind_named-code Owr = refl

-- the record of a table's values

abbrev a_prefix : List Value → Prefix
a_prefix vs = record { transaction = number vs 1; detail = number vs 2 }

abbrev a_header : List Value → Header
a_header vs = record {
  sender = bytes vs 1;
  name = bytes vs 2;
  creation_date = number vs 3;
  creation_time = number vs 4;
  transmission_date = number vs 5;
  character_set = bytes vs 6;
}

pub same_header : (x y : Header) → values control.header x ≡ values control.header y → x ≡ y
same_header x y e = ap a_header e

abbrev a_group_head : List Value → GroupHead
a_group_head vs = record {
  transaction_type = bytes vs 1;
  group = number vs 2;
  version = bytes vs 3;
  batch_request = bytes vs 4;
  submission_type = bytes vs 5;
}

pub same_group_head : (x y : GroupHead) → values control.group_head x ≡ values control.group_head y → x ≡ y
same_group_head x y e = ap a_group_head e

abbrev a_group_trailer : List Value → GroupTrailer
a_group_trailer vs = record { group = number vs 1; transactions = number vs 2; records = number vs 3 }

pub same_group_trailer : (x y : GroupTrailer) → values control.group_trailer x ≡ values control.group_trailer y → x ≡ y
same_group_trailer x y e = ap a_group_trailer e

abbrev a_file_trailer : List Value → FileTrailer
a_file_trailer vs = record { groups = number vs 1; transactions = number vs 2; records = number vs 3 }

pub same_file_trailer : (x y : FileTrailer) → values control.file_trailer x ≡ values control.file_trailer y → x ≡ y
same_file_trailer x y e = ap a_file_trailer e

abbrev an_ack : List Value → Ack
an_ack vs = record {
  prefix = a_prefix vs;
  creation_date = number vs 3;
  creation_time = number vs 4;
  original_group = number vs 5;
  original_transaction = number vs 6;
  original_type = bytes vs 7;
  title = bytes vs 8;
  submitter_number = bytes vs 9;
  recipient_number = bytes vs 10;
  processing_date = number vs 11;
  status = bytes vs 12;
}

pub same_ack : (x y : Ack) → values acknowledgement.ack x ≡ values acknowledgement.ack y → x ≡ y
same_ack x y e = ap an_ack e

abbrev a_work_head : List Value → WorkHead
a_work_head vs = record {
  prefix = a_prefix vs;
  kind = work_kind_named (bytes vs 0);
  title = bytes vs 3;
  language = bytes vs 4;
  submitter_number = bytes vs 5;
  iswc = maybe vs 6;
  copyright_date = maybe vs 7;
  copyright_number = bytes vs 8;
  distribution_category = bytes vs 9;
  duration = maybe vs 10;
  recorded_indicator = bytes vs 11;
  text_music_relationship = bytes vs 12;
  composite_type = bytes vs 13;
  version_type = bytes vs 14;
  excerpt_type = bytes vs 15;
  arrangement = bytes vs 16;
  lyric_adaptation = bytes vs 17;
  contact_name = bytes vs 18;
  contact_id = bytes vs 19;
}

kept_work_head : (x : WorkHead) → a_work_head (values works.work_head x) ≡ x
kept_work_head x = ap (λ (k : WorkKind). record x { kind = k }) (work_kind_named-code x.kind)

pub same_work_head : (x y : WorkHead) → values works.work_head x ≡ values works.work_head y → x ≡ y
same_work_head x y e = sym (kept_work_head x) ∙ (ap a_work_head e ∙ kept_work_head y)

abbrev an_alt_title : List Value → AltTitle
an_alt_title vs = record {
  prefix = a_prefix vs;
  title = bytes vs 3;
  title_type = bytes vs 4;
  language = bytes vs 5;
}

pub same_alt_title : (x y : AltTitle) → values works.alt_title x ≡ values works.alt_title y → x ≡ y
same_alt_title x y e = ap an_alt_title e

abbrev a_cross_ref : List Value → CrossRef
a_cross_ref vs = record {
  prefix = a_prefix vs;
  organisation = bytes vs 3;
  identifier = bytes vs 4;
  identifier_type = bytes vs 5;
  validity = bytes vs 6;
}

pub same_cross_ref : (x y : CrossRef) → values works.cross_ref x ≡ values works.cross_ref y → x ≡ y
same_cross_ref x y e = ap a_cross_ref e

abbrev a_publisher : List Value → Publisher
a_publisher vs = record {
  prefix = a_prefix vs;
  kind = publisher_kind_named (bytes vs 0);
  sequence = bytes vs 3;
  party = bytes vs 4;
  name = bytes vs 5;
  unknown_indicator = bytes vs 6;
  publisher_type = bytes vs 7;
  tax_id = bytes vs 8;
  ipi_name_number = bytes vs 9;
  submitter_agreement = bytes vs 10;
  performing_society = bytes vs 11;
  performing_ownership = number vs 12;
  mechanical_society = bytes vs 13;
  mechanical_ownership = number vs 14;
  synchronization_society = bytes vs 15;
  synchronization_ownership = number vs 16;
}

kept_publisher : (x : Publisher) → a_publisher (values publishers.publisher x) ≡ x
kept_publisher x = ap (λ (k : PublisherKind). record x { kind = k }) (publisher_kind_named-code x.kind)

pub same_publisher : (x y : Publisher) → values publishers.publisher x ≡ values publishers.publisher y → x ≡ y
same_publisher x y e = sym (kept_publisher x) ∙ (ap a_publisher e ∙ kept_publisher y)

abbrev a_publisher_territory : List Value → PublisherTerritory
a_publisher_territory vs = record {
  prefix = a_prefix vs;
  party = bytes vs 3;
  performing_collection = number vs 4;
  mechanical_collection = number vs 5;
  synchronization_collection = number vs 6;
  indicator = bytes vs 7;
  territory = bytes vs 8;
  shares_change = bytes vs 9;
  sequence = bytes vs 10;
}

pub same_publisher_territory : (x y : PublisherTerritory) → values publishers.publisher_territory x ≡ values publishers.publisher_territory y → x ≡ y
same_publisher_territory x y e = ap a_publisher_territory e

abbrev a_writer : List Value → Writer
a_writer vs = record {
  prefix = a_prefix vs;
  kind = writer_kind_named (bytes vs 0);
  party = bytes vs 3;
  last_name = bytes vs 4;
  first_name = bytes vs 5;
  unknown_indicator = bytes vs 6;
  designation = bytes vs 7;
  tax_id = bytes vs 8;
  ipi_name_number = bytes vs 9;
  performing_society = bytes vs 10;
  performing_ownership = number vs 11;
  mechanical_society = bytes vs 12;
  mechanical_ownership = number vs 13;
  synchronization_society = bytes vs 14;
  synchronization_ownership = number vs 15;
}

kept_writer : (x : Writer) → a_writer (values writers.writer x) ≡ x
kept_writer x = ap (λ (k : WriterKind). record x { kind = k }) (writer_kind_named-code x.kind)

pub same_writer : (x y : Writer) → values writers.writer x ≡ values writers.writer y → x ≡ y
same_writer x y e = sym (kept_writer x) ∙ (ap a_writer e ∙ kept_writer y)

abbrev a_writer_territory : List Value → WriterTerritory
a_writer_territory vs = record {
  prefix = a_prefix vs;
  party = bytes vs 3;
  performing_collection = number vs 4;
  mechanical_collection = number vs 5;
  synchronization_collection = number vs 6;
  indicator = bytes vs 7;
  territory = bytes vs 8;
  shares_change = bytes vs 9;
  sequence = bytes vs 10;
}

pub same_writer_territory : (x y : WriterTerritory) → values writers.writer_territory x ≡ values writers.writer_territory y → x ≡ y
same_writer_territory x y e = ap a_writer_territory e

abbrev a_link : List Value → Link
a_link vs = record {
  prefix = a_prefix vs;
  publisher_party = bytes vs 3;
  publisher_name = bytes vs 4;
  submitter_agreement = bytes vs 5;
  society_agreement = bytes vs 6;
  writer_party = bytes vs 7;
}

pub same_link : (x y : Link) → values writers.link x ≡ values writers.link y → x ≡ y
same_link x y e = ap a_link e

abbrev a_message : List Value → Message
a_message vs = record {
  prefix = a_prefix vs;
  message_type = bytes vs 3;
  original_record = number vs 4;
  record_type = bytes vs 5;
  message_level = bytes vs 6;
  validation_number = number vs 7;
  text = bytes vs 8;
}

pub same_message : (x y : Message) → values acknowledgement.message x ≡ values acknowledgement.message y → x ≡ y
same_message x y e = ap a_message e
