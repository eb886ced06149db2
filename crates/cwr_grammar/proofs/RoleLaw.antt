-- The role of a line that stands for a record tells the parts of that record.
use Rattle.std.proofs.Common.{◌≡◌, ◌∙◌, ℕ, true, List, Some, refl, ap}
use Rattle.std.specs.Prelude.{codes, option_map}
use Rattle.cwr_record.specs.Columns.{prefix_transaction, prefix_detail}
use Rattle.cwr_record.specs.Layout.{Number, StandsFor}
use Rattle.cwr_record.specs.LineOf.{type_of_work, type_of_publisher, type_of_writer}
use Rattle.cwr_record.specs.RecordTypes.{type_of}
use Rattle.cwr_record.specs.Control as control
use Rattle.cwr_record.specs.Works as works
use Rattle.cwr_record.specs.Publishers as publishers
use Rattle.cwr_record.specs.Writers as writers
use Rattle.cwr_record.specs.declared.control.Header.{Header}
use Rattle.cwr_record.specs.declared.control.GroupHead.{GroupHead}
use Rattle.cwr_record.specs.declared.control.GroupTrailer.{GroupTrailer as Trailer}
use Rattle.cwr_record.specs.declared.control.FileTrailer.{FileTrailer as End}
use Rattle.cwr_record.specs.declared.record_type.RecordType.{RecordType}
use Rattle.cwr_record.specs.declared.record_type.RecordType.TheVariants.{Hdr, Grh, Grt, Trl, Spt, Swt, Pwr, Alt, Xrf}
use Rattle.cwr_record.specs.declared.works.WorkKind.{WorkKind}
use Rattle.cwr_record.specs.declared.works.WorkKind.TheVariants.{Nwr, Rev}
use Rattle.cwr_record.specs.declared.works.WorkHead.{WorkHead}
use Rattle.cwr_record.specs.declared.works.AltTitle.{AltTitle}
use Rattle.cwr_record.specs.declared.works.CrossRef.{CrossRef}
use Rattle.cwr_record.specs.declared.publishers.PublisherKind.{PublisherKind}
use Rattle.cwr_record.specs.declared.publishers.PublisherKind.TheVariants.{Spu, Opu}
use Rattle.cwr_record.specs.declared.publishers.Publisher.{Publisher}
use Rattle.cwr_record.specs.declared.publishers.PublisherTerritory.{PublisherTerritory}
use Rattle.cwr_record.specs.declared.writers.WriterKind.{WriterKind}
use Rattle.cwr_record.specs.declared.writers.WriterKind.TheVariants.{Swr, Owr}
use Rattle.cwr_record.specs.declared.writers.Writer.{Writer}
use Rattle.cwr_record.specs.declared.writers.WriterTerritory.{WriterTerritory}
use Rattle.cwr_record.specs.declared.writers.Link.{Link}
use Rattle.cwr_record.proofs.lemmas.LineParts.{named, number_is, work_is, publisher_is, writer_is}
use Rattle.cwr_grammar.specs.declared.role.Role.TheVariants.{FileHeader, GroupHeader, TransactionHeader, Detail, GroupTrailer, FileTrailer}
use Rattle.cwr_record.specs.Kinds.{work_kind_named}
use Rattle.cwr_grammar.specs.Roles.{role_of, role_at, transaction_header, detail, number_at}

pub header_role : (line : List ℕ) (x : Header) → StandsFor control.header line x → role_of line ≡ FileHeader true
header_role line x h =
    let t : type_of line ≡ Hdr = named line (codes "HDR") h.0 in
    rw (t, number_is _ _ h.1.1.1.0, number_is _ _ h.1.1.1.1.0, number_is _ _ h.1.1.1.1.1.0) refl

pub group_header_role : (line : List ℕ) (x : GroupHead) → StandsFor control.group_head line x
    → role_of line ≡ GroupHeader (work_kind_named x.transaction_type) (Some x.group)
group_header_role line x h =
    let t : type_of line ≡ Grh = named line (codes "GRH") h.0 in
    rw (t, h.1.0, number_is _ _ h.1.1.0) refl

pub group_trailer_role : (line : List ℕ) (x : Trailer) → StandsFor control.group_trailer line x
    → role_of line ≡ GroupTrailer (Some x.group) (Some x.transactions) (Some x.records)
group_trailer_role line x h =
    let t : type_of line ≡ Grt = named line (codes "GRT") h.0 in
    rw (t, number_is _ _ h.1.0, number_is _ _ h.1.1.0, number_is _ _ h.1.1.1.0) refl

pub file_trailer_role : (line : List ℕ) (x : End) → StandsFor control.file_trailer line x
    → role_of line ≡ FileTrailer (Some x.groups) (Some x.transactions) (Some x.records)
file_trailer_role line x h =
    let t : type_of line ≡ Trl = named line (codes "TRL") h.0 in
    rw (t, number_is _ _ h.1.0, number_is _ _ h.1.1.0, number_is _ _ h.1.1.1.0) refl

work_at : (kind : WorkKind) (line : List ℕ) → role_at (type_of_work kind) line ≡ transaction_header (Some kind) line
work_at Nwr line = refl
work_at Rev line = refl

publisher_at : (kind : PublisherKind) (line : List ℕ) → role_at (type_of_publisher kind) line ≡ detail line
publisher_at Spu line = refl
publisher_at Opu line = refl

writer_at : (kind : WriterKind) (line : List ℕ) → role_at (type_of_writer kind) line ≡ detail line
writer_at Swr line = refl
writer_at Owr line = refl

pub work_role : (line : List ℕ) (x : WorkHead) → StandsFor works.work_head line x
    → role_of line ≡ TransactionHeader (Some x.kind) (Some x.prefix.transaction) (Some x.prefix.detail)
work_role line x h =
    ap (λ (t : RecordType). role_at t line) (work_is line x h)
    ∙ (work_at x.kind line ∙ rw (number_is _ _ h.1.0, number_is _ _ h.1.1.0) refl)

-- a line that is a detail by its type, and has these numbers
detail_is : (line : List ℕ) (t : RecordType) (m n : ℕ) → type_of line ≡ t → role_at t line ≡ detail line
    → option_map Number (number_at line prefix_transaction) ≡ Some (Number m) → option_map Number (number_at line prefix_detail) ≡ Some (Number n)
    → role_of line ≡ Detail (Some m) (Some n)
detail_is line t m n is at a b =
    ap (λ (u : RecordType). role_at u line) is ∙ (at ∙ rw (number_is _ _ a, number_is _ _ b) refl)

pub publisher_role : (line : List ℕ) (x : Publisher) → StandsFor publishers.publisher line x → role_of line ≡ Detail (Some x.prefix.transaction) (Some x.prefix.detail)
publisher_role line x h = detail_is line (type_of_publisher x.kind) _ _ (publisher_is line x h).type_is (publisher_at x.kind line) h.1.0 h.1.1.0

pub writer_role : (line : List ℕ) (x : Writer) → StandsFor writers.writer line x → role_of line ≡ Detail (Some x.prefix.transaction) (Some x.prefix.detail)
writer_role line x h = detail_is line (type_of_writer x.kind) _ _ (writer_is line x h).type_is (writer_at x.kind line) h.1.0 h.1.1.0

pub publisher_territory_role : (line : List ℕ) (x : PublisherTerritory) → StandsFor publishers.publisher_territory line x → role_of line ≡ Detail (Some x.prefix.transaction) (Some x.prefix.detail)
publisher_territory_role line x h = detail_is line Spt _ _ (named line (codes "SPT") h.0) refl h.1.0 h.1.1.0

pub writer_territory_role : (line : List ℕ) (x : WriterTerritory) → StandsFor writers.writer_territory line x → role_of line ≡ Detail (Some x.prefix.transaction) (Some x.prefix.detail)
writer_territory_role line x h = detail_is line Swt _ _ (named line (codes "SWT") h.0) refl h.1.0 h.1.1.0

pub link_role : (line : List ℕ) (x : Link) → StandsFor writers.link line x → role_of line ≡ Detail (Some x.prefix.transaction) (Some x.prefix.detail)
link_role line x h = detail_is line Pwr _ _ (named line (codes "PWR") h.0) refl h.1.0 h.1.1.0

pub alt_title_role : (line : List ℕ) (x : AltTitle) → StandsFor works.alt_title line x → role_of line ≡ Detail (Some x.prefix.transaction) (Some x.prefix.detail)
alt_title_role line x h = detail_is line Alt _ _ (named line (codes "ALT") h.0) refl h.1.0 h.1.1.0

pub cross_ref_role : (line : List ℕ) (x : CrossRef) → StandsFor works.cross_ref line x → role_of line ≡ Detail (Some x.prefix.transaction) (Some x.prefix.detail)
cross_ref_role line x h = detail_is line Xrf _ _ (named line (codes "XRF") h.0) refl h.1.0 h.1.1.0
