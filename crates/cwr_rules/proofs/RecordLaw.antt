-- What the rules read of a line that stands for a record is that part of the record.
use Rattle.std.proofs.Common.{◌≡◌, ℕ, Bool, true, false, ◌||◌, List, Option, Some, None, refl, sym, is_some}
use Rattle.std.specs.Prelude.{codes, if◌then◌else◌}
use Rattle.cwr_field.specs.Calendar.{day_of, time_of}
use Rattle.cwr_field.specs.Iswc.{iswc_of}
use Rattle.cwr_field.specs.Layout.{is_blank}
use Rattle.cwr_field.specs.declared.codes.Iswc.{Iswc}
use Rattle.cwr_field.specs.declared.codes.Iswc.TheVariants.{Blank, Valid, Wrong}
use Rattle.cwr_record.specs.Columns.{field_at, work_head_copyright_date, work_head_duration, work_head_iswc}
use Rattle.cwr_record.specs.Layout.{Value, Maybe, StandsFor, code_value, is_no_day, present}
use Rattle.cwr_record.specs.RecordTypes.{type_of}
use Rattle.cwr_record.specs.Works as works
use Rattle.cwr_record.specs.Publishers as publishers
use Rattle.cwr_record.specs.Writers as writers
use Rattle.cwr_record.specs.declared.record_type.RecordType.TheVariants as of_type
use Rattle.cwr_record.specs.declared.works.WorkHead.{WorkHead}
use Rattle.cwr_record.specs.declared.works.AltTitle.{AltTitle}
use Rattle.cwr_record.specs.declared.works.CrossRef.{CrossRef}
use Rattle.cwr_record.specs.declared.publishers.PublisherKind.{PublisherKind}
use Rattle.cwr_record.specs.declared.publishers.PublisherKind.TheVariants as publisher_kind
use Rattle.cwr_record.specs.declared.publishers.Publisher.{Publisher}
use Rattle.cwr_record.specs.declared.publishers.PublisherTerritory.{PublisherTerritory}
use Rattle.cwr_record.specs.declared.writers.WriterKind.{WriterKind}
use Rattle.cwr_record.specs.declared.writers.WriterKind.TheVariants as writer_kind
use Rattle.cwr_record.specs.declared.writers.Writer.{Writer}
use Rattle.cwr_record.specs.declared.writers.WriterTerritory.{WriterTerritory}
use Rattle.cwr_record.specs.declared.writers.Link.{Link}
use Rattle.cwr_record.proofs.lemmas.LineParts.{named, number_is, publisher_is, writer_is}
use Rattle.cwr_rules.specs.declared.record.Record.TheVariants.{Alt, Xrf}
use Rattle.cwr_rules.specs.Head.{number_in, is_wrong_code, is_copyright_date, is_duration, has_wrong_date}
use Rattle.cwr_rules.specs.Records.{record_of}
use Rattle.cwr_rules.specs.OfRecords.{IsHeadOf, of_publisher, of_writer, of_publisher_territory, of_writer_territory, of_link}

-- a code that was read is not wrong, and is that one
code_number : (c : Iswc) (o : Option ℕ) → code_value c ≡ Some (Maybe o) → number_in c ≡ o
code_number Blank o e = cc
code_number (Valid n) o e = cc
code_number Wrong o e = absurd cc

code_right : (c : Iswc) (v : Value) → code_value c ≡ Some v → is_wrong_code c ≡ false
code_right Blank v e = refl
code_right (Valid n) v e = refl
code_right Wrong v e = absurd cc

-- a field that was read as a value or none is one of both
maybe_right : (none : Bool) (o : Option ℕ) (v : Value) → (if none then Some (Maybe None) else present o) ≡ Some v → (none || is_some o) ≡ true
maybe_right true o v e = refl
maybe_right false None v e = absurd cc
maybe_right false (Some n) v e = refl

dates_right : (line : List ℕ) → is_copyright_date (field_at line work_head_copyright_date) ≡ true → is_duration (field_at line work_head_duration) ≡ true
    → has_wrong_date line ≡ false
dates_right line a b = rw (a, b) refl

pub head_is : (line : List ℕ) (x : WorkHead) → StandsFor works.work_head line x → IsHeadOf line x
head_is line x h =
    let date = field_at line work_head_copyright_date in
    let time = field_at line work_head_duration in
    let code = iswc_of (field_at line work_head_iswc) in
    record {
      no_title = rw h.1.1.1.0 refl;
      no_number = rw h.1.1.1.1.1.0 refl;
      right_code = code_right code _ h.1.1.1.1.1.1.0;
      right_dates = dates_right line (maybe_right (is_no_day date) (day_of date) _ h.1.1.1.1.1.1.1.0) (maybe_right (is_blank time) (time_of time) _ h.1.1.1.1.1.1.1.1.1.1.0);
      title = λ submitter kind records. sym h.1.1.1.0;
      number = λ submitter kind records. sym h.1.1.1.1.1.0;
      iswc = λ submitter kind records. code_number code x.iswc h.1.1.1.1.1.1.0;
    }

publisher_at : (line : List ℕ) (x : Publisher) (kind : PublisherKind) → x.kind ≡ kind → StandsFor publishers.publisher line x → record_of line ≡ of_publisher x
publisher_at line x publisher_kind.Spu k h =
    let t : type_of line ≡ of_type.Spu = rw k at (publisher_is line x h).type_is in
    rw (t, k, h.1.1.1.1.0, number_is _ _ h.1.1.1.1.1.1.1.1.1.1.1.1.0, number_is _ _ h.1.1.1.1.1.1.1.1.1.1.1.1.1.1.0, number_is _ _ h.1.1.1.1.1.1.1.1.1.1.1.1.1.1.1.1.0) refl
publisher_at line x publisher_kind.Opu k h =
    let t : type_of line ≡ of_type.Opu = rw k at (publisher_is line x h).type_is in
    rw (t, k, h.1.1.1.1.0, number_is _ _ h.1.1.1.1.1.1.1.1.1.1.1.1.0, number_is _ _ h.1.1.1.1.1.1.1.1.1.1.1.1.1.1.0, number_is _ _ h.1.1.1.1.1.1.1.1.1.1.1.1.1.1.1.1.0) refl

pub publisher_record : (line : List ℕ) (x : Publisher) → StandsFor publishers.publisher line x → record_of line ≡ of_publisher x
publisher_record line x h = publisher_at line x x.kind refl h

writer_at : (line : List ℕ) (x : Writer) (kind : WriterKind) → x.kind ≡ kind → StandsFor writers.writer line x → record_of line ≡ of_writer x
writer_at line x writer_kind.Swr k h =
    let t : type_of line ≡ of_type.Swr = rw k at (writer_is line x h).type_is in
    rw (t, k, h.1.1.1.0, number_is _ _ h.1.1.1.1.1.1.1.1.1.1.1.0, number_is _ _ h.1.1.1.1.1.1.1.1.1.1.1.1.1.0, number_is _ _ h.1.1.1.1.1.1.1.1.1.1.1.1.1.1.1.0) refl
writer_at line x writer_kind.Owr k h =
    let t : type_of line ≡ of_type.Owr = rw k at (writer_is line x h).type_is in
    rw (t, k, number_is _ _ h.1.1.1.1.1.1.1.1.1.1.1.0, number_is _ _ h.1.1.1.1.1.1.1.1.1.1.1.1.1.0, number_is _ _ h.1.1.1.1.1.1.1.1.1.1.1.1.1.1.1.0) refl

pub writer_record : (line : List ℕ) (x : Writer) → StandsFor writers.writer line x → record_of line ≡ of_writer x
writer_record line x h = writer_at line x x.kind refl h

pub publisher_territory_record : (line : List ℕ) (x : PublisherTerritory) → StandsFor publishers.publisher_territory line x → record_of line ≡ of_publisher_territory x
publisher_territory_record line x h =
    let t : type_of line ≡ of_type.Spt = named line (codes "SPT") h.0 in
    rw (t, h.1.1.1.0, number_is _ _ h.1.1.1.1.0, number_is _ _ h.1.1.1.1.1.0, number_is _ _ h.1.1.1.1.1.1.0, h.1.1.1.1.1.1.1.0, h.1.1.1.1.1.1.1.1.0) refl

pub writer_territory_record : (line : List ℕ) (x : WriterTerritory) → StandsFor writers.writer_territory line x → record_of line ≡ of_writer_territory x
writer_territory_record line x h =
    let t : type_of line ≡ of_type.Swt = named line (codes "SWT") h.0 in
    rw (t, h.1.1.1.0, number_is _ _ h.1.1.1.1.0, number_is _ _ h.1.1.1.1.1.0, number_is _ _ h.1.1.1.1.1.1.0, h.1.1.1.1.1.1.1.0, h.1.1.1.1.1.1.1.1.0) refl

pub link_record : (line : List ℕ) (x : Link) → StandsFor writers.link line x → record_of line ≡ of_link x
link_record line x h =
    let t : type_of line ≡ of_type.Pwr = named line (codes "PWR") h.0 in
    rw (t, h.1.1.1.0) refl

pub alt_title_record : (line : List ℕ) (x : AltTitle) → StandsFor works.alt_title line x → record_of line ≡ Alt
alt_title_record line x h =
    let t : type_of line ≡ of_type.Alt = named line (codes "ALT") h.0 in
    rw t refl

pub cross_ref_record : (line : List ℕ) (x : CrossRef) → StandsFor works.cross_ref line x → record_of line ≡ Xrf
cross_ref_record line x h =
    let t : type_of line ≡ of_type.Xrf = named line (codes "XRF") h.0 in
    rw t refl
