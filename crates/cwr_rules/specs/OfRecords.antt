-- What the rules read of a line that stands for a record, in terms of that record.
use Rattle.std.specs.Prelude.{◌≡◌, ℕ, false, List, Option, Some, slice_index}
use Rattle.cwr_field.specs.Layout.{is_blank, party_of}
use Rattle.cwr_record.specs.Territory.{territory_of}
use Rattle.cwr_record.specs.declared.works.WorkKind.{WorkKind}
use Rattle.cwr_record.specs.declared.works.WorkHead.{WorkHead}
use Rattle.cwr_record.specs.declared.publishers.PublisherKind.{PublisherKind}
use Rattle.cwr_record.specs.declared.publishers.PublisherKind.TheVariants as publisher_kind
use Rattle.cwr_record.specs.declared.publishers.Publisher.{Publisher}
use Rattle.cwr_record.specs.declared.publishers.PublisherTerritory.{PublisherTerritory}
use Rattle.cwr_record.specs.declared.writers.WriterKind.{WriterKind}
use Rattle.cwr_record.specs.declared.writers.WriterKind.TheVariants as writer_kind
use Rattle.cwr_record.specs.declared.writers.Writer.{Writer}
use Rattle.cwr_record.specs.declared.writers.WriterTerritory.{WriterTerritory}
use Rattle.cwr_record.specs.declared.writers.Link.{Link}
use Rattle.cwr_rules.specs.declared.record.Shares.{Shares}
use Rattle.cwr_rules.specs.declared.record.Territory.{Territory}
use Rattle.cwr_rules.specs.declared.record.Record.{Record}
use Rattle.cwr_rules.specs.declared.record.Record.TheVariants.{Spu, Opu, Spt, Swr, Owr, Swt, Pwr}
use Rattle.cwr_rules.specs.Calls.{call_from}
use Rattle.cwr_rules.specs.Head.{has_no_title, has_no_number, has_wrong_iswc, has_wrong_date}

-- The line of a registration's header: its title and its number are blank where those of the record are, no code or
-- date of it is wrong, and a call takes title, number and ISWC of the record.
pub record IsHeadOf (line : List ℕ) (x : WorkHead) : Type 0 where
  pub no_title : has_no_title line ≡ is_blank x.title
  pub no_number : has_no_number line ≡ is_blank x.submitter_number
  pub right_code : has_wrong_iswc line ≡ false
  pub right_dates : has_wrong_date line ≡ false
  pub title : (submitter : List ℕ) (kind : WorkKind) (records : List Record) → (call_from submitter kind line records).title ≡ x.title
  pub number : (submitter : List ℕ) (kind : WorkKind) (records : List Record) → (call_from submitter kind line records).number ≡ x.submitter_number
  pub iswc : (submitter : List ℕ) (kind : WorkKind) (records : List Record) → (call_from submitter kind line records).iswc ≡ x.iswc

-- a publisher of this kind as the rules read it, with its party and ownership shares
abbrev pub publisher_as : PublisherKind → Option (List ℕ) → Shares → Record
publisher_as publisher_kind.Spu party shares = Spu party shares
publisher_as publisher_kind.Opu party shares = Opu party shares

-- a publisher's record as the rules read it
abbrev pub of_publisher : Publisher → Record
of_publisher x = publisher_as x.kind (party_of x.party) (record {
  performing = Some x.performing_ownership;
  mechanical = Some x.mechanical_ownership;
  synchronization = Some x.synchronization_ownership;
})

-- a writer of this kind as the rules read it; the party of an OWR is not read
abbrev pub writer_as : WriterKind → Option (List ℕ) → Shares → Record
writer_as writer_kind.Swr party shares = Swr party shares
writer_as writer_kind.Owr party shares = Owr shares

-- a writer's record as the rules read it
abbrev pub of_writer : Writer → Record
of_writer x = writer_as x.kind (party_of x.party) (record {
  performing = Some x.performing_ownership;
  mechanical = Some x.mechanical_ownership;
  synchronization = Some x.synchronization_ownership;
})

-- a territory, given its indicator of one byte and its TIS code of four
abbrev pub territory_as : List ℕ → List ℕ → Territory
territory_as indicator territory = record { indicator = slice_index indicator 0; code = territory_of territory }

-- an SPT as the rules read it
abbrev pub of_publisher_territory : PublisherTerritory → Record
of_publisher_territory x =
    Spt
    (party_of x.party)
    (record {
      performing = Some x.performing_collection;
      mechanical = Some x.mechanical_collection;
      synchronization = Some x.synchronization_collection;
    })
    (territory_as x.indicator x.territory)

-- an SWT as the rules read it
abbrev pub of_writer_territory : WriterTerritory → Record
of_writer_territory x =
    Swt
    (party_of x.party)
    (record {
      performing = Some x.performing_collection;
      mechanical = Some x.mechanical_collection;
      synchronization = Some x.synchronization_collection;
    })
    (territory_as x.indicator x.territory)

-- a PWR as the rules read it
abbrev pub of_link : Link → Record
of_link x = Pwr (party_of x.publisher_party)
