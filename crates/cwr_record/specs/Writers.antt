-- A work's writers, where they collect, and their publishers (CWR 2.2): SWR, OWR, SWT, PWR.
use Rattle.std.specs.Prelude.{List, [], ◌∷◌, codes}
use Rattle.cwr_record.specs.Layout.{Part}
use Rattle.cwr_record.specs.Columns as column
use Rattle.cwr_record.specs.Parts.{kind, one_of, number, share, text}
use Rattle.cwr_record.specs.Kinds.{writer_kind_code}
use Rattle.cwr_record.specs.declared.writers.Writer.{Writer}
use Rattle.cwr_record.specs.declared.writers.WriterTerritory.{WriterTerritory}
use Rattle.cwr_record.specs.declared.writers.Link.{Link}

-- SWR, Writer Controlled by Submitter, and OWR, Other Writer
abbrev pub writer : List (Part Writer)
writer =
    one_of (codes "SWR") (codes "OWR") (λ x. writer_kind_code x.kind)  -- Record Type
    ∷ number column.prefix_transaction (λ x. x.prefix.transaction)  -- Transaction Sequence #
    ∷ number column.prefix_detail (λ x. x.prefix.detail)  -- Record Sequence #
    ∷ text column.writer_party (λ x. x.party)  -- Interested Party #
    ∷ text column.writer_last_name (λ x. x.last_name)  -- Writer Last Name
    ∷ text column.writer_first_name (λ x. x.first_name)  -- Writer First Name
    ∷ text column.writer_unknown_indicator (λ x. x.unknown_indicator)  -- Writer Unknown Indicator
    ∷ text column.writer_designation (λ x. x.designation)  -- Writer Designation Code
    ∷ text column.writer_tax_id (λ x. x.tax_id)  -- Tax ID #
    ∷ text column.writer_ipi_name_number (λ x. x.ipi_name_number)  -- Writer IPI Name #
    ∷ text column.writer_performing_society (λ x. x.performing_society)  -- PR Affiliation Society #
    ∷ share column.writer_performing_ownership (λ x. x.performing_ownership)  -- PR Ownership Share
    ∷ text column.writer_mechanical_society (λ x. x.mechanical_society)  -- MR Affiliation Society #
    ∷ share column.writer_mechanical_ownership (λ x. x.mechanical_ownership)  -- MR Ownership Share
    ∷ text column.writer_synchronization_society (λ x. x.synchronization_society)  -- SR Affiliation Society #
    ∷ share column.writer_synchronization_ownership (λ x. x.synchronization_ownership)  -- SR Ownership Share
    ∷ []

-- SWT, Writer Territory of Control; from Shares Change on the layout is that of this registry
abbrev pub writer_territory : List (Part WriterTerritory)
writer_territory =
    kind (codes "SWT")  -- Record Type
    ∷ number column.prefix_transaction (λ x. x.prefix.transaction)  -- Transaction Sequence #
    ∷ number column.prefix_detail (λ x. x.prefix.detail)  -- Record Sequence #
    ∷ text column.writer_territory_party (λ x. x.party)  -- Interested Party #
    ∷ share column.writer_territory_performing_collection (λ x. x.performing_collection)  -- PR Collection Share
    ∷ share column.writer_territory_mechanical_collection (λ x. x.mechanical_collection)  -- MR Collection Share
    ∷ share column.writer_territory_synchronization_collection (λ x. x.synchronization_collection)  -- SR Collection Share
    ∷ text column.writer_territory_indicator (λ x. x.indicator)  -- Inclusion/Exclusion Indicator
    ∷ text column.writer_territory_territory (λ x. x.territory)  -- TIS Numeric Code
    ∷ text column.writer_territory_shares_change (λ x. x.shares_change)  -- Shares Change
    ∷ text column.writer_territory_sequence (λ x. x.sequence)  -- Sequence #
    ∷ []

-- PWR, Publisher for Writer; from Submitter Agreement Number on the layout is that of this registry
abbrev pub link : List (Part Link)
link =
    kind (codes "PWR")  -- Record Type
    ∷ number column.prefix_transaction (λ x. x.prefix.transaction)  -- Transaction Sequence #
    ∷ number column.prefix_detail (λ x. x.prefix.detail)  -- Record Sequence #
    ∷ text column.link_publisher_party (λ x. x.publisher_party)  -- Publisher IP #
    ∷ text column.link_publisher_name (λ x. x.publisher_name)  -- Publisher Name
    ∷ text column.link_submitter_agreement (λ x. x.submitter_agreement)  -- Submitter Agreement Number
    ∷ text column.link_society_agreement (λ x. x.society_agreement)  -- Society-Assigned Agreement Number
    ∷ text column.link_writer_party (λ x. x.writer_party)  -- Writer IP #
    ∷ []
