-- A work's publishers, and where they collect (CWR 2.2): SPU, OPU, SPT.
use Rattle.std.specs.Prelude.{List, [], ◌∷◌, codes}
use Rattle.cwr_record.specs.Layout.{Part}
use Rattle.cwr_record.specs.Columns as column
use Rattle.cwr_record.specs.Parts.{kind, one_of, number, share, text, blanks}
use Rattle.cwr_record.specs.Kinds.{publisher_kind_code}
use Rattle.cwr_record.specs.declared.publishers.Publisher.{Publisher}
use Rattle.cwr_record.specs.declared.publishers.PublisherTerritory.{PublisherTerritory}

-- SPU, Publisher Controlled by Submitter, and OPU, Other Publisher
abbrev pub publisher : List (Part Publisher)
publisher =
    one_of (codes "SPU") (codes "OPU") (λ x. publisher_kind_code x.kind)  -- Record Type
    ∷ number column.prefix_transaction (λ x. x.prefix.transaction)  -- Transaction Sequence #
    ∷ number column.prefix_detail (λ x. x.prefix.detail)  -- Record Sequence #
    ∷ text column.publisher_sequence (λ x. x.sequence)  -- Publisher Sequence #
    ∷ text column.publisher_party (λ x. x.party)  -- Interested Party #
    ∷ text column.publisher_name (λ x. x.name)  -- Publisher Name
    ∷ text column.publisher_unknown_indicator (λ x. x.unknown_indicator)  -- Publisher Unknown Indicator
    ∷ text column.publisher_publisher_type (λ x. x.publisher_type)  -- Publisher Type
    ∷ text column.publisher_tax_id (λ x. x.tax_id)  -- Tax ID #
    ∷ text column.publisher_ipi_name_number (λ x. x.ipi_name_number)  -- Publisher IPI Name #
    ∷ text column.publisher_submitter_agreement (λ x. x.submitter_agreement)  -- Submitter Agreement Number
    ∷ text column.publisher_performing_society (λ x. x.performing_society)  -- PR Affiliation Society #
    ∷ share column.publisher_performing_ownership (λ x. x.performing_ownership)  -- PR Ownership Share
    ∷ text column.publisher_mechanical_society (λ x. x.mechanical_society)  -- MR Affiliation Society #
    ∷ share column.publisher_mechanical_ownership (λ x. x.mechanical_ownership)  -- MR Ownership Share
    ∷ text column.publisher_synchronization_society (λ x. x.synchronization_society)  -- SR Affiliation Society #
    ∷ share column.publisher_synchronization_ownership (λ x. x.synchronization_ownership)  -- SR Ownership Share
    ∷ []

-- SPT, Publisher Territory of Control; from Shares Change on the layout is that of this registry
abbrev pub publisher_territory : List (Part PublisherTerritory)
publisher_territory =
    kind (codes "SPT")  -- Record Type
    ∷ number column.prefix_transaction (λ x. x.prefix.transaction)  -- Transaction Sequence #
    ∷ number column.prefix_detail (λ x. x.prefix.detail)  -- Record Sequence #
    ∷ text column.publisher_territory_party (λ x. x.party)  -- Interested Party #
    ∷ blanks column.publisher_territory_constant  -- Constant
    ∷ share column.publisher_territory_performing_collection (λ x. x.performing_collection)  -- PR Collection Share
    ∷ share column.publisher_territory_mechanical_collection (λ x. x.mechanical_collection)  -- MR Collection Share
    ∷ share column.publisher_territory_synchronization_collection (λ x. x.synchronization_collection)  -- SR Collection Share
    ∷ text column.publisher_territory_indicator (λ x. x.indicator)  -- Inclusion/Exclusion Indicator
    ∷ text column.publisher_territory_territory (λ x. x.territory)  -- TIS Numeric Code
    ∷ text column.publisher_territory_shares_change (λ x. x.shares_change)  -- Shares Change
    ∷ text column.publisher_territory_sequence (λ x. x.sequence)  -- Sequence #
    ∷ []
