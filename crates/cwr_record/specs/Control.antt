-- Control records of a file (CWR 2.2): HDR, GRH, GRT, TRL.
use Rattle.std.specs.Prelude.{List, [], ◌∷◌, codes}
use Rattle.cwr_record.specs.Layout.{Part}
use Rattle.cwr_record.specs.Columns as column
use Rattle.cwr_record.specs.Parts.{kind, number, day, time, text, constant, blanks}
use Rattle.cwr_record.specs.declared.control.Header.{Header}
use Rattle.cwr_record.specs.declared.control.GroupHead.{GroupHead}
use Rattle.cwr_record.specs.declared.control.GroupTrailer.{GroupTrailer}
use Rattle.cwr_record.specs.declared.control.FileTrailer.{FileTrailer}

-- HDR, Transmission Header
abbrev pub header : List (Part Header)
header =
    kind (codes "HDR")  -- Record Type
    ∷ text column.header_sender (λ x. x.sender)  -- Sender Type, Sender ID
    ∷ text column.header_name (λ x. x.name)  -- Sender Name
    ∷ constant column.header_standard_version (codes "01.10")  -- EDI Standard Version Number
    ∷ day column.header_creation_date (λ x. x.creation_date)  -- Creation Date
    ∷ time column.header_creation_time (λ x. x.creation_time)  -- Creation Time
    ∷ day column.header_transmission_date (λ x. x.transmission_date)  -- Transmission Date
    ∷ text column.header_character_set (λ x. x.character_set)  -- Character Set
    ∷ constant column.header_version (codes "2.2")  -- Version
    ∷ constant column.header_revision (codes "001")  -- Revision
    ∷ constant column.header_software_package (codes "CWR REGISTRY")  -- Software Package
    ∷ constant column.header_software_version (codes "1.0")  -- Software Package Version
    ∷ []

-- GRH, Group Header
abbrev pub group_head : List (Part GroupHead)
group_head =
    kind (codes "GRH")  -- Record Type
    ∷ text column.group_head_transaction_type (λ x. x.transaction_type)  -- Transaction Type
    ∷ number column.group_head_group (λ x. x.group)  -- Group ID
    ∷ text column.group_head_version (λ x. x.version)  -- Version Number for this Transaction Type
    ∷ text column.group_head_batch_request (λ x. x.batch_request)  -- Batch Request
    ∷ text column.group_head_submission_type (λ x. x.submission_type)  -- Submission/Distribution Type
    ∷ []

-- GRT, Group Trailer
abbrev pub group_trailer : List (Part GroupTrailer)
group_trailer =
    kind (codes "GRT")  -- Record Type
    ∷ number column.group_trailer_group (λ x. x.group)  -- Group ID
    ∷ number column.group_trailer_transactions (λ x. x.transactions)  -- Transaction Count
    ∷ number column.group_trailer_records (λ x. x.records)  -- Record Count
    ∷ blanks column.group_trailer_monetary_value  -- Currency Indicator, Total Monetary Value
    ∷ []

-- TRL, Transmission Trailer
abbrev pub file_trailer : List (Part FileTrailer)
file_trailer =
    kind (codes "TRL")  -- Record Type
    ∷ number column.file_trailer_groups (λ x. x.groups)  -- Group Count
    ∷ number column.file_trailer_transactions (λ x. x.transactions)  -- Transaction Count
    ∷ number column.file_trailer_records (λ x. x.records)  -- Record Count
    ∷ []
