-- Records of an acknowledgement (CWR 2.2): ACK, MSG.
use Rattle.std.specs.Prelude.{List, [], ◌∷◌, codes}
use Rattle.cwr_record.specs.Layout.{Part}
use Rattle.cwr_record.specs.Columns as column
use Rattle.cwr_record.specs.Parts.{kind, number, day, time, text}
use Rattle.cwr_record.specs.declared.acknowledgement.Ack.{Ack}
use Rattle.cwr_record.specs.declared.acknowledgement.Message.{Message}

-- ACK, Acknowledgement of Transaction
abbrev pub ack : List (Part Ack)
ack =
    kind (codes "ACK")  -- Record Type
    ∷ number column.prefix_transaction (λ x. x.prefix.transaction)  -- Transaction Sequence #
    ∷ number column.prefix_detail (λ x. x.prefix.detail)  -- Record Sequence #
    ∷ day column.ack_creation_date (λ x. x.creation_date)  -- Creation Date
    ∷ time column.ack_creation_time (λ x. x.creation_time)  -- Creation Time
    ∷ number column.ack_original_group (λ x. x.original_group)  -- Original Group ID
    ∷ number column.ack_original_transaction (λ x. x.original_transaction)  -- Original Transaction Sequence #
    ∷ text column.ack_original_type (λ x. x.original_type)  -- Original Transaction Type
    ∷ text column.ack_title (λ x. x.title)  -- Creation Title
    ∷ text column.ack_submitter_number (λ x. x.submitter_number)  -- Submitter Creation #
    ∷ text column.ack_recipient_number (λ x. x.recipient_number)  -- Recipient Creation #
    ∷ day column.ack_processing_date (λ x. x.processing_date)  -- Processing Date
    ∷ text column.ack_status (λ x. x.status)  -- Transaction Status
    ∷ []

-- MSG, Message
abbrev pub message : List (Part Message)
message =
    kind (codes "MSG")  -- Record Type
    ∷ number column.prefix_transaction (λ x. x.prefix.transaction)  -- Transaction Sequence #
    ∷ number column.prefix_detail (λ x. x.prefix.detail)  -- Record Sequence #
    ∷ text column.message_message_type (λ x. x.message_type)  -- Message Type
    ∷ number column.message_original_record (λ x. x.original_record)  -- Original Record Sequence #
    ∷ text column.message_record_type (λ x. x.record_type)  -- Record Type
    ∷ text column.message_message_level (λ x. x.message_level)  -- Message Level
    ∷ number column.message_validation_number (λ x. x.validation_number)  -- Validation Number
    ∷ text column.message_text (λ x. x.text)  -- Message Text
    ∷ []
