-- Where each field of each record stands (CWR 2.2, record layouts): the one place for the positions of a line. The
-- tables of the layouts name these columns, and so does whatever else reads a field of a line.
use Rattle.std.specs.Prelude.{ℕ, List}
use Rattle.cwr_field.specs.Layout.{field}
use Rattle.cwr_record.specs.declared.columns.Column.{Column}

-- the bytes of the line in the column, and blanks where the line has ended
abbrev pub field_at : List ℕ → Column → List ℕ
field_at line column = field line column.start column.width

-- a column from a position, counted from 1, that is `width` bytes wide
abbrev pub from : ℕ → ℕ → Column
from start width = record { start = start; width = width }

-- every record: its type, three capitals
abbrev pub every_record_type : Column
every_record_type = from 1 3

-- every record of a transaction
abbrev pub prefix_transaction : Column
prefix_transaction = from 4 8

abbrev pub prefix_detail : Column
prefix_detail = from 12 8

-- HDR, Transmission Header
abbrev pub header_sender : Column
header_sender = from 4 11

abbrev pub header_name : Column
header_name = from 15 45

abbrev pub header_standard_version : Column
header_standard_version = from 60 5

abbrev pub header_creation_date : Column
header_creation_date = from 65 8

abbrev pub header_creation_time : Column
header_creation_time = from 73 6

abbrev pub header_transmission_date : Column
header_transmission_date = from 79 8

abbrev pub header_character_set : Column
header_character_set = from 87 15

abbrev pub header_version : Column
header_version = from 102 3

abbrev pub header_revision : Column
header_revision = from 105 3

abbrev pub header_software_package : Column
header_software_package = from 108 30

abbrev pub header_software_version : Column
header_software_version = from 138 30

-- GRH, Group Header
abbrev pub group_head_transaction_type : Column
group_head_transaction_type = from 4 3

abbrev pub group_head_group : Column
group_head_group = from 7 5

abbrev pub group_head_version : Column
group_head_version = from 12 5

abbrev pub group_head_batch_request : Column
group_head_batch_request = from 17 10

abbrev pub group_head_submission_type : Column
group_head_submission_type = from 27 2

-- GRT, Group Trailer
abbrev pub group_trailer_group : Column
group_trailer_group = from 4 5

abbrev pub group_trailer_transactions : Column
group_trailer_transactions = from 9 8

abbrev pub group_trailer_records : Column
group_trailer_records = from 17 8

abbrev pub group_trailer_monetary_value : Column
group_trailer_monetary_value = from 25 13

-- TRL, Transmission Trailer
abbrev pub file_trailer_groups : Column
file_trailer_groups = from 4 5

abbrev pub file_trailer_transactions : Column
file_trailer_transactions = from 9 8

abbrev pub file_trailer_records : Column
file_trailer_records = from 17 8

-- NWR, New Work Registration, and REV, Revised Registration
abbrev pub work_head_title : Column
work_head_title = from 20 60

abbrev pub work_head_language : Column
work_head_language = from 80 2

abbrev pub work_head_submitter_number : Column
work_head_submitter_number = from 82 14

abbrev pub work_head_iswc : Column
work_head_iswc = from 96 11

abbrev pub work_head_copyright_date : Column
work_head_copyright_date = from 107 8

abbrev pub work_head_copyright_number : Column
work_head_copyright_number = from 115 12

abbrev pub work_head_distribution_category : Column
work_head_distribution_category = from 127 3

abbrev pub work_head_duration : Column
work_head_duration = from 130 6

abbrev pub work_head_recorded_indicator : Column
work_head_recorded_indicator = from 136 1

abbrev pub work_head_text_music_relationship : Column
work_head_text_music_relationship = from 137 3

abbrev pub work_head_composite_type : Column
work_head_composite_type = from 140 3

abbrev pub work_head_version_type : Column
work_head_version_type = from 143 3

abbrev pub work_head_excerpt_type : Column
work_head_excerpt_type = from 146 3

abbrev pub work_head_arrangement : Column
work_head_arrangement = from 149 3

abbrev pub work_head_lyric_adaptation : Column
work_head_lyric_adaptation = from 152 3

abbrev pub work_head_contact_name : Column
work_head_contact_name = from 155 30

abbrev pub work_head_contact_id : Column
work_head_contact_id = from 185 10

-- ALT, Alternate Title
abbrev pub alt_title_title : Column
alt_title_title = from 20 60

abbrev pub alt_title_title_type : Column
alt_title_title_type = from 80 2

abbrev pub alt_title_language : Column
alt_title_language = from 82 2

-- XRF, Work ID Cross Reference; past the prefix the layout is that of this registry
abbrev pub cross_ref_organisation : Column
cross_ref_organisation = from 20 3

abbrev pub cross_ref_identifier : Column
cross_ref_identifier = from 23 14

abbrev pub cross_ref_identifier_type : Column
cross_ref_identifier_type = from 37 1

abbrev pub cross_ref_validity : Column
cross_ref_validity = from 38 1

-- SPU, Publisher Controlled by Submitter, and OPU, Other Publisher
abbrev pub publisher_sequence : Column
publisher_sequence = from 20 2

abbrev pub publisher_party : Column
publisher_party = from 22 9

abbrev pub publisher_name : Column
publisher_name = from 31 45

abbrev pub publisher_unknown_indicator : Column
publisher_unknown_indicator = from 76 1

abbrev pub publisher_publisher_type : Column
publisher_publisher_type = from 77 2

abbrev pub publisher_tax_id : Column
publisher_tax_id = from 79 9

abbrev pub publisher_ipi_name_number : Column
publisher_ipi_name_number = from 88 11

abbrev pub publisher_submitter_agreement : Column
publisher_submitter_agreement = from 99 14

abbrev pub publisher_performing_society : Column
publisher_performing_society = from 113 3

abbrev pub publisher_performing_ownership : Column
publisher_performing_ownership = from 116 5

abbrev pub publisher_mechanical_society : Column
publisher_mechanical_society = from 121 3

abbrev pub publisher_mechanical_ownership : Column
publisher_mechanical_ownership = from 124 5

abbrev pub publisher_synchronization_society : Column
publisher_synchronization_society = from 129 3

abbrev pub publisher_synchronization_ownership : Column
publisher_synchronization_ownership = from 132 5

-- SPT, Publisher Territory of Control; from Shares Change on the layout is that of this registry
abbrev pub publisher_territory_party : Column
publisher_territory_party = from 20 9

abbrev pub publisher_territory_constant : Column
publisher_territory_constant = from 29 6

abbrev pub publisher_territory_performing_collection : Column
publisher_territory_performing_collection = from 35 5

abbrev pub publisher_territory_mechanical_collection : Column
publisher_territory_mechanical_collection = from 40 5

abbrev pub publisher_territory_synchronization_collection : Column
publisher_territory_synchronization_collection = from 45 5

abbrev pub publisher_territory_indicator : Column
publisher_territory_indicator = from 50 1

abbrev pub publisher_territory_territory : Column
publisher_territory_territory = from 51 4

abbrev pub publisher_territory_shares_change : Column
publisher_territory_shares_change = from 55 1

abbrev pub publisher_territory_sequence : Column
publisher_territory_sequence = from 56 3

-- SWR, Writer Controlled by Submitter, and OWR, Other Writer
abbrev pub writer_party : Column
writer_party = from 20 9

abbrev pub writer_last_name : Column
writer_last_name = from 29 45

abbrev pub writer_first_name : Column
writer_first_name = from 74 30

abbrev pub writer_unknown_indicator : Column
writer_unknown_indicator = from 104 1

abbrev pub writer_designation : Column
writer_designation = from 105 2

abbrev pub writer_tax_id : Column
writer_tax_id = from 107 9

abbrev pub writer_ipi_name_number : Column
writer_ipi_name_number = from 116 11

abbrev pub writer_performing_society : Column
writer_performing_society = from 127 3

abbrev pub writer_performing_ownership : Column
writer_performing_ownership = from 130 5

abbrev pub writer_mechanical_society : Column
writer_mechanical_society = from 135 3

abbrev pub writer_mechanical_ownership : Column
writer_mechanical_ownership = from 138 5

abbrev pub writer_synchronization_society : Column
writer_synchronization_society = from 143 3

abbrev pub writer_synchronization_ownership : Column
writer_synchronization_ownership = from 146 5

-- SWT, Writer Territory of Control; from Shares Change on the layout is that of this registry
abbrev pub writer_territory_party : Column
writer_territory_party = from 20 9

abbrev pub writer_territory_performing_collection : Column
writer_territory_performing_collection = from 29 5

abbrev pub writer_territory_mechanical_collection : Column
writer_territory_mechanical_collection = from 34 5

abbrev pub writer_territory_synchronization_collection : Column
writer_territory_synchronization_collection = from 39 5

abbrev pub writer_territory_indicator : Column
writer_territory_indicator = from 44 1

abbrev pub writer_territory_territory : Column
writer_territory_territory = from 45 4

abbrev pub writer_territory_shares_change : Column
writer_territory_shares_change = from 49 1

abbrev pub writer_territory_sequence : Column
writer_territory_sequence = from 50 3

-- PWR, Publisher for Writer; from Submitter Agreement Number on the layout is that of this registry
abbrev pub link_publisher_party : Column
link_publisher_party = from 20 9

abbrev pub link_publisher_name : Column
link_publisher_name = from 29 45

abbrev pub link_submitter_agreement : Column
link_submitter_agreement = from 74 14

abbrev pub link_society_agreement : Column
link_society_agreement = from 88 14

abbrev pub link_writer_party : Column
link_writer_party = from 102 9

-- ACK, Acknowledgement of Transaction
abbrev pub ack_creation_date : Column
ack_creation_date = from 20 8

abbrev pub ack_creation_time : Column
ack_creation_time = from 28 6

abbrev pub ack_original_group : Column
ack_original_group = from 34 5

abbrev pub ack_original_transaction : Column
ack_original_transaction = from 39 8

abbrev pub ack_original_type : Column
ack_original_type = from 47 3

abbrev pub ack_title : Column
ack_title = from 50 60

abbrev pub ack_submitter_number : Column
ack_submitter_number = from 110 20

abbrev pub ack_recipient_number : Column
ack_recipient_number = from 130 20

abbrev pub ack_processing_date : Column
ack_processing_date = from 150 8

abbrev pub ack_status : Column
ack_status = from 158 2

-- MSG, Message
abbrev pub message_message_type : Column
message_message_type = from 20 1

abbrev pub message_original_record : Column
message_original_record = from 21 8

abbrev pub message_record_type : Column
message_record_type = from 29 3

abbrev pub message_message_level : Column
message_message_level = from 32 1

abbrev pub message_validation_number : Column
message_validation_number = from 33 3

abbrev pub message_text : Column
message_text = from 36 150
