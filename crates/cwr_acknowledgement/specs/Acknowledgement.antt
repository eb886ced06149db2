-- The acknowledgement of a file (CWR 2.2, acknowledgement transactions), as a text.
use Rattle.std.specs.Prelude.{◌≡◌, ℕ, ◌+◌, ◌-◌, ◌<◌, ◌≤◌, ◌^◌, List, [], ◌∷◌, ◌++◌, length, Option, Some, None, codes}
use Rattle.std.specs.Option.{ForSome}
use Rattle.std.specs.List.{flat_map, sum_by, AllByRecursion}
use Rattle.cwr_field.specs.Layout.{padded}
use Rattle.cwr_field.specs.Number.{number_text, max_count}
use Rattle.cwr_record.specs.Lines.{line_of}
use Rattle.cwr_record.specs.Stamp.{StampParts}
use Rattle.cwr_record.specs.Kinds.{work_kind_code, status_text}
use Rattle.cwr_record.specs.Control as control
use Rattle.cwr_record.specs.Acknowledgement as table
use Rattle.cwr_record.specs.declared.control.Header.{Header}
use Rattle.cwr_record.specs.declared.control.GroupHead.{GroupHead}
use Rattle.cwr_record.specs.declared.control.GroupTrailer.{GroupTrailer}
use Rattle.cwr_record.specs.declared.control.FileTrailer.{FileTrailer}
use Rattle.cwr_record.specs.declared.acknowledgement.Ack.{Ack}
use Rattle.cwr_record.specs.declared.acknowledgement.Message.{Message}
use Rattle.cwr_call.specs.declared.transaction_fault.Fault.{Fault}
use Rattle.cwr_acknowledgement.specs.AckItem.{Item, reported_faults}
use Rattle.cwr_acknowledgement.specs.Messages.{message_text}

-- HDR: the society is the sender, and the stamp's day is the date of creation and of transmission
abbrev pub file_header : StampParts → Header
file_header stamp = record {
  sender = codes "SO000000" ++ number_text 3 stamp.society;
  name = stamp.name;
  creation_date = stamp.date;
  creation_time = stamp.time;
  transmission_date = stamp.date;
  character_set = padded 15 [];
}

-- GRH: the acknowledgement has one group, of transaction type ACK
abbrev pub group_header : GroupHead
group_header = record {
  transaction_type = codes "ACK";
  group = 1;
  version = codes "02.20";
  batch_request = codes "0000000000";
  submission_type = padded 2 [];
}

-- the registry's number of a work in eight digits, or no bytes where there is none
abbrev pub work_text : Option ℕ → List ℕ
work_text None = []
work_text (Some work) = number_text 8 work

-- ACK: transaction i of the acknowledgement, from 0, which acknowledges `item`, a transaction of the file with this
-- header
abbrev pub ack_record : StampParts → Header → ℕ → Item → Ack
ack_record stamp header i item = record {
  prefix = record { transaction = i; detail = 0 };
  creation_date = header.creation_date;
  creation_time = header.creation_time;
  original_group = item.group;
  original_transaction = item.sequence;
  original_type = work_kind_code item.kind;
  title = item.title;
  submitter_number = padded 20 item.number;
  recipient_number = padded 20 (work_text item.work);
  processing_date = stamp.date;
  status = status_text item.status;
}

-- MSG: record k, from 1, of transaction i reports this fault
abbrev pub message_record : ℕ → ℕ → Fault → Message
message_record i k fault = record {
  prefix = record { transaction = i; detail = k };
  message_type = codes "T";
  original_record = fault.sequence;
  record_type = fault.rtype;
  message_level = codes "T";
  validation_number = fault.number;
  text = padded 150 (message_text fault.number);
}

-- GRT of n transactions with m MSG records in all; its record count includes GRH and GRT
abbrev pub group_trailer : ℕ → ℕ → GroupTrailer
group_trailer n m = record { group = 1; transactions = n; records = n + 2 + m }

-- TRL of n transactions with m MSG records in all; its record count includes HDR, GRH, GRT and TRL
abbrev pub file_trailer : ℕ → ℕ → FileTrailer
file_trailer n m = record { groups = 1; transactions = n; records = n + 4 + m }

-- a MSG line for each fault, in order, the first of them record k of transaction i
abbrev pub message_lines : ℕ → ℕ → List Fault → List (List ℕ)
message_lines i k [] = []
message_lines i k (fault ∷ faults) = line_of table.message (message_record i k fault) ∷ message_lines i (k + 1) faults

-- the lines of transaction i: its ACK, and a MSG for each fault that is reported
abbrev pub item_lines : StampParts → Header → ℕ → Item → List (List ℕ)
item_lines stamp header i item =
    line_of table.ack (ack_record stamp header i item) ∷ message_lines i 1 (reported_faults item)

-- the lines of all transactions, in order, the first of them transaction i
abbrev pub all_item_lines : StampParts → Header → ℕ → List Item → List (List ℕ)
all_item_lines stamp header i [] = []
all_item_lines stamp header i (item ∷ items) = item_lines stamp header i item ++ all_item_lines stamp header (i + 1) items

-- the number of faults that are reported in all, each by one MSG
abbrev pub reported_fault_count : List Item → ℕ
reported_fault_count items = sum_by (λ item. length (reported_faults item)) items

-- the greatest number of transactions and messages of an acknowledgement: with HDR, GRH, GRT and TRL its record count
-- has at most eight digits
abbrev pub max_ack_records : ℕ
max_ack_records = max_count - 4

-- the lines of the acknowledgement, from HDR to TRL, without line ends
abbrev pub ack_lines : StampParts → Header → List Item → List (List ℕ)
ack_lines stamp header items =
    line_of control.header (file_header stamp)
    ∷ line_of control.group_head group_header
    ∷ all_item_lines stamp header 0 items
    ++ line_of control.group_trailer (group_trailer (length items) (reported_fault_count items))
    ∷ line_of control.file_trailer (file_trailer (length items) (reported_fault_count items))
    ∷ []

-- a line with its end, CR LF
abbrev pub ended : List ℕ → List ℕ
ended line = line ++ 13 ∷ 10 ∷ []

-- the acknowledgement of these items of a file with this header: its lines, each with CR LF
unfoldable pub ack_text : StampParts → Header → List Item → List ℕ
ack_text stamp header items = flat_map ended (ack_lines stamp header items)

-- a fault that can be reported: a record sequence of at most eight digits, and a number from 1 to 15, each of which
-- has a text
pub record FitsFault (fault : Fault) : Type 0 where
  pub sequence : fault.sequence < 10 ^ 8
  pub first : 1 ≤ fault.number
  pub last : fault.number ≤ 15

-- an item that can be acknowledged: its numbers fit their fields, and so do those of the faults that are reported
pub record FitsItem (item : Item) : Type 0 where
  pub group : item.group < 10 ^ 5
  pub sequence : item.sequence < 10 ^ 8
  pub work : ForSome item.work (λ work. work < 10 ^ 8)
  pub faults : AllByRecursion FitsFault (reported_faults item)

-- An item that its lines determine: two lists of such items with one text are one list. It can be acknowledged, and
-- has faults only where it is rejected. The widths of its texts are those that every item of a program has by its
-- types.
pub record IsWholeItem (item : Item) : Type 0 where
  pub fits : FitsItem item
  -- it has faults only where it is rejected
  pub told : reported_faults item ≡ item.faults
  pub title : length item.title ≡ 60
  pub number : length item.number ≡ 14
  pub types : AllByRecursion (λ fault. length fault.rtype ≡ 3) item.faults
