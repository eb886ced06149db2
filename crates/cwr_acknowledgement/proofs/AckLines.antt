-- Lines that are put together with their ends.
use Rattle.std.proofs.Common.{◌≡◌, ◌∙◌, ℕ, ◌≤◌, List, [], ◌∷◌, ◌++◌, length, take, ap, sym, append_assoc, append-nil, arith, refl}
use Rattle.std.proofs.lemmas.List.{take_all}
use Rattle.cwr_field.specs.Layout.{padded}
use Rattle.cwr_field.specs.Number.{number_text}
use Rattle.cwr_record.specs.Layout.{Part}
use Rattle.cwr_record.specs.Lines.{line_of, text_of}
use Rattle.cwr_record.specs.Stamp.{StampParts}
use Rattle.cwr_record.specs.Kinds.{work_kind_code, status_text}
use Rattle.cwr_record.specs.Acknowledgement as table
use Rattle.cwr_record.specs.declared.control.Header.{Header}
use Rattle.cwr_record.proofs.lemmas.RoundTrip.{length-padded, padded_full}
use Rattle.cwr_acknowledgement.specs.AckItem.{Item}
use Rattle.cwr_call.specs.declared.transaction_fault.Fault.{Fault}
use Rattle.cwr_acknowledgement.specs.Acknowledgement.{ack_record, ended, message_record, work_text}
use Rattle.cwr_acknowledgement.specs.Messages.{message_text}
use Rattle.cwr_record.proofs.lemmas.Codes.{length-work_kind_code, length-status_text}
use Rattle.cwr_acknowledgement.proofs.AckValues.{length-message_text, length-padded_work}

-- the texts of the rows, and the end behind them
abbrev rows_ended : {X : Type 0} → List (Part X) → X → List ℕ
rows_ended [] x = 13 ∷ 10 ∷ []
rows_ended (part ∷ parts) x = text_of x part ++ rows_ended parts x

ended_rows : {X : Type 0} (parts : List (Part X)) (x : X) → rows_ended parts x ≡ ended (line_of parts x)
ended_rows [] x = refl
ended_rows (part ∷ parts) x =
    ap (λ text. text_of x part ++ text) (ended_rows parts x) ∙ sym (append_assoc (text_of x part) (line_of parts x) (13 ∷ 10 ∷ []))

-- a text as wide as its field
full : (width : ℕ) (text spelled : List ℕ) → length spelled ≡ width → text ≡ spelled → text ≡ padded width spelled
full width text spelled wide is = is ∙ sym (padded_full width spelled wide)

-- the fields that are written over a line one after another are the line: the dates and the time were spelled before
pub ack_ended : (stamp : StampParts) (header : Header) (i : ℕ) (item : Item) (line before index date time group sequence kind number work day status : List ℕ)
    → take 161 line ++ [] ≡ take 0 before ++ ((65 ∷ 67 ∷ 75 ∷ []) ++ (index ++ (number_text 8 0 ++ (date ++ (time ++ (group ++ (sequence ++ (kind
    ++ (item.title ++ (number ++ (work ++ (day ++ (status ++ ((13 ∷ 10 ∷ []) ++ []))))))))))))))
    → length line ≡ 161 → index ≡ number_text 8 i → date ≡ number_text 8 header.creation_date → time ≡ number_text 6 header.creation_time
    → group ≡ number_text 5 item.group → sequence ≡ number_text 8 item.sequence → kind ≡ work_kind_code item.kind → length item.title ≡ 60
    → number ≡ padded 20 item.number → length item.number ≤ 20 → work ≡ padded 20 (work_text item.work) → day ≡ number_text 8 stamp.date
    → status ≡ status_text item.status → line ≡ ended (line_of table.ack (ack_record stamp header i item))
ack_ended stamp header i item line before index date time group sequence kind number work day status is len index_is date_is time_is group_is sequence_is kind_is title_len number_is short work_is day_is status_is =
    let kinds = full 3 kind (work_kind_code item.kind) (length-work_kind_code item.kind) kind_is in
    let titles = sym (padded_full 60 item.title title_len) in
    let numbers = full 20 number (padded 20 item.number) (length-padded 20 item.number short) number_is in
    let works = full 20 work (padded 20 (work_text item.work)) (length-padded_work item.work) work_is in
    let statuses = full 2 status (status_text item.status) (length-status_text item.status) status_is in
    sym (take_all 161 line (omega (arith, len))) ∙ sym (append-nil (take 161 line)) ∙ is
    ∙ ((λ j. (65 ∷ 67 ∷ 75 ∷ []) ++ (index_is j ++ (number_text 8 0 ++ (date_is j ++ (time_is j ++ (group_is j ++ (sequence_is j ++ (kinds j
    ++ (titles j ++ (numbers j ++ (works j ++ (day_is j ++ (statuses j ++ (13 ∷ 10 ∷ [])))))))))))))))
    ∙ ended_rows table.ack (ack_record stamp header i item)

-- the same of a message
pub message_ended : (i k : ℕ) (fault : Fault) (line before index detail sequence rule text : List ℕ)
    → take 187 line ++ [] ≡ take 0 before ++ ((77 ∷ 83 ∷ 71 ∷ []) ++ (index ++ (detail ++ ((84 ∷ []) ++ (sequence ++ (fault.rtype ++ ((84 ∷ [])
    ++ (rule ++ (padded 150 text ++ ((13 ∷ 10 ∷ []) ++ []))))))))))
    → length line ≡ 187 → index ≡ number_text 8 i → detail ≡ number_text 8 k → sequence ≡ number_text 8 fault.sequence → length fault.rtype ≡ 3
    → rule ≡ number_text 3 fault.number → text ≡ message_text fault.number → line ≡ ended (line_of table.message (message_record i k fault))
message_ended i k fault line before index detail sequence rule text is len index_is detail_is sequence_is type_len rule_is text_is =
    let short = length-message_text fault.number in
    let types = sym (padded_full 3 fault.rtype type_len) in
    let texts : padded 150 text ≡ padded 150 (padded 150 (message_text fault.number)) =
    ap (padded 150) text_is ∙ sym (padded_full 150 (padded 150 (message_text fault.number)) (length-padded 150 (message_text fault.number) short)) in
    sym (take_all 187 line (omega (arith, len))) ∙ sym (append-nil (take 187 line)) ∙ is
    ∙ ((λ j. (77 ∷ 83 ∷ 71 ∷ []) ++ (index_is j ++ (detail_is j ++ ((84 ∷ []) ++ (sequence_is j ++ (types j ++ ((84 ∷ [])
    ++ (rule_is j ++ (texts j ++ (13 ∷ 10 ∷ [])))))))))))
    ∙ ended_rows table.message (message_record i k fault)
