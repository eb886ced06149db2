-- One line more, and one item more.
use Rattle.std.proofs.Common.{◌≡◌, ◌∙◌, ℕ, zero, suc, ◌+◌, ◌<◌, ◌≤◌, List, [], ◌∷◌, ◌++◌, length, take, drop, get_or, slice_get, Option, Some, None, option_map, refl, ap, subst, append_assoc, arith}
use Rattle.std.specs.List.{flat_map, AllByRecursion}
use Rattle.std.proofs.lemmas.List.{drop_more, append-nil}
use Rattle.std.proofs.lemmas.Option.{get_or_from_slice_get, slice_get_within}
use Rattle.std.proofs.lemmas.Grind.{flat_map-append}
use Rattle.std.proofs.lemmas.List.Sums.{sum_by_more, sum_by_more_le, sum_by-take-le}
use Rattle.cwr_record.specs.Lines.{line_of}
use Rattle.cwr_record.specs.Stamp.{StampParts}
use Rattle.cwr_record.specs.Control as control
use Rattle.cwr_record.specs.Acknowledgement as table
use Rattle.cwr_record.specs.declared.control.Header.{Header}
use Rattle.cwr_call.specs.declared.transaction_fault.Fault.{Fault}
use Rattle.cwr_acknowledgement.specs.AckItem.{Item, reported_faults}
use Rattle.cwr_acknowledgement.specs.Acknowledgement.{FitsItem, ended, file_header, group_header, group_trailer, file_trailer, reported_fault_count, message_record, message_lines, item_lines, all_item_lines, ack_text}

-- the first of the messages that are left
pub message_next : (faults : List Fault) (i n : ℕ) (d : Fault) → n < length faults
    → flat_map ended (message_lines i (n + 1) (drop n faults))
    ≡ ended (line_of table.message (message_record i (n + 1) (get_or faults n d))) ++ flat_map ended (message_lines i (n + 1 + 1) (drop (n + 1) faults))
message_next faults i n d lt = ap (λ (fs : List Fault). flat_map ended (message_lines i (n + 1) fs)) (drop_more faults n d lt)

-- the first of the items that are left
pub item_next : (stamp : StampParts) (header : Header) (items : List Item) (i : ℕ) (item : Item) → i < length items → slice_get items i ≡ Some item
    → flat_map ended (all_item_lines stamp header i (drop i items))
    ≡ flat_map ended (item_lines stamp header i item) ++ flat_map ended (all_item_lines stamp header (i + 1) (drop (i + 1) items))
item_next stamp header items i item lt is =
    ap (λ (rest : List Item). flat_map ended (all_item_lines stamp header i rest)) (drop_more items i item lt ∙ ap (λ (x : Item). x ∷ drop (i + 1) items) (get_or_from_slice_get items i item item is))
    ∙ flat_map-append ended (item_lines stamp header i item) (all_item_lines stamp header (i + 1) (drop (i + 1) items))

-- how many lines there are with one item more, and that they are no more than all
pub lines_more : (items : List Item) (i : ℕ) (item : Item) → i < length items → slice_get items i ≡ Some item
    → i + 1 + reported_fault_count (take (i + 1) items) ≡ i + reported_fault_count (take i items) + (1 + length (reported_faults item))
lines_more items i item lt is =
    let more = sum_by_more (λ (x : Item). length (reported_faults x)) items i item lt in
    let same = ap (λ (x : Item). length (reported_faults x)) (get_or_from_slice_get items i item item is) in
    omega (arith, more, same)

pub lines_within : (items : List Item) (i : ℕ) → reported_fault_count (take i items) ≤ reported_fault_count items
lines_within items i = sum_by-take-le (λ (x : Item). length (reported_faults x)) items i

-- the next item's faults are no more than all that are told
pub told_within : (items : List Item) (i : ℕ) (item : Item) → slice_get items i ≡ Some item → reported_fault_count (take i items) + length (reported_faults item) ≤ reported_fault_count items
told_within items i item is =
    let within = slice_get_within items i item is in
    let le = sum_by_more_le (λ (x : Item). length (reported_faults x)) items i item within in
    let same = ap (λ (x : Item). length (reported_faults x)) (get_or_from_slice_get items i item item is) in
    omega (arith, le, same)

-- the item of which so many faults are told
counted : (items : List Item) (i n : ℕ) → option_map (λ (x : Item). length (reported_faults x)) (slice_get items i) ≡ Some n
    → (item : Item) × (slice_get items i ≡ Some item) × (length (reported_faults item) ≡ n)
counted items i n is = go (slice_get items i) refl is where
  go : (found : Option Item) → slice_get items i ≡ found → option_map (λ (x : Item). length (reported_faults x)) found ≡ Some n
      → (item : Item) × (slice_get items i ≡ Some item) × (length (reported_faults item) ≡ n)
  go None e of = absurd cc
  go (Some item) e of = (item, e, cc)

-- the next item's count is no more than that of all
pub count_within : (items : List Item) (i n : ℕ) → option_map (λ (x : Item). length (reported_faults x)) (slice_get items i) ≡ Some n
    → reported_fault_count (take i items) + n ≤ reported_fault_count items
count_within items i n is =
    let at = counted items i n is in
    let within = told_within items i at.0 at.1 in
    let count = at.2 in
    omega (arith, within, count)

-- the faults that are told with one item more
pub count_more : (items : List Item) (i n : ℕ) → option_map (λ (x : Item). length (reported_faults x)) (slice_get items i) ≡ Some n
    → reported_fault_count (take (i + 1) items) ≡ reported_fault_count (take i items) + n
count_more items i n is =
    let at = counted items i n is in
    let lines = lines_more items i at.0 (slice_get_within items i at.0 at.1) at.1 in
    let count = at.2 in
    omega (arith, lines, count)

-- an item of a list whose items all fit
pub fits_at : (items : List Item) (i : ℕ) (item : Item) → AllByRecursion FitsItem items → slice_get items i ≡ Some item → FitsItem item
fits_at items i item all is =
    subst FitsItem (get_or_from_slice_get items i item item is) (go items i all (slice_get_within items i item is)) where
      go : (xs : List Item) (n : ℕ) → AllByRecursion FitsItem xs → n < length xs → FitsItem (get_or xs n item)
      go [] n h lt = absurd (omega (arith, lt))
      go (x ∷ xs) zero h lt = h.0
      go (x ∷ xs) (suc n) h lt = go xs n h.1 (omega (arith, lt))

-- two lines, the lines of all items, and two lines
five_parts : (head group : List ℕ) (items : List (List ℕ)) (group_trailer end : List ℕ)
    → ended head ++ (ended group ++ (flat_map ended items ++ (ended group_trailer ++ ended end))) ≡ flat_map ended (head ∷ group ∷ items ++ group_trailer ∷ end ∷ [])
five_parts head group items group_trailer end = rw (flat_map-append ended items (group_trailer ∷ end ∷ []), append-nil) (simp append_assoc)

-- what is put, part by part, is the acknowledgement
pub all_parts : (stamp : StampParts) (header : Header) (items : List Item) (m : ℕ) → m ≡ reported_fault_count items
    → ended (line_of control.header (file_header stamp))
    ++ (ended (line_of control.group_head group_header)
    ++ (flat_map ended (all_item_lines stamp header 0 items)
    ++ (ended (line_of control.group_trailer (group_trailer (length items) m)) ++ ended (line_of control.file_trailer (file_trailer (length items) m)))))
    ≡ ack_text stamp header items
unfolding ack_text
all_parts stamp header items m told =
    let n = length items in
    let texts : ℕ → List ℕ = λ k. ended (line_of control.group_trailer (group_trailer n k)) ++ ended (line_of control.file_trailer (file_trailer n k)) in
    ap (λ k. ended (line_of control.header (file_header stamp)) ++ (ended (line_of control.group_head group_header)
    ++ (flat_map ended (all_item_lines stamp header 0 items) ++ texts k))) told
    ∙ five_parts (line_of control.header (file_header stamp)) (line_of control.group_head group_header) (all_item_lines stamp header 0 items)
    (line_of control.group_trailer (group_trailer n (reported_fault_count items))) (line_of control.file_trailer (file_trailer n (reported_fault_count items)))
