-- One text acknowledges one list of items.
use Rattle.std.proofs.Common.{◌≡◌, ◌∙◌, ℕ, ◌+◌, ◌≤◌, List, [], ◌∷◌, ◌++◌, length, get_or, Option, arith, ap, sym, subst, refl, append_assoc}
use Rattle.std.specs.List.{flat_map, AllByRecursion}
use Rattle.std.proofs.lemmas.List.{append_cancel_left}
use Rattle.std.proofs.lemmas.Grind.{flat_map-append}
use Rattle.cwr_record.specs.Lines.{line_of}
use Rattle.cwr_record.specs.Stamp.{StampParts}
use Rattle.cwr_record.specs.Control as control
use Rattle.cwr_record.specs.Acknowledgement as table
use Rattle.cwr_record.specs.declared.control.Header.{Header}
use Rattle.cwr_record.specs.declared.works.WorkKind.{WorkKind}
use Rattle.cwr_record.specs.declared.status.Status.{Status}
use Rattle.cwr_call.specs.declared.transaction_fault.Fault.{Fault}
use Rattle.cwr_acknowledgement.specs.AckItem.{Item, reported_faults}
use Rattle.cwr_acknowledgement.specs.Messages.{message_text}
use Rattle.cwr_acknowledgement.specs.Acknowledgement.{file_header, group_header, group_trailer, file_trailer, reported_fault_count, ended, ack_record, message_record, message_lines, all_item_lines, ack_text, FitsFault, IsWholeItem}
use Rattle.cwr_record.proofs.lemmas.Codes.{same_kind, same_status, length-work_kind_code, length-status_text}
use Rattle.cwr_acknowledgement.proofs.AckTexts.{Fills, same_ended, same_number}
use Rattle.cwr_acknowledgement.proofs.AckValues.{same_work, same_padded, length-padded_work, length-message_text}
use Rattle.cwr_record.proofs.lemmas.RoundTrip.{length-padded}

-- a fault that can be told, with a type of three bytes
record IsWholeFault (fault : Fault) : Type 0 where
  pub fits : FitsFault fault
  pub type : length fault.rtype ≡ 3

same_fault : (s s' n n' : ℕ) (t t' : List ℕ) → s ≡ s' → n ≡ n' → t ≡ t'
    → let a : Fault = record { sequence = s; number = n; rtype = t } in
    let b : Fault = record { sequence = s'; number = n'; rtype = t' } in a ≡ b
same_fault s s' n n' t t' p q r = rw (p, q, r) refl

message_fills : (i k : ℕ) (fault : Fault) → IsWholeFault fault → Fills table.message (message_record i k fault)
message_fills i k fault whole =
    (refl, (refl, (refl, (refl, (refl, (whole.type, (refl, (refl, (length-padded 150 (message_text fault.number) (length-message_text fault.number), tt)))))))))

-- one line of a message tells one fault
told_by_message : (i k : ℕ) (a b : Fault) (r s : List ℕ) → IsWholeFault a → IsWholeFault b
    → ended (line_of table.message (message_record i k a)) ++ r ≡ ended (line_of table.message (message_record i k b)) ++ s → (a ≡ b) × (r ≡ s)
told_by_message i k a b r s p q e =
    let same = same_ended table.message (message_record i k a) (message_record i k b) r s (message_fills i k a p) (message_fills i k b q) e in
    let from_sequence = same.0.1.1.1.1 in
    let sequence = same_number 8 a.sequence b.sequence p.fits.sequence q.fits.sequence from_sequence.0 in
    let rtype : a.rtype ≡ b.rtype = from_sequence.1.0 in
    let la = p.fits.last in
    let lb = q.fits.last in
    let number = same_number 3 a.number b.number (omega arith) (omega arith) from_sequence.1.1.1.0 in
    (same_fault a.sequence b.sequence a.number b.number a.rtype b.rtype sequence number rtype, same.1)

-- the first byte tells what kind of line a text begins with: 65 an acknowledgement, 77 a message, 71 a group's end
abbrev first : List ℕ → ℕ
first text = get_or text 0 0

-- the messages up to a line that is none tell the faults
told_by_messages : (i k : ℕ) (faults others : List Fault) (r s : List ℕ) → AllByRecursion IsWholeFault faults → AllByRecursion IsWholeFault others
    → (first r ≡ 77 → ⊥) → (first s ≡ 77 → ⊥)
    → flat_map ended (message_lines i k faults) ++ r ≡ flat_map ended (message_lines i k others) ++ s → (faults ≡ others) × (r ≡ s)
told_by_messages i k [] [] r s p q ends end e = (refl, e)
told_by_messages i k [] (b ∷ others) r s p q ends end e = absurd (ends (ap first e))
told_by_messages i k (a ∷ faults) [] r s p q ends end e = absurd (end (sym (ap first e)))
told_by_messages i k (a ∷ faults) (b ∷ others) r s p q ends end e =
    let x = ended (line_of table.message (message_record i k a)) in
    let y = ended (line_of table.message (message_record i k b)) in
    let xs = flat_map ended (message_lines i (k + 1) faults) in
    let ys = flat_map ended (message_lines i (k + 1) others) in
    let one = told_by_message i k a b (xs ++ r) (ys ++ s) p.0 q.0 (sym (append_assoc x xs r) ∙ e ∙ append_assoc y ys s) in
    let more = told_by_messages i (k + 1) faults others r s p.1 q.1 ends end one.1 in
    (rw (one.0, more.0) refl, more.1)

ack_fills : (stamp : StampParts) (header : Header) (i : ℕ) (item : Item) → IsWholeItem item → Fills table.ack (ack_record stamp header i item)
ack_fills stamp header i item whole =
    let small : length item.number ≤ 20 = let e = whole.number in omega arith in (
      refl,
      (
        refl,
        (
          refl,
          (
            refl,
            (
              refl,
              (
                refl,
                (
                  refl,
                  (
                    length-work_kind_code item.kind,
                    (
                      whole.title,
                      (length-padded 20 item.number small, (length-padded_work item.work, (refl, (length-status_text item.status, tt)))),
                    ),
                  ),
                ),
              ),
            ),
          ),
        ),
      ),
    )

-- what the line of an acknowledgement tells of an item: all but its faults
record SameDecision (a b : Item) : Type 0 where
  pub group : a.group ≡ b.group
  pub sequence : a.sequence ≡ b.sequence
  pub kind : a.kind ≡ b.kind
  pub title : a.title ≡ b.title
  pub number : a.number ≡ b.number
  pub status : a.status ≡ b.status
  pub work : a.work ≡ b.work

told_by_ack : (stamp : StampParts) (header : Header) (i : ℕ) (a b : Item) (r s : List ℕ) → IsWholeItem a → IsWholeItem b
    → ended (line_of table.ack (ack_record stamp header i a)) ++ r ≡ ended (line_of table.ack (ack_record stamp header i b)) ++ s
    → SameDecision a b × (r ≡ s)
told_by_ack stamp header i a b r s p q e =
    let same = same_ended table.ack (ack_record stamp header i a) (ack_record stamp header i b) r s (ack_fills stamp header i a p) (ack_fills stamp header i b q) e in
    let from_group = same.0.1.1.1.1.1 in
    let from_title = from_group.1.1.1 in
    let decision : SameDecision a b = record {
      group = same_number 5 a.group b.group p.fits.group q.fits.group from_group.0;
      sequence = same_number 8 a.sequence b.sequence p.fits.sequence q.fits.sequence from_group.1.0;
      kind = same_kind a.kind b.kind from_group.1.1.0;
      title = from_title.0;
      number = same_padded 20 a.number b.number (p.number ∙ sym q.number) from_title.1.0;
      work = same_work a.work b.work p.fits.work q.fits.work from_title.1.1.0;
      status = same_status a.status b.status from_title.1.1.1.1.0;
    } in
    (decision, same.1)

same_parts : (g g' s s' : ℕ) (k k' : WorkKind) (t t' n n' : List ℕ) (u u' : Status) (w w' : Option ℕ) (f f' : List Fault)
    → g ≡ g' → s ≡ s' → k ≡ k' → t ≡ t' → n ≡ n' → u ≡ u' → w ≡ w' → f ≡ f'
    → let a : Item = record { group = g; sequence = s; kind = k; title = t; number = n; status = u; work = w; faults = f } in
    let b : Item = record { group = g'; sequence = s'; kind = k'; title = t'; number = n'; status = u'; work = w'; faults = f' } in a ≡ b
same_parts g g' s s' k k' t t' n n' u u' w w' f f' e1 e2 e3 e4 e5 e6 e7 e8 = rw (e1, e2, e3, e4, e5, e6, e7, e8) refl

same_item : (a b : Item) → SameDecision a b → a.faults ≡ b.faults → a ≡ b
same_item a b d f =
    same_parts a.group b.group a.sequence b.sequence a.kind b.kind a.title b.title a.number b.number a.status b.status a.work b.work a.faults b.faults
    d.group d.sequence d.kind d.title d.number d.status d.work f

whole_faults : (faults : List Fault) → AllByRecursion FitsFault faults → AllByRecursion (λ (fault : Fault). length fault.rtype ≡ 3) faults
    → AllByRecursion IsWholeFault faults
whole_faults [] fits types = tt
whole_faults (fault ∷ faults) fits types = (record { fits = fits.0; type = types.0 }, whole_faults faults fits.1 types.1)

-- the faults that a whole item tells are whole
whole_told : (item : Item) → IsWholeItem item → AllByRecursion IsWholeFault (reported_faults item)
whole_told item whole =
    let P : List Fault → Type 0 = λ faults. AllByRecursion (λ (fault : Fault). length fault.rtype ≡ 3) faults in
    whole_faults (reported_faults item) whole.fits.faults (subst P (sym whole.told) whole.types)

-- the text of the first item, and what follows
first_item : (stamp : StampParts) (header : Header) (i : ℕ) (item : Item) (items : List Item) (r : List ℕ)
    → flat_map ended (all_item_lines stamp header i (item ∷ items)) ++ r
    ≡ ended (line_of table.ack (ack_record stamp header i item))
    ++ (flat_map ended (message_lines i 1 (reported_faults item)) ++ (flat_map ended (all_item_lines stamp header (i + 1) items) ++ r))
first_item stamp header i item items r =
    let a = ended (line_of table.ack (ack_record stamp header i item)) in
    let messages = message_lines i 1 (reported_faults item) in
    let rest = all_item_lines stamp header (i + 1) items in
    ap (λ text. (a ++ text) ++ r) (flat_map-append ended messages rest)
    ∙ append_assoc a (flat_map ended messages ++ flat_map ended rest) r
    ∙ ap (λ text. a ++ text) (append_assoc (flat_map ended messages) (flat_map ended rest) r)

-- neither an item nor the group's end begins with a message
no_message : (stamp : StampParts) (header : Header) (i : ℕ) (items : List Item) (r : List ℕ) → first r ≡ 71
    → first (flat_map ended (all_item_lines stamp header i items) ++ r) ≡ 77 → ⊥
no_message stamp header i [] r ends e = absurd (omega arith)
no_message stamp header i (item ∷ items) r ends e = absurd (omega arith)

no_ack : (n : ℕ) → n ≡ 71 → n ≡ 65 → ⊥
no_ack n p q = omega arith

-- the lines of items up to the group's end tell the items
told_by_lines : (stamp : StampParts) (header : Header) (i : ℕ) (items others : List Item) (r s : List ℕ)
    → AllByRecursion IsWholeItem items → AllByRecursion IsWholeItem others → first r ≡ 71 → first s ≡ 71
    → flat_map ended (all_item_lines stamp header i items) ++ r ≡ flat_map ended (all_item_lines stamp header i others) ++ s → items ≡ others
told_by_lines stamp header i [] [] r s p q ends end e = refl
told_by_lines stamp header i [] (b ∷ others) r s p q ends end e = absurd (no_ack (first r) ends (ap first e))
told_by_lines stamp header i (a ∷ items) [] r s p q ends end e = absurd (no_ack (first s) end (sym (ap first e)))
told_by_lines stamp header i (a ∷ items) (b ∷ others) r s p q ends end e =
    let xs = flat_map ended (all_item_lines stamp header (i + 1) items) ++ r in
    let ys = flat_map ended (all_item_lines stamp header (i + 1) others) ++ s in
    let of_a = reported_faults a in
    let of_b = reported_faults b in
    let decision = told_by_ack stamp header i a b (flat_map ended (message_lines i 1 of_a) ++ xs) (flat_map ended (message_lines i 1 of_b) ++ ys) p.0 q.0
    (sym (first_item stamp header i a items r) ∙ e ∙ first_item stamp header i b others s) in
    let faults = told_by_messages i 1 of_a of_b xs ys (whole_told a p.0) (whole_told b q.0)
    (no_message stamp header (i + 1) items r ends) (no_message stamp header (i + 1) others s end) decision.1 in
    let same : a ≡ b = same_item a b decision.0 (sym p.0.told ∙ faults.0 ∙ q.0.told) in
    let more = told_by_lines stamp header (i + 1) items others r s p.1 q.1 ends end faults.1 in
    rw (same, more) refl

-- the text of the two last lines
abbrev end_text : List Item → List ℕ
end_text items = flat_map ended (line_of control.group_trailer (group_trailer (length items) (reported_fault_count items)) ∷ line_of control.file_trailer (file_trailer (length items) (reported_fault_count items)) ∷ [])

-- the text, part by part
after_start : (stamp : StampParts) (header : Header) (items : List Item)
    → ack_text stamp header items
    ≡ ended (line_of control.header (file_header stamp)) ++ (ended (line_of control.group_head group_header) ++ (flat_map ended (all_item_lines stamp header 0 items) ++ end_text items))
unfolding ack_text
after_start stamp header items =
    ap (λ text. ended (line_of control.header (file_header stamp)) ++ (ended (line_of control.group_head group_header) ++ text))
    (flat_map-append ended (all_item_lines stamp header 0 items) _)

-- one text, one list of items
pub one_list : (stamp : StampParts) (header : Header) (items others : List Item) → AllByRecursion IsWholeItem items → AllByRecursion IsWholeItem others
    → ack_text stamp header items ≡ ack_text stamp header others → items ≡ others
one_list stamp header items others p q e =
    let a = ended (line_of control.header (file_header stamp)) in
    let b = ended (line_of control.group_head group_header) in
    let x = flat_map ended (all_item_lines stamp header 0 items) ++ end_text items in
    let y = flat_map ended (all_item_lines stamp header 0 others) ++ end_text others in
    let whole : a ++ (b ++ x) ≡ a ++ (b ++ y) = sym (after_start stamp header items) ∙ e ∙ after_start stamp header others in
    told_by_lines stamp header 0 items others (end_text items) (end_text others) p q refl refl
    (append_cancel_left b x y (append_cancel_left a (b ++ x) (b ++ y) whole))
