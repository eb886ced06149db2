-- The five parts of an acknowledgement, put one after another.
use Rattle.std.proofs.Common.{◌≡◌, ℕ, ◌+◌, List, ◌++◌, length, Result, Option}
use Rattle.std.specs.List.{flat_map}
use Rattle.byte_streams.specs.declared.sink.WriteStopped.{WriteStopped}
use Rattle.cwr_record.specs.Lines.{line_of}
use Rattle.cwr_record.specs.Stamp.{StampParts}
use Rattle.cwr_record.specs.Control as control
use Rattle.cwr_record.specs.declared.control.Header.{Header}
use Rattle.cwr_acknowledgement.specs.AckItem.{Item}
use Rattle.cwr_acknowledgement.specs.Acknowledgement.{ended, file_header, group_header, group_trailer, file_trailer, reported_fault_count, all_item_lines, ack_text}
use Rattle.cwr_acknowledgement.specs.Outgoing.{OutgoingState, Puts, Cuts, IsPut}
use Rattle.cwr_acknowledgement.proofs.AckSteps.{all_parts}
use Rattle.cwr_acknowledgement.proofs.Puts.{cut_first, cut_second, cut_third, cut_fourth, all_put}

module _ (stamp : StampParts) (header : Header) (items : List Item) (m : ℕ) (told : m ≡ reported_fault_count items) where
  abbrev head : List ℕ
  head = ended (line_of control.header (file_header stamp))

  abbrev group : List ℕ
  group = ended (line_of control.group_head group_header)

  abbrev middle : List ℕ
  middle = flat_map ended (all_item_lines stamp header 0 items)

  abbrev end : List ℕ
  end = ended (line_of control.group_trailer (group_trailer (length items) m))

  abbrev last : List ℕ
  last = ended (line_of control.file_trailer (file_trailer (length items) m))

  abbrev text : List ℕ
  text = ack_text stamp header items

  abbrev whole : head ++ (group ++ (middle ++ (end ++ last))) ≡ text
  whole = all_parts stamp header items m told

  pub ack_cut_first : (a b : Option (List ℕ)) (x : OutgoingState) (sent : ℕ) → Cuts a b x sent head → Cuts a b x sent text
  ack_cut_first = cut_first head group middle end last text whole

  pub ack_cut_second : (a b c : Option (List ℕ)) (x y : OutgoingState) (n sent : ℕ) → Puts a b x y n head → Cuts b c y sent group → Cuts a c x sent text
  ack_cut_second = cut_second head group middle end last text whole

  pub ack_cut_third : (a b c d : Option (List ℕ)) (x y z : OutgoingState) (n m sent : ℕ)
      → Puts a b x y n head → Puts b c y z m group → Cuts c d z sent middle → Cuts a d x sent text
  ack_cut_third = cut_third head group middle end last text whole

  pub ack_cut_fourth : (a b c d e : Option (List ℕ)) (x y z w : OutgoingState) (n m k sent : ℕ)
      → Puts a b x y n head → Puts b c y z m group → Puts c d z w k middle → Cuts d e w sent end → Cuts a e x sent text
  ack_cut_fourth = cut_fourth head group middle end last text whole

  pub ack_put : (o : Result (Unit {0}) WriteStopped) (a b c d e f : Option (List ℕ)) (x y z w v u : OutgoingState) (k : ℕ)
      → Puts a b x y 1 head → Puts b c y z 1 group → Puts c d z w k middle → Puts d e w v 1 end → IsPut o e f v u 1 last → IsPut o a f x u (4 + k) text
  ack_put = all_put head group middle end last text whole
