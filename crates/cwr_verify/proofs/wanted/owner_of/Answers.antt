use Rattle.std.proofs.Common.{◌≡◌, ◌∙◌, List, ◌<◌, length, get_or, set, Some, None, sym, ap, arith}
use Rattle.std.specs.Prelude.{option_and_then, slice_get}
use Rattle.std.proofs.lemmas.List.{length-set}
use Rattle.std.proofs.lemmas.Option.{slice_get-get_or}
use Rattle.cwr_call.specs.CallValue.{CallValue}
use Rattle.work_registry.specs.EntryValue.{EntryValue}
use Rattle.work_registry.specs.declared.reply.Reply.{Reply}
use Rattle.cwr_verify.proofs.Turns.{moved_on, one_leaves, waits_again, waits_no_more}
use Rattle.cwr_verify.specs.Wanting.{Wanting, key_of, key_of_entry, next_key, next_of, status_of_reply}
use Rattle.cwr_verify.specs.declared.ack_status.AckStatus.{AckStatus}
use Rattle.cwr_verify.specs.declared.waiting.Key.{Key}
use Rattle.cwr_verify.proofs.wanted.owner_of.Goals as goal

-- the key that was made of the parts of an entry
entry_key : (e : EntryValue) {key : Key} {told : AckStatus} {reply : Reply} {call : CallValue} → key ≡ key_of told call → told ≡ status_of_reply reply → reply ≡ e.reply → call ≡ e.call → key ≡ key_of_entry e
entry_key e is its replied asked = is ∙ (λ i. key_of ((its ∙ ap status_of_reply replied) i) (asked i))

pub returns-in_default-next_key-clause-moved : goal.returns-in_default-next_key-clause-moved
returns-in_default-next_key-clause-moved g c =
    moved_on c.args.wanted.now c.in-Some.file (get_or c.args.wanted.now c.in-Some.file c.index-wanted-file.result) c.pass.new.self c.args.entry.now
    (slice_get-get_or c.args.wanted.now c.in-Some.file c.index-wanted-file.result c.in-Some.ensures.1) c.in_ok-pass.ensures

pub returns-in_ok-insert-clause-waiting : goal.returns-in_ok-insert-clause-waiting
returns-in_ok-insert-clause-waiting g c =
    let all : List Wanting = c.args.wanted.now in
    let known : c.in-Some.file < length all = c.in-Some.ensures.1 in
    let now : List Wanting = set all c.in-Some.file c.pass.new.self in
    let still : c.in-Some.file < length now = omega (arith, known, length-set all c.in-Some.file c.pass.new.self) in
    let w : Wanting = get_or all c.in-Some.file c.index-wanted-file.result in
    let at : slice_get all c.in-Some.file ≡ Some w = slice_get-get_or all c.in-Some.file c.index-wanted-file.result known in
    let its : next_of now c.in-Some.file ≡ Some c.in-Some-next_key.key =
    ap (option_and_then next_key) (slice_get-get_or now c.in-Some.file c.index-wanted-file-2.result still) ∙ sym c.in-Some-next_key.ensures in
    waits_again now c.in-Some.file c.remove.new.self c.insert.new.self c.in-Some-next_key.key its c.in_ok-insert.ensures.updates
    (one_leaves all now c.in-Some.file w c.args.entry.now c.of-key.result c.args.waiting.now c.remove.new.self
    (moved_on all c.in-Some.file w c.pass.new.self c.args.entry.now at c.in_ok-pass.ensures) at (c.in-Some.ensures.0.made w at)
    (entry_key c.args.entry.now c.of-key.ensures c.of.ensures c.reply.ensures c.call.ensures) c.requires.waiting c.remove.ensures.updates)

pub returns-in_default-next_key-clause-waiting : goal.returns-in_default-next_key-clause-waiting
returns-in_default-next_key-clause-waiting g c =
    let all : List Wanting = c.args.wanted.now in
    let known : c.in-Some.file < length all = c.in-Some.ensures.1 in
    let now : List Wanting = set all c.in-Some.file c.pass.new.self in
    let still : c.in-Some.file < length now = omega (arith, known, length-set all c.in-Some.file c.pass.new.self) in
    let w : Wanting = get_or all c.in-Some.file c.index-wanted-file.result in
    let at : slice_get all c.in-Some.file ≡ Some w = slice_get-get_or all c.in-Some.file c.index-wanted-file.result known in
    let its : next_of now c.in-Some.file ≡ None =
    ap (option_and_then next_key) (slice_get-get_or now c.in-Some.file c.index-wanted-file-2.result still) ∙ sym c.in_default-next_key.ensures in
    waits_no_more now c.in-Some.file c.remove.new.self its
    (one_leaves all now c.in-Some.file w c.args.entry.now c.of-key.result c.args.waiting.now c.remove.new.self
    (moved_on all c.in-Some.file w c.pass.new.self c.args.entry.now at c.in_ok-pass.ensures) at (c.in-Some.ensures.0.made w at)
    (entry_key c.args.entry.now c.of-key.ensures c.of.ensures c.reply.ensures c.call.ensures) c.requires.waiting c.remove.ensures.updates)
