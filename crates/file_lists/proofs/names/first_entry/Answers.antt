use Rattle.std.proofs.Common.{◌≡◌, ◌+◌, ◌-◌, length, take, drop, arith, length-drop}
use Rattle.std.proofs.lemmas.List.{take_all}
use Rattle.file_lists.proofs.FirstEntry.{entries-ended, entries-unended}
use Rattle.file_lists.proofs.names.first_entry.Goals as goal

pub returns-in-Some-clause-entry : goal.returns-in-Some-clause-entry
returns-in-Some-clause-entry c =
    let whole : take (length c.args.text.now - (c.in-Some.at + 1)) (drop (c.in-Some.at + 1) c.args.text.now) ≡ drop (c.in-Some.at + 1) c.args.text.now = take_all _ _ (simp length-drop (omega arith)) in
    rw whole (entries-ended c.args.end c.args.text.now c.in-Some.at c.in-Some.ensures.value)

pub returns-in-None-clause-entry : goal.returns-in-None-clause-entry
returns-in-None-clause-entry c = entries-unended c.args.end c.args.text.now c.requires c.in-None.ensures.value
