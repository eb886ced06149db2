use Rattle.std.proofs.Common.{◌∷◌, ◌++◌, ℕ, List, refl, ap}
use Rattle.work_registry.specs.RegisterReading.{IsStop}
use Rattle.work_registry.specs.declared.register.entry_line.RecordedDecision.{RecordedDecision}
use Rattle.work_registry.specs.declared.register.head.Head.{Head}
use Rattle.work_registry.proofs.HandedOn.{handed_on}
use Rattle.work_registry.proofs.OneMoreEntry.{longer, still_opening}
use Rattle.work_registry.proofs.register.reading.read_line.Goals as goal

-- what the fields of fixed place tell beside the call
abbrev told_in : Head → RecordedDecision
told_in h = record { index = h.index; status = h.status; work = h.work; version = h.version }

pub enter_recorded-requires-clause-says : goal.enter_recorded-requires-clause-says
enter_recorded-requires-clause-says g c = rw (ap told_in c.head.view_is, c.faultless_call-call.ensures) c.in-Some.ensures.says

pub enter_recorded-requires-clause-only : goal.enter_recorded-requires-clause-only
enter_recorded-requires-clause-only g c = rw (ap told_in c.head.view_is, c.faultless_call-call.ensures) c.in-Some.ensures.only

pub returns-in_err-entry-clause-fault : goal.returns-in_err-entry-clause-fault
returns-in_err-entry-clause-fault g c = handed_on c.from_residual-in_err-entry.result c.in_err-entry.field-0.0 (λ r. (more : List ℕ) → IsStop c.args.history_index.now (c.args.line.now ++ 10 ∷ more) r) c.from_residual-in_err-entry.ensures.1 c.in_err-entry.ensures.fault

pub returns-in_err-reply-clause-fault : goal.returns-in_err-reply-clause-fault
returns-in_err-reply-clause-fault g c = handed_on c.from_residual-in_err-reply.result c.in_err-reply.field-0.0 (λ r. (more : List ℕ) → IsStop c.args.history_index.now (c.args.line.now ++ 10 ∷ more) r) c.from_residual-in_err-reply.ensures.1 c.in_err-reply.ensures.fault

pub returns-then-keeps-clause-opening : goal.returns-then-keeps-clause-opening
returns-then-keeps-clause-opening g c = still_opening c.args.history_index.now c.read_any_line.new.history_index c.in_ok-entry.entry c.in_ok-entry.ensures.entry c.in_ok-entry.ensures.session

pub returns-then-keeps-clause-longer : goal.returns-then-keeps-clause-longer
returns-then-keeps-clause-longer g c = longer c.args.history_index.now c.read_any_line.new.history_index c.in_ok-entry.entry c.in_ok-entry.ensures.entry

pub returns-else-keeps-clause-opening : goal.returns-else-keeps-clause-opening
returns-else-keeps-clause-opening g c = still_opening c.args.history_index.now c.read_any_line.new.history_index c.in_ok-entry.entry c.in_ok-entry.ensures.entry c.in_ok-entry.ensures.session

pub returns-else-keeps-clause-longer : goal.returns-else-keeps-clause-longer
returns-else-keeps-clause-longer g c = longer c.args.history_index.now c.read_any_line.new.history_index c.in_ok-entry.entry c.in_ok-entry.ensures.entry

pub returns-then-keeps-2-clause-opening : goal.returns-then-keeps-2-clause-opening
returns-then-keeps-2-clause-opening g c = still_opening c.args.history_index.now c.enter_recorded.new.history_index _ c.in_ok-reply.ensures.entry refl

pub returns-then-keeps-2-clause-longer : goal.returns-then-keeps-2-clause-longer
returns-then-keeps-2-clause-longer g c = longer c.args.history_index.now c.enter_recorded.new.history_index _ c.in_ok-reply.ensures.entry

pub returns-else-keeps-2-clause-opening : goal.returns-else-keeps-2-clause-opening
returns-else-keeps-2-clause-opening g c = still_opening c.args.history_index.now c.enter_recorded.new.history_index _ c.in_ok-reply.ensures.entry refl

pub returns-else-keeps-2-clause-longer : goal.returns-else-keeps-2-clause-longer
returns-else-keeps-2-clause-longer g c = longer c.args.history_index.now c.enter_recorded.new.history_index _ c.in_ok-reply.ensures.entry
