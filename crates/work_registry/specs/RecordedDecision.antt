-- What the line of an entry contains beside the call, and the call.
use Rattle.cwr_call.specs.CallValue.{CallValue}
use Rattle.work_registry.specs.declared.register.entry_line.RecordedDecision.{RecordedDecision}
use Rattle.work_registry.specs.RegisterLine.{EntryLine}

-- what the line of an entry contains, put together from the decision and the call
abbrev pub line_of_decision : RecordedDecision → CallValue → EntryLine
line_of_decision told call = record { index = told.index; call = call; status = told.status; work = told.work; version = told.version }
