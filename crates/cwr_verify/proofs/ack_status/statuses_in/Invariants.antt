use Rattle.std.proofs.Common.{◌≡◌, ◌++◌}
use Rattle.std.specs.List.{filter_map}
use Rattle.std.specs.Str.Lines.{lines}
use Rattle.cwr_verify.specs.Acknowledged.{status_in_line}
use Rattle.cwr_verify.proofs.ack_status.statuses_in.Given as goal

-- what the lines so far tell, and the lines that are left
abbrev pub invariant-loop-line : goal.invariant-loop-line
invariant-loop-line g l = l.all.items ++ filter_map status_in_line l.line-iterator ≡ filter_map status_in_line (lines l.acknowledgement)
