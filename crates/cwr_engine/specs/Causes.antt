-- Causes of a stop.
use Rattle.std.specs.Prelude.{◌≡◌, Bool, true, false, Option, Some, None}
use Rattle.work_registry.specs.declared.refused.HandInError.{HandInError}
use Rattle.work_registry.specs.declared.refused.HandInError.TheVariants as refused
use Rattle.cwr_source.specs.declared.refused.SourceRefused.{SourceRefused}
use Rattle.cwr_source.specs.declared.refused.SourceRefused.TheVariants as unjudged
use Rattle.cwr_engine.specs.declared.outcome.FileOutcome.{FileOutcome}
use Rattle.cwr_engine.specs.declared.outcome.FileOutcome.TheVariants.{Acked, Refused, Stopped}
use Rattle.cwr_engine.specs.declared.outcome.Why.{Why}
use Rattle.cwr_engine.specs.declared.outcome.Why.TheVariants.{Memory, Full, Read, TooLong, Gate, Write}

-- the outcome of a job whose file was not judged
abbrev pub outcome_of : SourceRefused → FileOutcome
outcome_of unjudged.Memory = Stopped 0 Memory
outcome_of unjudged.Read = Stopped 0 Read
outcome_of unjudged.TooLong = Stopped 0 TooLong
outcome_of (unjudged.Fault number line) = Refused number line

-- the cause for which a job stops, given why its call was refused
abbrev pub refusal_of : HandInError → Why
refusal_of refused.Full = Full
refusal_of refused.Memory = Memory

-- a cause for which a transaction can be left without a reply: an allocation failed, the book holds its limit of
-- entries, or the gate may close
abbrev pub IsCause : Bool → Bool → Why → Type 0
IsCause full may_shut Memory = Unit {0}
IsCause full may_shut Full = full ≡ true
IsCause full may_shut Gate = may_shut ≡ true
IsCause full may_shut Read = ⊥
IsCause full may_shut TooLong = ⊥
IsCause full may_shut (Write sent) = ⊥

-- the cause is that the book holds its limit of entries
abbrev pub is_for_full : Why → Bool
is_for_full Memory = false
is_for_full Full = true
is_for_full Read = false
is_for_full TooLong = false
is_for_full Gate = false
is_for_full (Write sent) = false

-- the job stopped because the book holds its limit of entries
abbrev pub ends_full : FileOutcome → Bool
ends_full (Acked count) = false
ends_full (Refused fault line) = false
ends_full (Stopped handed why) = is_for_full why

-- a mark, where there is one, is set by a refusal because the book is full, and stays
abbrev pub marked_by : Bool → Option Bool → Option Bool
marked_by full None = None
marked_by true (Some mark) = Some true
marked_by false (Some mark) = Some mark
