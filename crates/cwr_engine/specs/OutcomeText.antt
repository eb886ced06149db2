-- The line that reports how a job ended.
use Rattle.std.specs.Prelude.{ℕ, List, [], ◌∷◌, ◌++◌, codes}
use Rattle.std.specs.Fmt.{decimal}
use Rattle.cwr_grammar.specs.FaultText.{refused_text}
use Rattle.cwr_engine.specs.declared.outcome.Why.{Why}
use Rattle.cwr_engine.specs.declared.outcome.Why.TheVariants.{Memory, Full, Read, TooLong, Gate, Write}
use Rattle.cwr_engine.specs.declared.outcome.FileOutcome.{FileOutcome}
use Rattle.cwr_engine.specs.declared.outcome.FileOutcome.TheVariants.{Acked, Refused, Stopped}

-- the text of the cause for which a job stopped
abbrev pub why_text : Why → List ℕ
why_text Memory = codes "memory"
why_text Full = codes "full"
why_text Read = codes "read"
why_text TooLong = codes "too long"
why_text Gate = codes "gate"
why_text (Write sent) = codes "write after " ++ decimal sent ++ codes " bytes"

-- the text of an outcome
abbrev pub outcome_text : FileOutcome → List ℕ
outcome_text (Acked transactions) = codes "acknowledged " ++ decimal transactions
outcome_text (Refused number line) = refused_text number line
outcome_text (Stopped handed why) = codes "stopped after " ++ decimal handed ++ codes ": " ++ why_text why

-- the line of a file's outcome: the file's name, a colon, the outcome, LF
abbrev pub outcome_line : List ℕ → FileOutcome → List ℕ
outcome_line name outcome = name ++ (codes ": " ++ outcome_text outcome ++ 10 ∷ [])
