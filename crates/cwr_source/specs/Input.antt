-- The file of a source: what was left to it, or why that was not judged.
use Rattle.std.specs.Prelude.{ℕ, ◌≡◌, ◌≤◌, ◌<◌, Bool, true, List, length, Option, IfSome}
use Rattle.std.specs.Str.Lines.{lines}
use Rattle.cwr_grammar.specs.Faults.{IsLeastFault}
use Rattle.cwr_source.specs.declared.refused.SourceRefused.{SourceRefused}
use Rattle.cwr_source.specs.declared.refused.SourceRefused.TheVariants.{Memory, Read, TooLong, Fault}

-- the text has at most `limit` bytes, and it is what was left to a reader, where that is known
abbrev pub IsInput : ℕ → Option (List ℕ) → List ℕ → Type 0
IsInput limit left input = (length input ≤ limit) × IfSome left (λ bytes. input ≡ bytes)

-- why the file of a reader was not judged: an allocation failed, a read failed, it is too long, or it has this first
-- fault
abbrev pub IsUnjudged : ℕ → Option (List ℕ) → Bool → SourceRefused → Type 0
IsUnjudged limit left failed Memory = Unit {0}
IsUnjudged limit left failed Read = failed ≡ true
IsUnjudged limit left failed TooLong = IfSome left (λ bytes. limit < length bytes)
IsUnjudged limit left failed (Fault number line) = (input : List ℕ) × IsInput limit left input × IsLeastFault (lines input) line number
