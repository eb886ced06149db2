-- The transactions of a file, judged: each with its group ID, its sequence and its call.
use Rattle.std.specs.Prelude.{ℕ, ◌≡◌, List, map, length}
use Rattle.std.specs.Str.Lines.{lines}
use Rattle.cwr_record.specs.Layout.{StandsFor}
use Rattle.cwr_record.specs.Control as table
use Rattle.cwr_record.specs.declared.control.Header.{Header}
use Rattle.cwr_call.specs.CallValue.{CallValue}
use Rattle.cwr_grammar.specs.File.{File, IsFile}
use Rattle.cwr_grammar.specs.RawParts.{RawParts, raws_of}
use Rattle.cwr_grammar.specs.Submitted.{IsBounded}
use Rattle.cwr_rules.specs.Calls.{call_of}

-- a judged transaction: its group ID, its transaction sequence, and the call that it makes
pub record JudgedValue : Type 0 where
  pub group : ℕ
  pub sequence : ℕ
  pub call : CallValue

-- a transaction of a submitter's file as it is judged
abbrev pub judged_of : List ℕ → RawParts → JudgedValue
judged_of submitter t = record { group = t.group; sequence = t.sequence; call = call_of submitter t }

-- these are the judged transactions under this header, in order, within the bounds of a file of `size` bytes
pub record AreJudged (size : ℕ) (head : Header) (transactions : List RawParts) (judged : List JudgedValue) : Type 0 where
  pub judged_are : judged ≡ map (judged_of head.sender) transactions
  pub bounds : IsBounded size head transactions

-- the text is a well-formed file with this header, and these are its judged transactions, in file order
pub record WasJudged (text : List ℕ) (head : Header) (judged : List JudgedValue) : Type 0 where
  pub file : File
  pub transactions : List RawParts
  pub formed : IsFile (lines text) file
  pub header : StandsFor table.header file.header head
  -- the transactions of all groups, in file order
  pub found : transactions ≡ raws_of 1 file.groups
  pub are : AreJudged (length text) head transactions judged
