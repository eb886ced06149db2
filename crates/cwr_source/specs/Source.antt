-- A file that is consumed as it comes from its source.
use Rattle.std.specs.Prelude.{ℕ, ◌≡◌, Bool, true, false, List, ◌++◌, length, Option}
use Rattle.byte_streams.specs.declared.consuming.ConsumeError.{ConsumeError}
use Rattle.byte_streams.specs.declared.consuming.ConsumeError.TheVariants as consumed
use Rattle.byte_streams.specs.declared.reading.ReadRefused.TheVariants as unread
use Rattle.cwr_grammar.specs.RawParts.{RawParts}
use Rattle.cwr_record.specs.declared.control.Header.{Header}
use Rattle.cwr_grammar.specs.ReadUpTo.{ReaderState, IsReadUpTo}
use Rattle.cwr_grammar.specs.declared.refusal.FileRefusal.{FileRefusal}
use Rattle.cwr_grammar.specs.declared.refusal.FileRefusal.TheVariants as file
use Rattle.cwr_source.specs.declared.refused.SourceRefused.{SourceRefused}
use Rattle.cwr_source.specs.declared.refused.SourceRefused.TheVariants.{Memory, Read, TooLong, Fault}

-- the error of a file, given why its text was not consumed
abbrev pub answer_for : ConsumeError FileRefusal → SourceRefused
answer_for (consumed.Unread unread.Memory) = Memory
answer_for (consumed.Unread unread.Read) = Read
answer_for (consumed.Unread unread.TooLong) = TooLong
answer_for (consumed.Refused file.Memory) = Memory
answer_for (consumed.Refused (file.Fault number line)) = Fault number line

-- the file is refused because an allocation failed
abbrev pub is_memory : FileRefusal → Bool
is_memory file.Memory = true
is_memory (file.Fault number line) = false

-- a reader has read the text up to its last bytes, `left`
pub record HasLeft (keeps : Option Header → List RawParts → Option RawParts → Type 0) (reader : ReaderState) (text left : List ℕ) : Type 0 where
  -- the bytes that the reader has read
  pub passed : List ℕ
  pub text_is : text ≡ passed ++ left
  pub lines_read : IsReadUpTo keeps reader text (length passed)
