-- The text of a register: a line with the number of entries, and a line for each entry. An LF ends each line.
use Rattle.std.specs.Prelude.{◌≡◌, ℕ, ◌+◌, ◌≤◌, ◌<◌, ◌^◌, List, [], ◌∷◌, ◌++◌, length, IsTrue, unwrap_or}
use Rattle.std.specs.List.{AllByRecursion}
use Rattle.cwr_record.specs.Lines.{line_of}
use Rattle.cwr_call.specs.CallValue.{CallValue}
use Rattle.work_registry.specs.declared.reply.Reply.{Reply}
use Rattle.work_registry.specs.EntryValue.{EntryValue, entry_of}
use Rattle.work_registry.specs.History.{IsHistory}
use Rattle.work_registry.specs.Numbers.{max_entries}
use Rattle.work_registry.specs.Replay.{is_opening}
use Rattle.work_registry.specs.ReplyParts.{status_in, work_in, version_in}
use Rattle.work_registry.specs.RegisterLine.{EntryLine, entry_count, line_text, IsWholeCall}

-- the number of the work that a reply names, and 0 where it names none
abbrev pub work_of : Reply → ℕ
work_of reply = unwrap_or (work_in reply) 0

-- the version of an accepted claim, and 0 for any other reply
abbrev pub version_of : Reply → ℕ
version_of reply = unwrap_or (version_in reply) 0

-- what the line of the entry with this index, from 1, contains
abbrev pub line_for : ℕ → CallValue → Reply → EntryLine
line_for index call reply = record {
  index = index;
  call = call;
  status = status_in reply;
  work = work_of reply;
  version = version_of reply;
}

-- the line of an entry, with its LF
abbrev pub entry_line : ℕ → CallValue → Reply → List ℕ
entry_line index call reply = line_text (line_for index call reply)

-- the lines of entries, of which the first has this index
abbrev pub entry_lines : ℕ → List EntryValue → List ℕ
entry_lines index [] = []
entry_lines index (e ∷ es) = entry_line index e.call e.reply ++ entry_lines (index + 1) es

-- the first line of a register, which has the number of entries, with its LF
abbrev pub count_line : ℕ → List ℕ
count_line entries = line_of entry_count entries ++ 10 ∷ []

-- the bytes of a register with these entries, the oldest first
abbrev pub register_text : List EntryValue → List ℕ
register_text entries = count_line (length entries) ++ entry_lines 1 entries

-- an entry that a register can hold: its work and its version have at most eight digits
pub record FitsEntry (e : EntryValue) : Type 0 where
  pub work : work_of e.reply < 10 ^ 8
  pub version : version_of e.reply < 10 ^ 8

-- the entry with the session of the opening, as it is after it was read from a register
abbrev pub opened : EntryValue → EntryValue
opened e = entry_of 0 e.call e.reply

-- An entry that its line determines, but for its session: two histories of such entries with one text are the same,
-- but for their sessions.
pub record IsWholeEntry (e : EntryValue) : Type 0 where
  pub fits : FitsEntry e
  pub call : IsWholeCall e.call

-- the text is the register of a history of one registry with `count` entries, all of the opening, each of which a
-- register can hold
pub record IsAudited (text : List ℕ) (count : ℕ) : Type 0 where
  pub history : List EntryValue
  pub register : text ≡ register_text history
  pub lawful : IsHistory history
  pub opening : IsTrue (is_opening history)
  pub whole : AllByRecursion IsWholeEntry history
  pub entries : length history ≡ count
  pub few : count ≤ max_entries
