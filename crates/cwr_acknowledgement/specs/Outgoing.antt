-- A text that is written out in chunks.
use Rattle.std.specs.Prelude.{◌≡◌, ℕ, ◌+◌, ◌*◌, ◌<◌, ◌≤◌, List, ◌++◌, length, take, Option, Result, Ok, Err}
use Rattle.std.specs.Io.KnownBytes.{Appends}
use Rattle.byte_streams.specs.declared.sink.WriteStopped.{WriteStopped}

-- a buffer of lines on their way to a sink: what it holds, and how much was written out before
pub record OutgoingState : Type 0 where
  -- what was put and not yet written out
  pub held : List ℕ
  -- the number of bytes that were written out before
  pub sent : ℕ
  -- the number of bytes of the buffer that are initialised
  pub ready : ℕ
  -- the most bytes that can be held
  pub capacity : ℕ

-- the number of bytes that were put so far, written out or held
abbrev pub size_of : OutgoingState → ℕ
size_of out = out.sent + length out.held

-- A text of at most n = `lines` lines was put. Of what was held and the text together, the first bytes were written to
-- the sink, and the others are held.
pub record Puts (before after : Option (List ℕ)) (old new : OutgoingState) (lines : ℕ) (text : List ℕ) : Type 0 where
  -- the bytes that were written to the sink
  pub gone : List ℕ
  -- what was held, and the text, are the bytes that were written and those that are held now
  pub whole : old.held ++ text ≡ gone ++ new.held
  pub taken : Appends before after gone
  pub counted : new.sent ≡ old.sent + length gone
  -- a line of an acknowledgement has at most 185 bytes, and its end two
  pub short : length text ≤ 187 * lines

-- A write stopped: of what was held and the text together, the first bytes were written to the sink, and fewer than
-- all. The number of all bytes ever written is `sent`.
pub record Cuts (before after : Option (List ℕ)) (old : OutgoingState) (sent : ℕ) (text : List ℕ) : Type 0 where
  -- the number of bytes written after `old.sent`
  pub more : ℕ
  pub counted : sent ≡ old.sent + more
  pub first : Appends before after (take more (old.held ++ text))
  pub fewer : more < length (old.held ++ text)

-- the text was put, or a write stopped
abbrev pub IsPut : Result (Unit {0}) WriteStopped → Option (List ℕ) → Option (List ℕ) → OutgoingState → OutgoingState → ℕ → List ℕ → Type 0
IsPut (Ok x) before after old new lines text = Puts before after old new lines text
IsPut (Err e) before after old new lines text = Cuts before after old e.sent text
