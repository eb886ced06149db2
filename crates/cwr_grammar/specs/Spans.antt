-- The spans of transactions in the bytes of a file: where each begins and ends, in positions from 0.
use Rattle.std.specs.Prelude.{ℕ, ◌+◌, ◌≡◌, ◌≤◌, ◌<◌, List, [], ◌∷◌, ◌++◌, length, map, take, drop, Option, Some, None}
use Rattle.std.specs.List.{slice_range, AllByRecursion}
use Rattle.std.specs.Str.Lines.{lines}
use Rattle.cwr_grammar.specs.declared.role.Role.{Role}
use Rattle.cwr_grammar.specs.declared.role.Role.TheVariants.{TransactionHeader, Detail}
use Rattle.cwr_grammar.specs.declared.span.Span.{Span}
use Rattle.cwr_grammar.specs.declared.span.Open.{Open}
use Rattle.cwr_grammar.specs.RawParts.{RawParts, IsTransactionText}

-- the lines of a span
abbrev pub lines_at : List ℕ → Span → List (List ℕ)
lines_at text p = lines (slice_range text p.start p.end)

-- the transaction in a span
abbrev pub raw_at : List ℕ → Span → RawParts
raw_at text p = record { group = p.group; sequence = p.sequence; kind = p.kind; lines = lines_at text p }

-- the transactions in spans, in order
abbrev pub raws_at : List ℕ → List Span → List RawParts
raws_at text spans = map (raw_at text) spans

-- the span lies in the text
pub record IsInside (text : List ℕ) (p : Span) : Type 0 where
  pub forward : p.start ≤ p.end
  pub within : p.end ≤ length text

-- the span lies in the text, and its lines are as those of every transaction of a well-formed file
pub record IsSpan (text : List ℕ) (p : Span) : Type 0 where
  pub inside : IsInside text p
  pub whole : IsTransactionText (lines_at text p)

-- the span of the open transaction, which ends at a position; an empty list where none is open
abbrev pub closed : ℕ → Option Open → List Span
closed at None = []
closed at (Some o) = record { start = o.start; end = at; group = o.group; sequence = o.sequence; kind = o.kind } ∷ []

-- the span that a line closes: a detail continues the open transaction, and any other line ends it
abbrev pub closed_by : Role → ℕ → Option Open → List Span
closed_by (Detail transaction place) at current = []
closed_by _ at current = closed at current

-- the open transaction after a line at a position, where a header begins transaction t of group g
abbrev pub opened_by : Role → ℕ → ℕ → ℕ → Option Open → Option Open
opened_by (Detail transaction place) at g t current = current
opened_by (TransactionHeader (Some kind) transaction place) at g t current = Some (record { start = at; group = g; sequence = t; kind = kind })
opened_by _ at g t current = None

-- the open transaction with its lines up to a position
abbrev pub open_at : List ℕ → ℕ → Option Open → Option RawParts
open_at text at None = None
open_at text at (Some o) = Some (record { group = o.group; sequence = o.sequence; kind = o.kind; lines = lines (slice_range text o.start at) })

-- the open transaction begins at or before that position, and a line ends there if the text goes on
abbrev pub IsOpenAt : List ℕ → ℕ → Option Open → Type 0
IsOpenAt text at None = Unit {0}
IsOpenAt text at (Some o) = (o.start ≤ at) × (at < length text → (more : List ℕ) → lines (slice_range text o.start at ++ more) ≡ lines (slice_range text o.start at) ++ lines more)

-- the spans taken up to a position have these whole transactions, and this transaction is open
pub record Placed (text : List ℕ) (spans : List Span) (current : Option Open) (at : ℕ) (whole : List RawParts) (opened : Option RawParts) : Type 0 where
  pub inside : AllByRecursion (IsInside text) spans
  -- the open transaction can take the lines that follow
  pub goes : IsOpenAt text at current
  pub whole_is : whole ≡ raws_at text spans
  pub opened_is : opened ≡ open_at text at current

-- n bytes at a position are a line and, if the text goes on, its end
pub record IsLineAt (line text : List ℕ) (at n : ℕ) : Type 0 where
  -- the bytes have this line alone
  pub alone : lines (take n (drop at text)) ≡ line ∷ []
  -- more bytes behind them begin a new line, if the text goes on
  pub whole : at + n < length text → (more : List ℕ) → lines (take n (drop at text) ++ more) ≡ line ∷ lines more
