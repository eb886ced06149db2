-- A line in its box: which of its places are marked, and what stands in each. Places count from 1.
use Rattle.std.specs.Prelude.{◌≡◌, ◌<◌, ◌≤◌, ℕ, zero, suc, ◌+◌, ◌-◌, ◌&&◌, ◌||◌, ◌==◌, not, nat_le, nat_lt, Bool, false, min, max, List, [], ◌∷◌, ◌++◌, length, slice_index, take, drop, replicate, if◌then◌else◌}
use Rattle.std.specs.List.{list_any}
use Rattle.cwr_record.specs.declared.columns.Column.{Column}
use Rattle.html_text.specs.Pieces.{Piece, Fixed, cell, field_cell, shown, field_shown}
use Rattle.html_text.specs.declared.fragment.Fragment.{Fragment}
use Rattle.html_text.specs.declared.fragment.Fragment.TheVariants.{Beyond, MarkEnd}

-- the place is one of the field's
abbrev pub is_within : ℕ → Column → Bool
is_within place spot = nat_le spot.start place && nat_lt place (spot.start + spot.width)

-- the place is one of these fields'
abbrev pub is_inside : List Column → ℕ → Bool
is_inside spots place = list_any (is_within place) spots

-- one of these fields has its first place there
abbrev pub is_start : List Column → ℕ → Bool
is_start spots place = list_any (λ spot. (spot.start == place) && nat_lt 0 spot.width) spots

-- there is a place before it, which is one of these fields'
abbrev pub is_before : List Column → ℕ → Bool
is_before spots place = nat_lt 1 place && is_inside spots (place - 1)

-- a mark begins at the place
abbrev pub is_opened : List Column → ℕ → Bool
is_opened spots place = is_inside spots place && (is_start spots place || not (is_before spots place))

-- a mark ends at the place; `last` is the last one that is shown
abbrev pub is_closed : List Column → ℕ → ℕ → Bool
is_closed spots last place = is_inside spots place && ((place == last) || is_start spots (place + 1) || not (is_inside spots (place + 1)))

-- the byte at a place, with blanks seen in fields; a sign behind the line's end
abbrev pub place_shown : List ℕ → List Column → ℕ → List Piece
place_shown line spots place =
    if nat_lt (length line) place then Fixed Beyond ∷ []
    else if is_inside spots place then field_cell (slice_index line (place - 1))
    else cell (slice_index line (place - 1))

-- a fragment, where it is to stand
abbrev pub where_so : Bool → Fragment → List Piece
where_so so fragment = if so then Fixed fragment ∷ [] else []

-- so many places from one on: what each shows, between the begin and the end of a mark where these are
unfoldable pub marked : (ℕ → Bool) → (ℕ → Bool) → (ℕ → List Piece) → Fragment → ℕ → ℕ → List Piece
marked opened closed shows begin place zero = []
marked opened closed shows begin place (suc more) =
    (where_so (opened place) begin ++ (shows place ++ where_so (closed place) MarkEnd)) ++ marked opened closed shows begin (suc place) more

-- the most places that are shown
abbrev pub most_places : ℕ
most_places = 4096

-- the last of the places of these fields, where it is greater than another
abbrev pub last_place : ℕ → List Column → ℕ
last_place last [] = last
last_place last (spot ∷ spots) = last_place (max last (min most_places (spot.start + spot.width - 1))) spots

-- How many places are shown of a line of this length: one behind its end, and more where a field stands there. The
-- most are shown where it is longer.
abbrev pub places : ℕ → List Column → ℕ
places size spots = last_place (min most_places (size + 1)) spots

-- the line, with its fields marked
abbrev pub line_shown : List ℕ → List Column → Fragment → List Piece
line_shown line spots begin =
    let last = places (length line) spots in marked (is_opened spots) (is_closed spots last) (place_shown line spots) begin 1 last

-- the places from one on, before another, are all inside or all outside, and no field begins behind the first of them
pub record IsRun (spots : List Column) (at end : ℕ) : Type 0 where
  pub some : at < end
  pub alike : (k : ℕ) → at ≤ k → k < end → is_inside spots k ≡ is_inside spots at
  pub unbroken : (k : ℕ) → at < k → k < end → is_start spots k ≡ false

-- what such places show, which are all in the line or all behind its end
abbrev pub run_shown : List ℕ → Bool → ℕ → ℕ → List Piece
run_shown line inside at end =
    if nat_lt (length line) at then replicate (end - at) (Fixed Beyond)
    else if inside then field_shown (take (end - at) (drop (at - 1) line))
    else shown (take (end - at) (drop (at - 1) line))
