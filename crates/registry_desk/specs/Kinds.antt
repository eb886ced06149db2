-- The kinds of step that a running desk has. There are no others: each play, each split and each join of its rule is
-- of one of them.
use Rattle.std.specs.Prelude.{ℕ, Bool, List, Option}
use Rattle.atomic_table.specs.Table.{Step}
use Rattle.work_registry.specs.BookValue.{BookValue}
use Rattle.registry_desk.specs.declared.view.View.{View}
use Rattle.registry_desk.specs.Views.{giving, given_view, meeting}
use Rattle.registry_desk.specs.Plays.{Seated, Draws, Looks, Shuts, Passes, Counts}

-- A step by a seat: it draws a ticket; it looks at the flag of its ticket, and enters or waits on; it closes that
-- flag, having found the book full or not; it passes the lock on; it counts the seats that it met; it gives a seat; it
-- meets one; or it exchanges the book that it has out of the slot.
pub data Kind : Type 0 where
  draws : Kind
  looks : Kind
  shuts : Bool → Kind
  passes : Kind
  counts : Kind
  gives : Kind
  meets : Kind
  exchanges : Kind

-- what a step of this kind on a word says about the seat that makes it: the step, the seat before, the number found
-- (where one is stored, the number stored) and the seat after
abbrev pub Tells : Kind → Step (Option BookValue) → Seated → ℕ → Seated → Type 0
Tells draws step me number after = Draws step me number after
Tells looks step me number after = Looks step me number after
Tells (shuts full) step me number after = Shuts full step me number after
Tells passes step me number after = Passes step me number after
Tells counts step me number after = Counts step me number after
Tells _ step me number after = ⊥

-- the view that is left to a seat that gives one
abbrev pub left_by : Kind → View → View
left_by gives v = giving v
left_by _ v = v

-- the view of the seat that is given
abbrev pub given_by : Kind → View → View
given_by gives v = given_view v
given_by _ v = v

-- the view of a seat that met another one
abbrev pub joined_by : Kind → View → View → View
joined_by meets v w = meeting v w
joined_by _ v w = v

-- a step of this kind leads from the view v of a seat to the view w
pub record Moves (kind : Kind) (v w : View) : Type 0 where
  pub step : Step (Option BookValue)
  pub number : ℕ
  -- what the seat has out of slots before the step
  pub carried : List (ℕ × Option BookValue)
  -- what it has out of slots after the step
  pub carries : List (ℕ × Option BookValue)
  pub told : Tells kind step (v, carried) number (w, carries)
