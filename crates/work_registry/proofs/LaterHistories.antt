use Rattle.std.proofs.Common.{List, [], ◌∷◌, ◌++◌, append_assoc, append-nil}
use Rattle.work_registry.specs.EntryValue.{EntryValue}
use Rattle.work_registry.specs.History.{IsHistory, KeepsNames}
use Rattle.work_registry.specs.Rows.{Row, rows_of, rows_of_entry}
use Rattle.work_registry.proofs.SoundRows.{IsSound}
use Rattle.work_registry.proofs.SoundHistories.{Follows, follows-first, follows-rest, sound-step, sound-none, keeps-from}

pub keeps-after-from : (g h : List EntryValue) (rows : List Row) → IsSound rows → Follows rows (g ++ h) → KeepsNames (rows ++ rows_of g) (rows ++ rows_of (g ++ h))
keeps-after-from [] h rows s f = rw (append-nil rows) (keeps-from h rows s f)
keeps-after-from (e ∷ es) h rows s f =
    rw (← append_assoc rows (rows_of_entry e.call e.reply) (rows_of es), ← append_assoc rows (rows_of_entry e.call e.reply) (rows_of (es ++ h)))
    (keeps-after-from es h (rows ++ rows_of_entry e.call e.reply) (sound-step rows e.call e.reply s (follows-first rows e (es ++ h) f)) (follows-rest rows e (es ++ h) f))

pub keeps-after : (g h : List EntryValue) → IsHistory (g ++ h) → KeepsNames (rows_of g) (rows_of (g ++ h))
keeps-after g h f = keeps-after-from g h [] sound-none f
