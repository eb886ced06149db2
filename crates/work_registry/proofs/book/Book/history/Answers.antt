use Rattle.std.proofs.Common.{◌∙◌, ap, arith}
use Rattle.work_registry.specs.Rows.{rows_of}
use Rattle.work_registry.proofs.NumberedReplies.{numbered}
use Rattle.work_registry.proofs.SoundHistories.{sound, named_once}
use Rattle.work_registry.proofs.book.Book.history.Goals as goal

pub returns-clause-entries : goal.returns-clause-entries
returns-clause-entries g c = c.deref.ensures.value ∙ ap (λ b. b.history) c.self.view_is

pub returns-clause-lawful : goal.returns-clause-lawful
returns-clause-lawful g c = rw (← c.self.view_is) c.self.invariant.0.lawful

pub returns-clause-shared : goal.returns-clause-shared
returns-clause-shared g c = rw (← c.self.view_is) (sound c.self.inside.history.items c.self.invariant.0.lawful).small

pub returns-clause-named_once : goal.returns-clause-named_once
returns-clause-named_once g c = rw (← c.self.view_is) (named_once (rows_of c.self.inside.history.items) (sound c.self.inside.history.items c.self.invariant.0.lawful))

pub returns-clause-numbered : goal.returns-clause-numbered
returns-clause-numbered g c =
    let book = c.self.invariant.0 in
    let fits = book.fits in
    let most = book.most in
    rw (← c.self.view_is) (numbered c.self.inside.history.items book.lawful (omega (arith, fits, most)))

pub returns-clause-fits : goal.returns-clause-fits
returns-clause-fits g c = rw (← c.self.view_is) c.self.invariant.0.fits

pub returns-clause-least : goal.returns-clause-least
returns-clause-least g c = rw (← c.self.view_is) c.self.invariant.0.least

pub returns-clause-most : goal.returns-clause-most
returns-clause-most g c = rw (← c.self.view_is) c.self.invariant.0.most
