use Rattle.std.proofs.Common.{◌≡◌, refl}
use Rattle.std.specs.declared.result.Result.TheVariants.{Err}
use Rattle.register_store.specs.declared.reading.ReadBookError.TheVariants.{Read, TooLong, Refused}
use Rattle.work_registry.specs.declared.register.refusal.RegisterRefusal.TheVariants as register
use Rattle.work_registry.specs.Register.{register_text}
use Rattle.register_store.proofs.Given.{holds_given, unaudited_as, unread_is, failed_read}
use Rattle.register_store.proofs.reading.read_book.Goals as goal

pub returns-in-Ok-clause-text : goal.returns-in-Ok-clause-text
returns-in-Ok-clause-text g c =
    let m = c.in-Ok.ensures.made in
    holds_given (g.S.Source.left c.args.reader.now) m.0 (λ bytes. bytes ≡ register_text c.in-Ok.book.history) m.1 m.3.0

pub returns-in-Ok-clause-lawful : goal.returns-in-Ok-clause-lawful
returns-in-Ok-clause-lawful g c = c.in-Ok.ensures.made.3.1

pub returns-in-Ok-clause-opening : goal.returns-in-Ok-clause-opening
returns-in-Ok-clause-opening g c = c.in-Ok.ensures.made.3.2

pub returns-in-Ok-clause-limit : goal.returns-in-Ok-clause-limit
returns-in-Ok-clause-limit g c = c.in-Ok.ensures.made.3.3

pub returns-in-Err-clause-want : goal.returns-in-Err-clause-want
returns-in-Err-clause-want g c = λ e. (unread_is (Err c.no_book.result) (Refused register.Memory) 68719476736 _ _ (unaudited_as 68719476736 _ _ c.in-Err.why c.no_book.result c.no_book.ensures c.in-Err.ensures.unconsumed) e).1 refl

pub returns-in-Err-clause-fault : goal.returns-in-Err-clause-fault
returns-in-Err-clause-fault g c = λ r e. (unread_is (Err c.no_book.result) (Refused r) 68719476736 _ _ (unaudited_as 68719476736 _ _ c.in-Err.why c.no_book.result c.no_book.ensures c.in-Err.ensures.unconsumed) e).2

pub returns-in-Err-clause-too_long : goal.returns-in-Err-clause-too_long
returns-in-Err-clause-too_long g c = λ e. (unread_is (Err c.no_book.result) TooLong 68719476736 _ _ (unaudited_as 68719476736 _ _ c.in-Err.why c.no_book.result c.no_book.ensures c.in-Err.ensures.unconsumed) e).1

pub returns-in-Err-clause-failed : goal.returns-in-Err-clause-failed
returns-in-Err-clause-failed g c =
    let why = unaudited_as 68719476736 (g.S.Source.left c.args.reader.now) (g.S.Source.has_failed c.consume.new.reader) c.in-Err.why c.no_book.result c.no_book.ensures c.in-Err.ensures.unconsumed in
    (λ e. unread_is (Err c.no_book.result) Read 68719476736 _ _ why e, λ f. failed_read (Err c.no_book.result) 68719476736 _ _ tt why f)
