use Rattle.std.proofs.Common.{◌≤◌, ℕ, length, arith, refl, ap, sym, subst}
use Rattle.work_registry.specs.RegisterFaults.{IsRefusal}
use Rattle.work_registry.specs.RegisterReader.{ReaderState, IsRest}
use Rattle.work_registry.proofs.HandedOn.{handed_on}
use Rattle.work_registry.proofs.RegisterLaws.{read_history, refused_history}
use Rattle.work_registry.proofs.register.read_register.Goals as goal

pub returns-in_err-book-clause-again : goal.returns-in_err-book-clause-again
returns-in_err-book-clause-again g c = λ history is whole few text.
    let limit = ap (λ (s : ReaderState). s.limit) c.new.ensures in
    let P : ReaderState → Type 0 = λ s. IsRest s c.args.bytes.now c.args.bytes.now in
    let Q : ℕ → Type 0 = λ n. IsRefusal n c.args.bytes.now c.in_err-book.field-0.0 in
    refused_history c.args.limit c.args.bytes.now history c.from_residual.result c.in_err-book.field-0.0 _ c.requires.most c.from_residual.ensures.1
    (subst Q limit (c.in_err-book.ensures.fault c.args.bytes.now (subst P (sym c.new.ensures) refl))) is whole few text

pub returns-in_err-book-clause-fault : goal.returns-in_err-book-clause-fault
returns-in_err-book-clause-fault g c =
    let limit = ap (λ (s : ReaderState). s.limit) c.new.ensures in
    let P : ReaderState → Type 0 = λ s. IsRest s c.args.bytes.now c.args.bytes.now in
    let Q : ℕ → Type 0 = λ n. IsRefusal n c.args.bytes.now c.in_err-book.field-0.0 in
    handed_on c.from_residual.result c.in_err-book.field-0.0 (IsRefusal c.args.limit c.args.bytes.now) c.from_residual.ensures.1
    (subst Q limit (c.in_err-book.ensures.fault c.args.bytes.now (subst P (sym c.new.ensures) refl)))

pub returns-clause-text : goal.returns-clause-text
returns-clause-text g c =
    let P : ReaderState → Type 0 = λ s. IsRest s c.args.bytes.now c.args.bytes.now in
    c.in_ok-book.ensures.text c.args.bytes.now (subst P (sym c.new.ensures) refl)

pub returns-clause-whole : goal.returns-clause-whole
returns-clause-whole g c =
    let P : ReaderState → Type 0 = λ s. IsRest s c.args.bytes.now c.args.bytes.now in
    c.in_ok-book.ensures.whole c.args.bytes.now (subst P (sym c.new.ensures) refl)

pub returns-clause-again : goal.returns-clause-again
returns-clause-again g c = λ history is whole few text.
    let P : ReaderState → Type 0 = λ s. IsRest s c.args.bytes.now c.args.bytes.now in
    let start = subst P (sym c.new.ensures) refl in
    let fits = c.history-history.ensures.fits in
    let limit = c.in_ok-book.ensures.limit in
    let held : length c.in_ok-book.book.history ≤ c.args.limit = omega (arith, fits, limit, ap (λ (s : ReaderState). s.limit) c.new.ensures) in
    read_history c.args.limit c.args.bytes.now c.in_ok-book.book.history history c.requires.most held c.in_ok-book.ensures.opening (c.in_ok-book.ensures.whole c.args.bytes.now start) (c.in_ok-book.ensures.text c.args.bytes.now start) whole few text
