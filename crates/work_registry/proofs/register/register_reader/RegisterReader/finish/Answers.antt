use Rattle.std.proofs.Common.{◌∙◌, ℕ, List, ap, sym, subst}
use Rattle.work_registry.specs.Register.{register_text}
use Rattle.work_registry.specs.RegisterFaults.{IsRefusal}
use Rattle.work_registry.specs.RegisterReader.{ReaderState, IsRest}
use Rattle.work_registry.proofs.HandedOn.{handed_on}
use Rattle.work_registry.proofs.register.register_reader.RegisterReader.finish.Goals as goal

pub returns-in_err-lines-clause-fault : goal.returns-in_err-lines-clause-fault
returns-in_err-lines-clause-fault g c =
    let refusal = c.in_err-lines.field-0.0 in
    handed_on c.from_residual.result refusal (λ r. (text : List ℕ) → IsRest c.args.self text c.args.rest.now → IsRefusal c.args.self.limit text r) c.from_residual.ensures.1
    (λ text left.
    let P : ReaderState → Type 0 = λ s. IsRest s text c.args.rest.now in
    let R : ℕ → Type 0 = λ n. IsRefusal n text refusal in
    subst R (ap (λ (s : ReaderState). s.limit) c.self.view_is) (c.in_err-lines.ensures.fault text (subst P (sym c.self.view_is) left)))

pub into_book-requires : goal.into_book-requires
into_book-requires g c = c.in_ok-lines.ensures.keeps ∙ c.self.invariant

pub returns-clause-text : goal.returns-clause-text
returns-clause-text g c = λ text left.
    let P : ReaderState → Type 0 = λ s. IsRest s text c.args.rest.now in
    c.in_ok-lines.ensures.text text (subst P (sym c.self.view_is) left) ∙ ap (λ b. register_text b.history) (sym c.into_book.ensures.value)

pub returns-clause-whole : goal.returns-clause-whole
returns-clause-whole g c = λ text left.
    let P : ReaderState → Type 0 = λ s. IsRest s text c.args.rest.now in
    rw c.into_book.ensures.value (c.in_ok-lines.ensures.whole text (subst P (sym c.self.view_is) left))

pub returns-clause-lawful : goal.returns-clause-lawful
returns-clause-lawful g c = rw c.into_book.ensures.value c.in_ok-lines.ensures.lawful

pub returns-clause-opening : goal.returns-clause-opening
returns-clause-opening g c = rw c.into_book.ensures.value c.into_book.ensures.opening

pub returns-clause-limit : goal.returns-clause-limit
returns-clause-limit g c = ap (λ b. b.limit) c.into_book.ensures.value ∙ c.in_ok-lines.ensures.limit ∙ ap (λ (s : ReaderState). s.limit) c.self.view_is
