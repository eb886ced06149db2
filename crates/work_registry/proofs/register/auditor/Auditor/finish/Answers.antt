use Rattle.std.proofs.Common.{◌∙◌, ℕ, List, length, ap, sym, subst}
use Rattle.work_registry.specs.Numbers.{max_entries}
use Rattle.work_registry.specs.RegisterFaults.{IsRefusal}
use Rattle.work_registry.specs.RegisterReader.{LinesState, ReaderState, IsRest}
use Rattle.work_registry.proofs.HandedOn.{handed_on}
use Rattle.work_registry.proofs.register.auditor.Auditor.finish.Goals as goal

pub returns-in_err-lines-clause-fault : goal.returns-in_err-lines-clause-fault
returns-in_err-lines-clause-fault g c =
    let refusal = c.in_err-lines.field-0.0 in
    handed_on c.from_residual.result refusal (λ r. (text : List ℕ) → IsRest c.args.self text c.args.rest.now → IsRefusal max_entries text r) c.from_residual.ensures.1
    (λ text left.
    let P : ReaderState → Type 0 = λ s. IsRest s text c.args.rest.now in
    let R : ℕ → Type 0 = λ n. IsRefusal n text refusal in
    subst R c.self.invariant (c.in_err-lines.ensures.fault text (subst P (sym c.self.view_is) left)))

pub returns-clause-entries : goal.returns-clause-entries
returns-clause-entries g c = λ text left.
    let P : ReaderState → Type 0 = λ s. IsRest s text c.args.rest.now in
    let start = subst P (sym c.self.view_is) left in
    record {
      history = c.in_ok-lines.lines.read.history;
      register = c.in_ok-lines.ensures.text text start;
      lawful = c.in_ok-lines.ensures.lawful;
      opening = c.in_ok-lines.ensures.opening;
      whole = c.in_ok-lines.ensures.whole text start;
      entries = ap (λ (s : LinesState). length s.read.history) (sym c.lines.view_is) ∙ sym c.len.ensures.value;
      few = c.len.ensures.few;
    }
