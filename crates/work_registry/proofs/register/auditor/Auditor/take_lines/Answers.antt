use Rattle.std.proofs.Common.{◌++◌, ℕ, List, sym, subst}
use Rattle.std.proofs.lemmas.Result.{IfErr-weaker}
use Rattle.work_registry.specs.Numbers.{max_entries}
use Rattle.work_registry.specs.RegisterFaults.{IsRefusal}
use Rattle.work_registry.specs.RegisterReader.{ReaderState, IsRest}
use Rattle.work_registry.proofs.register.auditor.Auditor.take_lines.Goals as goal

pub returns-clause-read : goal.returns-clause-read
returns-clause-read g c = rw (← c.self.view_is) c.take_lines.ensures.read

pub returns-clause-fault : goal.returns-clause-fault
returns-clause-fault g c =
    IfErr-weaker c.take_lines.result _ (λ refusal. (text later : List ℕ) → IsRest c.args.self.now text (c.args.chunk.now ++ later) → IsRefusal max_entries text refusal)
    (λ refusal is text later left.
    let P : ReaderState → Type 0 = λ s. IsRest s text (c.args.chunk.now ++ later) in
    let R : ℕ → Type 0 = λ n. IsRefusal n text refusal in
    subst R c.self.invariant (is text later (subst P (sym c.self.view_is) left)))
    c.take_lines.ensures.fault
