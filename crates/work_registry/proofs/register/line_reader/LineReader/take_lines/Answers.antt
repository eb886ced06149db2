use Rattle.std.proofs.Common.{◌∙◌, ◌∷◌, ◌++◌, [], ℕ, List, ap, refl, sym, subst, append_assoc}
use Rattle.work_registry.specs.RegisterFaults.{has_end, IsRefusal}
use Rattle.work_registry.specs.RegisterReader.{IsRest}
use Rattle.work_registry.proofs.EachOfList.{behind}
use Rattle.work_registry.proofs.HandedOn.{handed_on}
use Rattle.work_registry.proofs.register.line_reader.LineReader.take_lines.Goals as goal

pub loop-line-preserved : goal.loop-line-preserved
loop-line-preserved g c =
    let i = c.loop-line.invariant in
    let front = i.front.0 in
    let line = c.in-Some.line.now in
    let more = c.in-Some.more.now in
    let cut = c.in-Some.ensures.text in
    record {
      front = (front ++ (line ++ 10 ∷ []), i.front.1 ∙ ap (λ (xs : List ℕ). front ++ xs) (cut ∙ sym (append_assoc line (10 ∷ []) more)) ∙ sym (append_assoc front (line ++ 10 ∷ []) more));
      limit = c.in_ok-take_line.ensures.limit ∙ i.limit;
      keeps = c.in_ok-take_line.ensures.keeps ∙ i.keeps;
      read = λ text later left.
          let P : List ℕ → Type 0 = λ xs. IsRest c.loop-line.self.read text xs in
          c.in_ok-take_line.ensures.read text (more ++ later) (subst P (ap (λ (xs : List ℕ). xs ++ later) cut ∙ append_assoc line (10 ∷ more) later) (i.read text later left));
    }

pub loop-line-init : goal.loop-line-init
loop-line-init g c = record { front = ([], refl); limit = refl; keeps = refl; read = λ text later left. left }

pub returns-in_err-take_line-clause-fault : goal.returns-in_err-take_line-clause-fault
returns-in_err-take_line-clause-fault g c =
    let i = c.loop-line.invariant in
    let chunk = c.args.chunk.now in
    let line = c.in-Some.line.now in
    let more = c.in-Some.more.now in
    handed_on c.from_residual.result c.in_err-take_line.field-0.0 (λ refusal. (text later : List ℕ) → IsRest c.args.self.now.read text (chunk ++ later) → IsRefusal c.args.self.now.read.limit text refusal) c.from_residual.ensures.1
    (λ text later left.
    let P : List ℕ → Type 0 = λ xs. IsRest c.loop-line.self.read text xs in
    let R : ℕ → Type 0 = λ n. IsRefusal n text c.in_err-take_line.field-0.0 in
    subst R i.limit (c.in_err-take_line.ensures.fault text (more ++ later) (subst P (ap (λ (xs : List ℕ). xs ++ later) c.in-Some.ensures.text ∙ append_assoc line (10 ∷ more) later) (i.read text later left))))

pub returns-clause-whole : goal.returns-clause-whole
returns-clause-whole g c = ap has_end (behind c.args.chunk.now c.loop-line.invariant.front.0 c.loop-line.rest.now c.loop-line.invariant.front.1) ∙ c.in_default.ensures.unended

pub returns-clause-read : goal.returns-clause-read
returns-clause-read g c = λ text later left.
    let P : List ℕ → Type 0 = λ xs. IsRest c.loop-line.self.read text (xs ++ later) in
    subst P (sym (behind c.args.chunk.now c.loop-line.invariant.front.0 c.loop-line.rest.now c.loop-line.invariant.front.1)) (c.loop-line.invariant.read text later left)
