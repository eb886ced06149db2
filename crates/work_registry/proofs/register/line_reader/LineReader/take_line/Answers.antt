use Rattle.std.proofs.Common.{◌≡◌, ◌∙◌, ◌<◌, ◌≤◌, ◌+◌, ◌∷◌, ◌++◌, ℕ, List, Option, length, length-append, arith, ap, sym, subst}
use Rattle.work_registry.specs.EntryValue.{EntryValue}
use Rattle.work_registry.specs.RegisterReader.{LinesState, HasCounted, IsRest, IsRestAfter}
use Rattle.work_registry.specs.RegisterFaults.{IsRefusal}
use Rattle.work_registry.specs.RegisterReading.{IsReadTo}
use Rattle.work_registry.proofs.Audited.{rest_first, rest_later, counted_later}
use Rattle.work_registry.proofs.HandedOn.{handed_on}
use Rattle.work_registry.proofs.RegisterNextLine.{tail_line}
use Rattle.work_registry.proofs.register.line_reader.LineReader.take_line.Goals as goal

pub returns-in_err-first_count-clause-fault : goal.returns-in_err-first_count-clause-fault
returns-in_err-first_count-clause-fault g c =
    let line = c.args.line.now in
    let refusal = c.in_err-first_count.field-0.0 in
    let limit = ap (λ (s : LinesState). s.read.limit) c.self.view_is in
    handed_on c.from_residual.result refusal (λ r. (text more : List ℕ) → IsRest c.args.self.now.read text (line ++ 10 ∷ more) → IsRefusal c.args.self.now.read.limit text r) c.from_residual.ensures.1
    (λ text more left.
    let P : LinesState → Type 0 = λ s. IsRest s.read text (line ++ 10 ∷ more) in
    let Q : List ℕ → Type 0 = λ xs. IsRefusal c.args.self.now.read.limit xs refusal in
    let R : ℕ → Type 0 = λ n. IsRefusal n (line ++ 10 ∷ more) refusal in
    subst Q (sym (rest_first _ text (line ++ 10 ∷ more) c.in_default.is (subst P (sym c.self.view_is) left))) (subst R limit (c.in_err-first_count.ensures.fault more)))

pub invariant_of-self : goal.invariant_of-self
invariant_of-self g c =
    let P : Option ℕ → Type 0 = λ o. HasCounted c.self.inside.limit o c.self.inside.history_index in
    let none = subst P c.in_default.is c.self.invariant.0.counted in
    (record { counted = (omega (arith, ap length none), c.in_ok-first_count.ensures.within); least = c.self.invariant.0.least; most = c.self.invariant.0.most; opening = c.self.invariant.0.opening }, c.self.invariant.1)

pub returns-in_default-clause-read : goal.returns-in_default-clause-read
returns-in_default-clause-read g c = λ text more left.
    let line = c.args.line.now in
    let count = c.in_ok-first_count.field-0 in
    let P : Option ℕ → Type 0 = λ o. HasCounted c.self.inside.limit o c.self.inside.history_index in
    let Q : LinesState → Type 0 = λ s. IsRest s.read text (line ++ 10 ∷ more) in
    let R : List ℕ → Type 0 = λ xs. IsReadTo c.self.inside.limit xs count c.self.inside.history_index more in
    let S : List EntryValue → Type 0 = λ h. IsReadTo c.self.inside.limit (line ++ 10 ∷ more) count h more in
    let none = subst P c.in_default.is c.self.invariant.0.counted in
    subst R (sym (rest_first _ text (line ++ 10 ∷ more) c.in_default.is (subst Q (sym c.self.view_is) left))) (subst S (sym none) (c.in_ok-first_count.ensures.count more))

pub returns-then-len-count-clause-fault : goal.returns-then-len-count-clause-fault
returns-then-len-count-clause-fault g c = λ text more left.
    let line = c.args.line.now in
    let P : LinesState → Type 0 = λ s. IsRest s.read text (line ++ 10 ∷ more) in
    let R : ℕ → Type 0 = λ n. IsRefusal n text c.fault.result in
    let limit = ap (λ (s : LinesState). s.read.limit) c.self.view_is in
    let read = rest_later _ c.in-Some.count text (line ++ 10 ∷ more) c.in-Some.is (subst P (sym c.self.view_is) left) in
    let size = length-append line (10 ∷ more) in
    let full : length c.self.inside.history_index ≡ c.in-Some.count = sym c.len.ensures.value ∙ c.if-len-count.true in
    subst R limit (rw c.fault.ensures (tail_line c.self.inside.limit c.in-Some.count c.next_number.result text (line ++ 10 ∷ more) c.self.inside.history_index read (omega (arith, size)) full (c.next_number.ensures ∙ ap (λ (n : ℕ). n + 2) full)))

pub read_line-requires-clause-room : goal.read_line-requires-clause-room
read_line-requires-clause-room g c =
    let counted = counted_later c.self.inside.limit c.self.inside.count c.self.inside.history_index c.in-Some.count c.in-Some.is c.self.invariant.0.counted in
    omega (arith, counted.0, counted.1, c.self.invariant.0.most, c.len.ensures.value, c.if-len-count.false)

pub returns-in_err-read_line-clause-fault : goal.returns-in_err-read_line-clause-fault
returns-in_err-read_line-clause-fault g c =
    let line = c.args.line.now in
    let count = c.in-Some.count in
    let refusal = c.in_err-read_line.field-0.0 in
    let most = (counted_later c.self.inside.limit c.self.inside.count c.self.inside.history_index count c.in-Some.is c.self.invariant.0.counted).0 in
    let room : length c.self.inside.history_index < count = omega (arith, most, c.len.ensures.value, c.if-len-count.false) in
    handed_on c.from_residual-in_err-read_line.result refusal (λ r. (text more : List ℕ) → IsRest c.args.self.now.read text (line ++ 10 ∷ more) → IsRefusal c.args.self.now.read.limit text r) c.from_residual-in_err-read_line.ensures.1
    (λ text more left.
    let P : LinesState → Type 0 = λ s. IsRest s.read text (line ++ 10 ∷ more) in
    let R : ℕ → Type 0 = λ n. IsRefusal n text refusal in
    subst R (ap (λ (s : LinesState). s.read.limit) c.self.view_is)
    (c.in_err-read_line.ensures.fault more c.self.inside.limit text count room (rest_later _ count text (line ++ 10 ∷ more) c.in-Some.is (subst P (sym c.self.view_is) left))))

pub invariant_of-self-2 : goal.invariant_of-self-2
invariant_of-self-2 g c =
    let P : Option ℕ → Type 0 = λ o. HasCounted c.self.inside.limit o c.read_line.new.history_index in
    let old = counted_later c.self.inside.limit c.self.inside.count c.self.inside.history_index c.in-Some.count c.in-Some.is c.self.invariant.0.counted in
    let most : length c.read_line.new.history_index ≤ c.in-Some.count = omega (arith, old.0, c.len.ensures.value, c.if-len-count.false, c.in_ok-read_line.ensures.longer) in
    (record { counted = subst P (sym c.in-Some.is) (most, old.1); least = c.self.invariant.0.least; most = c.self.invariant.0.most; opening = c.in_ok-read_line.ensures.opening c.self.invariant.0.opening }, λ keeps. c.in_ok-read_line.ensures.kept keeps (c.self.invariant.1 keeps))

pub returns-clause-read : goal.returns-clause-read
returns-clause-read g c = λ text more left.
    let line = c.args.line.now in
    let count = c.in-Some.count in
    let most = (counted_later c.self.inside.limit c.self.inside.count c.self.inside.history_index count c.in-Some.is c.self.invariant.0.counted).0 in
    let room : length c.self.inside.history_index < count = omega (arith, most, c.len.ensures.value, c.if-len-count.false) in
    let P : LinesState → Type 0 = λ s. IsRest s.read text (line ++ 10 ∷ more) in
    let Q : Option ℕ → Type 0 = λ o. IsRestAfter c.self.inside.limit o c.read_line.new.history_index text more in
    subst Q (sym c.in-Some.is) (c.in_ok-read_line.ensures.read more c.self.inside.limit text count room (rest_later _ count text (line ++ 10 ∷ more) c.in-Some.is (subst P (sym c.self.view_is) left)))
