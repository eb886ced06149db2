use Rattle.std.proofs.Common.{◌≡◌, ◌∙◌, ◌<◌, ◌+◌, ◌-◌, ◌++◌, [], true, false, ℕ, List, length, take, drop, arith, ap, sym, subst, append-nil}
use Rattle.std.proofs.lemmas.List.{take_rest}
use Rattle.std.specs.List.{AllByRecursion}
use Rattle.work_registry.specs.History.{IsHistory}
use Rattle.work_registry.specs.Register.{register_text, IsWholeEntry}
use Rattle.work_registry.specs.RegisterFaults.{has_end, IsRefusal}
use Rattle.work_registry.specs.RegisterReader.{LinesState, ReaderState, IsRest}
use Rattle.work_registry.specs.Replay.{is_opening}
use Rattle.work_registry.proofs.Audited.{rest_first, rest_later, counted_later}
use Rattle.work_registry.proofs.HandedOn.{handed_on}
use Rattle.work_registry.proofs.RegisterNextLine.{absent_first, absent_line, all_read, none_left, some_left, tail_line}
use Rattle.work_registry.proofs.register.line_reader.LineReader.finish.Goals as goal

-- what is left behind the lines that were taken
left_behind : (before after : ReaderState) (text rest : List ℕ) (taken : ℕ) → (IsRest before text (rest ++ []) → IsRest after text (drop taken rest ++ []))
    → IsRest before text rest → IsRest after text (take (length rest - taken) (drop taken rest))
left_behind before after text rest taken read left =
    let P : List ℕ → Type 0 = λ xs. IsRest before text xs in
    let Q : List ℕ → Type 0 = λ xs. IsRest after text xs in
    subst Q (append-nil (drop taken rest) ∙ sym (take_rest rest taken)) (read (subst P (sym (append-nil rest)) left))

pub returns-in_err-taken-clause-fault : goal.returns-in_err-taken-clause-fault
returns-in_err-taken-clause-fault g c =
    let rest = c.args.rest.now in
    handed_on c.from_residual.result c.in_err-taken.field-0.0 (λ refusal. (text : List ℕ) → IsRest c.args.self.read text rest → IsRefusal c.args.self.read.limit text refusal) c.from_residual.ensures.1
    (λ text left.
    let P : List ℕ → Type 0 = λ xs. IsRest c.args.self.read text xs in
    c.in_err-taken.ensures.fault text [] (subst P (sym (append-nil rest)) left))

pub returns-in_default-clause-fault : goal.returns-in_default-clause-fault
returns-in_default-clause-fault g c = λ text left.
    let rest = c.args.rest.now in
    let taken = c.in_ok-taken.taken in
    let tail = take (length rest - taken) (drop taken rest) in
    let P : LinesState → Type 0 = λ s. IsRest s.read text tail in
    let start = subst P (sym c.self.view_is) (left_behind c.args.self.read c.take_lines.new.self.read text rest taken (c.in_ok-taken.ensures.read text []) left) in
    let unended = subst (λ (xs : List ℕ). has_end xs ≡ false) (sym (take_rest rest taken)) c.in_ok-taken.ensures.whole in
    let Q : List ℕ → Type 0 = λ xs. IsRefusal c.args.self.read.limit xs c.no_line.result in
    subst Q (sym (rest_first _ text tail c.in_default.is start)) (absent_first c.args.self.read.limit tail c.no_line.result unended c.no_line.ensures.missing c.no_line.ensures.unended)

pub returns-then-len-count-clause-fault : goal.returns-then-len-count-clause-fault
returns-then-len-count-clause-fault g c = λ text left.
    let rest = c.args.rest.now in
    let taken = c.in_ok-taken.taken in
    let tail = take (length rest - taken) (drop taken rest) in
    let P : LinesState → Type 0 = λ s. IsRest s.read text tail in
    let start = subst P (sym c.self.view_is) (left_behind c.args.self.read c.take_lines.new.self.read text rest taken (c.in_ok-taken.ensures.read text []) left) in
    let unended = subst (λ (xs : List ℕ). has_end xs ≡ false) (sym (take_rest rest taken)) c.in_ok-taken.ensures.whole in
    let R : ℕ → Type 0 = λ n. IsRefusal n text c.no_line-then-len-count.result in
    let limit = ap (λ (s : LinesState). s.read.limit) c.self.view_is ∙ c.take_lines.ensures.limit in
    let most = (counted_later c.self.inside.limit c.self.inside.count c.self.inside.history_index c.in-Some.count c.in-Some.is c.self.invariant.0.counted).0 in
    let counted : length c.self.inside.history_index < c.in-Some.count = omega (arith, most, c.len.ensures.value, c.if-len-count.true) in
    subst R limit (absent_line c.self.inside.limit c.in-Some.count c.next_number-number.result text tail c.self.inside.history_index c.no_line-then-len-count.result c.next_number-number.ensures unended
    c.no_line-then-len-count.ensures.missing c.no_line-then-len-count.ensures.unended counted (rest_later _ c.in-Some.count text tail c.in-Some.is start))

pub returns-then-not-is_empty-clause-fault : goal.returns-then-not-is_empty-clause-fault
returns-then-not-is_empty-clause-fault g c = λ text left.
    let rest = c.args.rest.now in
    let taken = c.in_ok-taken.taken in
    let tail = take (length rest - taken) (drop taken rest) in
    let P : LinesState → Type 0 = λ s. IsRest s.read text tail in
    let start = subst P (sym c.self.view_is) (left_behind c.args.self.read c.take_lines.new.self.read text rest taken (c.in_ok-taken.ensures.read text []) left) in
    let R : ℕ → Type 0 = λ n. IsRefusal n text c.fault.result in
    let limit = ap (λ (s : LinesState). s.read.limit) c.self.view_is ∙ c.take_lines.ensures.limit in
    let full : length c.self.inside.history_index ≡ c.in-Some.count = sym c.len.ensures.value ∙ c.if-len-count.false in
    subst R limit (rw c.fault.ensures (tail_line c.self.inside.limit c.in-Some.count c.next_number-number.result text tail c.self.inside.history_index (rest_later _ c.in-Some.count text tail c.in-Some.is start)
    (some_left (length tail) c.is_empty.result c.is_empty.ensures c.if-not-is_empty.true) full (c.next_number-number.ensures ∙ ap (λ (n : ℕ). n + 2) full)))

pub returns-clause-text : goal.returns-clause-text
returns-clause-text g c = λ text left.
    let rest = c.args.rest.now in
    let taken = c.in_ok-taken.taken in
    let tail = take (length rest - taken) (drop taken rest) in
    let P : LinesState → Type 0 = λ s. IsRest s.read text tail in
    let start = subst P (sym c.self.view_is) (left_behind c.args.self.read c.take_lines.new.self.read text rest taken (c.in_ok-taken.ensures.read text []) left) in
    let T : LinesState → Type 0 = λ s. text ≡ register_text s.read.history in
    subst T c.self.view_is (all_read c.self.inside.limit c.in-Some.count text tail c.self.inside.history_index (rest_later _ c.in-Some.count text tail c.in-Some.is start)
    (none_left (length tail) c.is_empty.result c.is_empty.ensures c.if-not-is_empty.false) (sym c.len.ensures.value ∙ c.if-len-count.false))

pub returns-clause-whole : goal.returns-clause-whole
returns-clause-whole g c = λ text left.
    let rest = c.args.rest.now in
    let taken = c.in_ok-taken.taken in
    let tail = take (length rest - taken) (drop taken rest) in
    let P : LinesState → Type 0 = λ s. IsRest s.read text tail in
    let start = subst P (sym c.self.view_is) (left_behind c.args.self.read c.take_lines.new.self.read text rest taken (c.in_ok-taken.ensures.read text []) left) in
    let T : LinesState → Type 0 = λ s. AllByRecursion IsWholeEntry s.read.history in
    subst T c.self.view_is (rest_later _ c.in-Some.count text tail c.in-Some.is start).whole

pub returns-clause-lawful : goal.returns-clause-lawful
returns-clause-lawful g c =
    let T : LinesState → Type 0 = λ s. IsHistory s.read.history in
    subst T c.self.view_is c.len.ensures.lawful

pub returns-clause-opening : goal.returns-clause-opening
returns-clause-opening g c =
    let T : LinesState → Type 0 = λ s. is_opening s.read.history ≡ true in
    subst T c.self.view_is c.self.invariant.0.opening
