use Rattle.std.proofs.Common.{◌≡◌, ◌∙◌, ◌++◌, ◌-◌, ℕ, List, ap, sym, false, arith}
use Rattle.std.specs.Prelude.{nat_lt}
use Rattle.std.specs.Str.Lines.{lines}
use Rattle.std.proofs.lemmas.Bool.Decides.{nat_tests}
use Rattle.std.proofs.lemmas.List.{append-nil}
use Rattle.cwr_remarks.specs.declared.remark.Remark.{Remark}
use Rattle.cwr_remarks.specs.Remarks.{remarks_to}
use Rattle.cwr_remarks.specs.Typed.{left}
use Rattle.cwr_remarks.proofs.Ended.{stopped, both}
use Rattle.cwr_remarks.proofs.remarking.push_remarks_before.Goals as goal

pub returns-then-end-le1 : goal.returns-then-end-le1
returns-then-end-le1 g c =
    let over : nat_lt 1 c.args.end ≡ false = grind (arith, nat_tests, c.if-end-le1.true) in
    sym (append-nil c.args.found.now.items) ∙ ap (λ (rs : List Remark). c.args.found.now.items ++ rs) (sym (stopped c.args.end 1 (lines c.args.text.now) over))

pub returns : goal.returns
returns g c =
    let last = c.args.end - 1 in
    let old = c.args.found.now.items in
    let found = c.push_remarks_to.new.found.items in
    both c.args.end last c.in_ok-last.last c.in_ok-last.rest (left c.in_ok-push_remarks_to.field-0.0 c.in_ok-push_remarks_to.field-0.1)
    found c.push_remarks_to-2.new.found.items (old ++ remarks_to c.args.end 1 (lines c.args.text.now)) c.in_ok-last.ensures.typed (omega arith)
    (c.in_ok-last.ensures.found c.args.end (omega arith)
    ∙ ap (λ (ls : List (List ℕ)). old ++ remarks_to c.args.end 1 ls) (c.next_typed-first.ensures.left ∙ c.of-rest.ensures))
    (c.in_ok-push_remarks_to.ensures.found c.args.end (omega arith)
    ∙ ap (λ (ls : List (List ℕ)). found ++ remarks_to c.args.end last (left c.in_ok-last.last ls)) c.looked_at-rest.ensures)
