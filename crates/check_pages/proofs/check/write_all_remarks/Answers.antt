use Rattle.std.proofs.Common.{◌∙◌, ℕ, List, Option, eqb-true, sym, length}
use Rattle.std.specs.Str.Lines.{lines}
use Rattle.std.proofs.lemmas.Bool.{eqb-false}
use Rattle.std.proofs.lemmas.Result.{on_ok_weaker}
use Rattle.check_pages.specs.CheckPages.{remarks_head_pieces}
use Rattle.check_pages.proofs.Writing.{no_remarks, some_remarks, written}
use Rattle.check_pages.proofs.check.write_all_remarks.Goals as goal

pub returns-then-is_empty : goal.returns-then-is_empty
returns-then-is_empty g c =
    no_remarks (lines c.args.bytes.now) c.args.faults c.args.remarks.now (g.W.Write.contents c.args.to.now) (eqb-true (length c.args.remarks.now) 0 (sym c.is_empty.ensures ∙ c.if-is_empty.true))

pub returns : goal.returns
returns g c =
    let start : Option (List ℕ) = g.W.Write.contents c.args.to.now in
    let mid : Option (List ℕ) = g.W.Write.contents c.write_block.new.to in
    on_ok_weaker c.write_remarks.result
    (λ rest.
    some_remarks (lines c.args.bytes.now) c.args.faults c.args.remarks.now start mid (g.W.Write.contents c.write_remarks.new.to)
    (eqb-false (length c.args.remarks.now) 0 (sym c.is_empty.ensures ∙ c.if-is_empty.false))
    (written start mid c.clear.new.self.items c.deref.result.now (remarks_head_pieces c.args.faults) c.clear.ensures.items (c.deref.ensures.value ∙ c.in_ok-put_remarks_head.ensures) c.in_ok-write_block.ensures)
    rest)
    c.write_remarks.ensures
