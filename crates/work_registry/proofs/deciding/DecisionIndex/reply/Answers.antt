use Rattle.std.proofs.Common.{arith, ◌≡◌, ◌==◌, ◌∙◌, sym, true, length}
use Rattle.std.proofs.lemmas.Grind.{common_steps}
use Rattle.work_registry.specs.Rows.{rows_of}
use Rattle.work_registry.proofs.Decided.{decided-new, decided-old}
use Rattle.work_registry.proofs.deciding.DecisionIndex.reply.Goals as goal

pub returns-in-None : goal.returns-in-None
returns-in-None g c =
    let zero : (length c.faults.result.now == 0) ≡ true = grind (arith, common_steps) in
    let none : (length c.args.call.now.faults == 0) ≡ true = rw c.faults.ensures.value at zero in
    decided-new (rows_of c.args.self.now) c.args.call.now c.reply_for_work.result c.work_for.result c.iswc.result none (sym c.in-None.is ∙ c.requires.known)
    c.reply_for_work.ensures c.work_for.ensures c.iswc.ensures.value

pub returns-else-clashes : goal.returns-else-clashes
returns-else-clashes g c =
    let zero : (length c.faults.result.now == 0) ≡ true = grind (arith, common_steps) in
    let none : (length c.args.call.now.faults == 0) ≡ true = rw c.faults.ensures.value at zero in
    decided-old (rows_of c.args.self.now) c.args.call.now c.reply_for_work-else-clashes.result c.in-Some.kept c.iswc-in-Rev.result _ none (sym c.in-Some.is ∙ c.requires.known)
    (sym c.kind.ensures ∙ c.in-Rev.is) c.clashes.ensures c.iswc-in-Rev.ensures.value c.if-clashes.false c.reply_for_work-else-clashes.ensures
