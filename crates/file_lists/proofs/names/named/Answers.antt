use Rattle.std.proofs.Common.{◌≡◌, eqb, length, false, arith}
use Rattle.std.proofs.lemmas.Bool.Decides.{nat_tests}
use Rattle.file_lists.proofs.NameFaults.{text_has_none, no_text}
use Rattle.file_lists.proofs.names.named.Goals as goal

pub returns-in-Ok-clause-right : goal.returns-in-Ok-clause-right
returns-in-Ok-clause-right c =
    let some : eqb (length c.args.name.now) 0 ≡ false = grind (arith, nat_tests) in
    text_has_none c.args.line c.args.name.now some c.in-Ok.ensures.cases.1

pub returns-in-Err-clause-fault : goal.returns-in-Err-clause-fault
returns-in-Err-clause-fault c =
    let some : eqb (length c.args.name.now) 0 ≡ false = grind (arith, nat_tests) in
    no_text c.args.line c.args.name.now some c.in-Err.ensures.cases.0
