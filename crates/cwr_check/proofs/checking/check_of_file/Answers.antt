use Rattle.std.proofs.Common.{refl}
use Rattle.cwr_check.specs.CheckText.{submitter_of}
use Rattle.cwr_check.proofs.CheckSteps.{file_checked}
use Rattle.cwr_check.proofs.checking.check_of_file.Goals as goal

pub returns-in-Ok-clause-told : goal.returns-in-Ok-clause-told
returns-in-Ok-clause-told g c =
    let given = c.in_ok-told.ensures.given in
    let was = given.2 in
    let submitter = submitter_of was.file in
    let told = was.kept.0 submitter in
    (given.0, given.1, file_checked _ was.file was.transactions submitter _ _ was.formed was.submission.transactions refl (c.in-Ok.ensures.lines submitter was.transactions told) (c.in-Ok.ensures.clean submitter was.transactions told))
