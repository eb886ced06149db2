use Rattle.std.proofs.Common.{inl, refl}
use Rattle.cwr_check.specs.CheckText.{submitter_of}
use Rattle.cwr_check.proofs.CheckSteps.{file_checked}
use Rattle.cwr_check.proofs.checking.check_text.Goals as goal

pub returns-in-Ok : goal.returns-in-Ok
returns-in-Ok g c =
    let given = c.in-Ok.ensures.given in
    let submitter = submitter_of given.file in
    let told = given.kept.0 submitter in
    inl (file_checked _ given.file given.transactions submitter _ _ given.formed given.submission.transactions refl
    (c.in_ok-finish-in-Ok.ensures.lines submitter given.transactions told) (c.in_ok-finish-in-Ok.ensures.clean submitter given.transactions told))
