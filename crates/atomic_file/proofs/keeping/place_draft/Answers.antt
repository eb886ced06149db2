use Rattle.std.proofs.Common.{rules}
use Rattle.atomic_file.proofs.keeping.place_draft.Goals as goal

pub returns-clause-stays : goal.returns-clause-stays
returns-clause-stays g c = search rules

pub returns-in_err-put_in_place-clause-after : goal.returns-in_err-put_in_place-clause-after
returns-in_err-put_in_place-clause-after g c = search rules

pub returns-clause-any_moment : goal.returns-clause-any_moment
returns-clause-any_moment g c = search rules

pub returns-clause-after : goal.returns-clause-after
returns-clause-after g c = search rules

pub returns-clause-kept : goal.returns-clause-kept
returns-clause-kept g c = search rules
