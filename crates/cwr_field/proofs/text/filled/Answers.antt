use Rattle.std.proofs.Common.{refl}
use Rattle.std.proofs.lemmas.List.{drop-replicate}
use Rattle.cwr_field.proofs.text.filled.Goals as goal

pub returns : goal.returns
returns g c = rw (c.copy_from_slice.ensures.after, drop-replicate) refl
