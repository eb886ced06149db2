use Rattle.std.proofs.Common.{rules}
use Rattle.check_pages.proofs.check.check_page.Goals as goal

pub returns : goal.returns
returns g c = search rules
