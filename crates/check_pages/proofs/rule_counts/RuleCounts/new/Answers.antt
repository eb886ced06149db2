use Rattle.std.proofs.Common.{ℕ}
use Rattle.std.proofs.lemmas.List.{length-replicate, get_or-replicate}
use Rattle.check_pages.proofs.rule_counts.RuleCounts.new.Goals as goal

pub returns : goal.returns
returns c = record { size = length-replicate {A = ℕ} 256 0; each = λ n lt. get_or-replicate {A = ℕ} 256 n 0 0 lt }
