use Rattle.std.proofs.Common.{◌≡◌, drop}
use Rattle.std.specs.List.{find}
use Rattle.std.specs.Str.{bytes_eq}
use Rattle.rule_pages.specs.Pages.{name_of}
use Rattle.rule_pages.proofs.rule.found_in.Given as goal

-- none so far has the name
abbrev pub invariant-loop-rule : goal.invariant-loop-rule
invariant-loop-rule l = find (λ r. bytes_eq (name_of r) l.name) (drop l.rule-index l.rules) ≡ find (λ r. bytes_eq (name_of r) l.name) l.fn.rules
