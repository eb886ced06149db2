use Rattle.std.proofs.Common.{◌≡◌, ◌++◌, drop, map}
use Rattle.std.specs.List.{flat_map}
use Rattle.register_tables.specs.JsonValues.{member_tokens, shown_data}
use Rattle.register_tables.proofs.json_values.put_members.Given as goal

-- what is written and what is left make the whole
abbrev pub invariant-loop-member : goal.invariant-loop-member
invariant-loop-member g l = record {
  tokens :
      l.out.tokens ++ flat_map member_tokens (map (λ m. (m.0.now, shown_data m.1)) (drop l.member-index l.members))
      ≡ l.fn.out.tokens ++ flat_map member_tokens (map (λ m. (m.0.now, shown_data m.1)) l.fn.members);
  before : l.out.before ≡ l.fn.out.before;
}
