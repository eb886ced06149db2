use Rattle.std.proofs.Common.{◌∙◌, sym, true, false}
use Rattle.run_options.proofs.FileLists.{fault-repeated, fault-answered, fault-used}
use Rattle.run_options.proofs.lists.files_fault.Goals as goal

pub returns-in_default : goal.returns-in_default
returns-in_default c = sym (fault-repeated _ _ _ (rw c.in_default.is at c.in_ok-names.ensures))

pub returns-then-has_one_with : goal.returns-then-has_one_with
returns-then-has_one_with c = sym (fault-answered _ _ _ (rw c.in-Some.is at c.in_ok-names.ensures).0 (sym c.has_one_with.ensures ∙ c.if-has_one_with.true))

pub returns-then-is_used_twice : goal.returns-then-is_used_twice
returns-then-is_used_twice c =
    let known = rw c.in-Some.is at c.in_ok-names.ensures in
    sym (fault-used _ _ _ true known.0 (sym c.has_one_with.ensures ∙ c.if-has_one_with.false) (sym c.if-is_used_twice.true ∙ c.is_used_twice.ensures))

pub returns : goal.returns
returns c =
    let known = rw c.in-Some.is at c.in_ok-names.ensures in
    sym (fault-used _ _ _ false known.0 (sym c.has_one_with.ensures ∙ c.if-has_one_with.false) (sym c.if-is_used_twice.false ∙ c.is_used_twice.ensures))
