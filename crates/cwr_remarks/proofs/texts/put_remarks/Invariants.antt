use Rattle.std.proofs.Common.{◌≡◌, ◌++◌, drop}
use Rattle.cwr_remarks.specs.Texts.{remarks_text}
use Rattle.cwr_remarks.proofs.texts.put_remarks.Given as goal

-- what is written and what is left make the whole
abbrev pub invariant-loop-remark : goal.invariant-loop-remark
invariant-loop-remark g l = l.out.items ++ remarks_text (drop l.remark-index l.remarks) ≡ l.fn.out.items ++ remarks_text l.fn.remarks
