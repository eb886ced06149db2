use Rattle.std.proofs.Common.{◌≡◌, ◌<◌, ◌^◌, ◌+◌, ◌-◌, ◌++◌, List, length, arith, subst}
use Rattle.std.specs.Prelude.{OnOk}
use Rattle.std.specs.Str.Lines.{lines}
use Rattle.cwr_remarks.specs.declared.remark.Remark.{Remark}
use Rattle.cwr_remarks.proofs.Ended.{whole, few_lines}
use Rattle.cwr_remarks.proofs.remarking.push_remarks.Goals as goal

pub returns : goal.returns
returns g c =
    let short : length c.args.text.now < 2 ^ 63 = omega arith in
    let inside : 1 + length (lines c.args.text.now) < 2 ^ 64 - 1 = omega (arith, short, few_lines c.args.text.now) in
    subst
    (λ (rs : List Remark). OnOk c.push_remarks_before.result (c.push_remarks_before.new.found.items ≡ c.args.found.now.items ++ rs))
    (whole (2 ^ 64 - 1) 1 (lines c.args.text.now) inside)
    c.push_remarks_before.ensures
