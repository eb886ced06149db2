use Rattle.std.proofs.Common.{◌≡◌, List, ◌++◌, ap, rules}
use Rattle.cwr_remarks.specs.declared.remark.Remark.{Remark}
use Rattle.cwr_remarks.specs.Checks.{front_remarks}
use Rattle.cwr_remarks.proofs.checks.remarks_on_file.Goals as goal

pub returns : goal.returns
returns g c =
    let begun : c.new-found.result.items ++ front_remarks c.args.bytes.now ≡ front_remarks c.args.bytes.now =
    ap (λ (found : List Remark). found ++ front_remarks c.args.bytes.now) c.new-found.ensures.items in
    rw c.in_ok-push_on_lines.ensures (search rules)
