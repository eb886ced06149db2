use Rattle.std.proofs.Common.{arith, ◌<◌}
use Rattle.report_json.proofs.JsonStrings.{wide}
use Rattle.report_json.proofs.json_strings.put_character.Goals as goal

pub returns-else-byte-lt128-clause-ok : goal.returns-else-byte-lt128-clause-ok
returns-else-byte-lt128-clause-ok c =
    let high : 127 < c.args.byte = omega arith in
    let small : c.args.byte < 256 = omega arith in
    rw (wide c.args.byte high small) c.put_wide.ensures.ok
