use Rattle.std.proofs.Common.{◌≡◌, ◌-◌, length, arith, rules}
use Rattle.cwr_acknowledgement.proofs.OverLines.{put_behind}
use Rattle.cwr_acknowledgement.proofs.places.put.Goals as goal

pub returns-clause-before : goal.returns-clause-before
returns-clause-before g c =
    let width : length c.put_over.new.bytes ≡ g.row.N = search rules in
    put_behind c.args.line.now c.put_over.new.bytes c.args.text (c.args.column.start - 1) _ _ c.put_over.ensures (omega (arith, width)) (omega (arith, c.requires.within))
