use Rattle.std.proofs.Common.{◌≡◌, arith, length, length-take, take}
use Rattle.html_text.proofs.ManySigns.{many_more, rest_written}
use Rattle.html_text.proofs.signs.put_signs.Goals as goal

pub loop-left-preserved : goal.loop-left-preserved
loop-left-preserved g c =
    let many = c.args.many.now in
    many_more c.loop-left.out.items many c.extend_from_slice.new.self.items (take 2 many) _ c.loop-left.left c.requires.many (omega arith) c.in_ok-extend_from_slice.ensures.items c.loop-left.invariant

pub returns : goal.returns
returns g c =
    let many = c.args.many.now in
    let two : length (take 2 many) ≡ 2 = omega (arith, length-take 2 many, c.requires.size) in
    rest_written c.loop-left.out.items many c.extend_from_slice-2.new.self.items (take 2 many) _ c.loop-left.left two c.requires.many (omega arith) c.in_ok-extend_from_slice-2.ensures.items c.loop-left.invariant
