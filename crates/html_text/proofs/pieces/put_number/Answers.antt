use Rattle.std.proofs.Common.{arith}
use Rattle.html_text.proofs.Numbers.{two_written}
use Rattle.html_text.proofs.pieces.put_number.Goals as goal

pub returns-then-number-lt100 : goal.returns-then-number-lt100
returns-then-number-lt100 g c =
    two_written c.args.out.now.items c.push.new.self.items c.push-then-number-lt100.new.self.items c.args.number (omega arith) (omega arith) c.in_ok-push.ensures.items c.in_ok-push-2.ensures.items
