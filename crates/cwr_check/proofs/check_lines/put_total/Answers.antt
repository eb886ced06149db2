use Rattle.cwr_check.proofs.Total.{total_written}
use Rattle.cwr_check.proofs.check_lines.put_total.Goals as goal

pub returns : goal.returns
returns g c =
    total_written c.args.transactions c.args.faulty c.args.out.now.items c.put_decimal.new.out.items c.extend_from_slice.new.self.items
    c.put_decimal-2.new.out.items c.extend_from_slice-2.new.self.items
    c.in_ok-put_decimal.ensures.ok c.in_ok-extend_from_slice.ensures.items c.in_ok-put_decimal-2.ensures.ok c.in_ok-extend_from_slice-2.ensures.items
