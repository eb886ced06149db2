use Rattle.report_texts.proofs.lemmas.Written.{four}
use Rattle.cwr_remarks.proofs.texts.put_remark.Goals as goal

pub returns : goal.returns
returns g c =
    four c.args.out.now.items c.put_line.new.out.items c.put_type.new.out.items c.put_what.new.out.items c.extend_from_slice.new.self.items
    _ _ _ _
    c.in_ok-put_line.ensures c.in_ok-put_type.ensures c.in_ok-put_what.ensures c.in_ok-extend_from_slice.ensures.items
