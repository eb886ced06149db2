use Rattle.report_texts.proofs.lemmas.Written.{eight}
use Rattle.cwr_remarks.proofs.json_list.put_json_remark.Goals as goal

pub returns : goal.returns
returns c =
    eight c.args.out.now.items c.put_amounts.new.out.items c.extend_from_slice.new.self.items c.put_decimal.new.out.items c.extend_from_slice-2.new.self.items
    c.put_type.new.out.items c.extend_from_slice-3.new.self.items c.put_remark_text.new.out.items c.extend_from_slice-4.new.self.items
    _ _ _ _ _ _ _ _
    c.in_ok-put_amounts.ensures c.in_ok-extend_from_slice.ensures.items c.in_ok-put_decimal.ensures.ok c.in_ok-extend_from_slice-2.ensures.items
    c.in_ok-put_type.ensures c.in_ok-extend_from_slice-3.ensures.items c.in_ok-put_remark_text.ensures c.in_ok-extend_from_slice-4.ensures.items
