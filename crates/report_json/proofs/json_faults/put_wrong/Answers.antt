use Rattle.report_texts.proofs.lemmas.Written.{seven}
use Rattle.report_json.proofs.json_faults.put_wrong.Goals as goal

pub returns : goal.returns
returns c =
    seven c.args.out.now.items c.extend_from_slice.new.self.items c.put_decimal.new.out.items c.extend_from_slice-2.new.self.items c.put_decimal-2.new.out.items c.extend_from_slice-3.new.self.items c.put_decimal-3.new.out.items c.extend_from_slice-4.new.self.items
    _ _ _ _ _ _ _
    c.in_ok-extend_from_slice.ensures.items c.in_ok-put_decimal.ensures.ok c.in_ok-extend_from_slice-2.ensures.items c.in_ok-put_decimal-2.ensures.ok
    c.in_ok-extend_from_slice-3.ensures.items c.in_ok-put_decimal-3.ensures.ok c.in_ok-extend_from_slice-4.ensures.items
