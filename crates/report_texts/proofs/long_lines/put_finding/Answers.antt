use Rattle.report_texts.proofs.lemmas.Written.{three, four}
use Rattle.report_texts.proofs.long_lines.put_finding.Goals as goal

pub returns : goal.returns
returns g c =
    four c.args.out.now.items c.put_record.new.out.items c.put_broken.new.out.items c.put_spots.new.out.items c.extend_from_slice-2.new.self.items
    _ _ _ _
    c.in_ok-put_record.ensures c.in_ok-put_broken.ensures c.in_ok-put_spots.ensures
    (three c.put_spots.new.out.items c.extend_from_slice.new.self.items c.put_wanted.new.out.items c.extend_from_slice-2.new.self.items
    _ _ _
    c.in_ok-extend_from_slice.ensures.items c.in_ok-put_wanted.ensures c.in_ok-extend_from_slice-2.ensures.items)
