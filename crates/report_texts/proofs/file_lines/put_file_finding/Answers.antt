use Rattle.report_texts.proofs.lemmas.Written.{three, five}
use Rattle.report_texts.proofs.file_lines.put_file_finding.Goals as goal

pub returns : goal.returns
returns g c =
    five c.args.out.now.items c.put_file_place.new.out.items c.put_byte.new.out.items c.put_spots.new.out.items c.extend_from_slice-2.new.self.items c.put_refused_line.new.out.items
    _ _ _ _ _
    c.in_ok-put_file_place.ensures c.in_ok-put_byte.ensures c.in_ok-put_spots.ensures
    (three c.put_spots.new.out.items c.extend_from_slice.new.self.items c.put_file_wanted.new.out.items c.extend_from_slice-2.new.self.items
    _ _ _
    c.in_ok-extend_from_slice.ensures.items c.in_ok-put_file_wanted.ensures c.in_ok-extend_from_slice-2.ensures.items)
    c.in_ok-put_refused_line.ensures
