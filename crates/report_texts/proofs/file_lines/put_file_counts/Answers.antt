use Rattle.report_texts.proofs.lemmas.Written.{three}
use Rattle.report_texts.proofs.file_lines.put_file_counts.Goals as goal

pub returns : goal.returns
returns g c =
    three c.args.out.now.items c.put_counted.new.out.items c.extend_from_slice.new.self.items c.put_counts.new.out.items
    _ _ _
    c.in_ok-put_counted.ensures c.in_ok-extend_from_slice.ensures.items c.in_ok-put_counts.ensures
