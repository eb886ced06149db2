use Rattle.report_texts.proofs.lemmas.Written.{four}
use Rattle.report_texts.proofs.file_lines.put_detail.Goals as goal

pub returns : goal.returns
returns g c =
    four c.args.out.now.items c.put_shown.new.out.items c.put_counted.new.out.items c.put_counted-2.new.out.items c.put_counted-3.new.out.items
    _ _ _ _
    c.in_ok-put_shown.ensures c.in_ok-put_counted.ensures c.in_ok-put_counted-2.ensures c.in_ok-put_counted-3.ensures
