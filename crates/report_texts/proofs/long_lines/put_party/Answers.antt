use Rattle.report_texts.proofs.lemmas.Written.{three}
use Rattle.report_texts.proofs.long_lines.put_party.Goals as goal

pub returns : goal.returns
returns g c =
    three c.args.out.now.items c.extend_from_slice.new.self.items c.put_bytes.new.out.items c.extend_from_slice-2.new.self.items
    _ _ _
    c.in_ok-extend_from_slice.ensures.items c.in_ok-put_bytes.ensures c.in_ok-extend_from_slice-2.ensures.items
