use Rattle.cwr_field.proofs.lemmas.Pieces.{then}
use Rattle.report_texts.proofs.long_lines.put_digit.Goals as goal

pub returns : goal.returns
returns g c =
    then c.args.out.now.items c.extend_from_slice.new.self.items c.put_decimal.new.out.items _ _
    c.in_ok-extend_from_slice.ensures.items c.in_ok-put_decimal.ensures.ok
