use Rattle.report_texts.proofs.long_lines.put_text.Goals as goal

pub returns : goal.returns
returns g c = c.in_ok-extend_from_slice.ensures.items
