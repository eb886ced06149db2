use Rattle.cwr_verify.proofs.reading.read_text.Goals as goal

pub returns : goal.returns
returns g c = c.in_ok-reading.ensures
