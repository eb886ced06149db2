use Rattle.report_texts.proofs.file_lines.put_place.Goals as goal

pub returns-in-Transaction : goal.returns-in-Transaction
returns-in-Transaction g c = rw c.in-Transaction.is c.put_detail.ensures
