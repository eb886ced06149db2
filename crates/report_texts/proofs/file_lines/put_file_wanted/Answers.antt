use Rattle.report_texts.proofs.file_lines.put_file_wanted.Goals as goal

pub returns-in-GroupCounts : goal.returns-in-GroupCounts
returns-in-GroupCounts g c = rw c.in-GroupCounts.is c.put_counts.ensures
