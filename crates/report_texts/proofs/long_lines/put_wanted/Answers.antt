use Rattle.report_texts.proofs.long_lines.put_wanted.Goals as goal

pub returns-in-FollowerOf : goal.returns-in-FollowerOf
returns-in-FollowerOf g c = rw c.in-FollowerOf.is c.put_followers.ensures
