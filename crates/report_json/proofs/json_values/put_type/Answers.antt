use Rattle.report_json.proofs.json_values.put_type.Goals as goal

pub returns-in-Some : goal.returns-in-Some
returns-in-Some c = rw c.in-Some.is c.put_json_text.ensures.ok
