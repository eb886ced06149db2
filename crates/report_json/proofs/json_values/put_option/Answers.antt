use Rattle.report_json.proofs.json_values.put_option.Goals as goal

pub returns-in-Some : goal.returns-in-Some
returns-in-Some c = rw c.in-Some.is c.put_number.ensures.ok
