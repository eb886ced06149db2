use Rattle.std.proofs.Common.{◌∙◌}
use Rattle.std.proofs.lemmas.Result.{IfOk-weaker}
use Rattle.register_tables.specs.AuditJson.{audited_data}
use Rattle.register_tables.specs.JsonValues.{value_tokens, Adds}
use Rattle.register_tables.proofs.JsonObjects.{line_is}
use Rattle.register_tables.proofs.audit_object.audit_json.Goals.{in-Entries+in_ok-put_object-in-Entries, in-Fault+in_ok-put_faulty_audit-in-Fault}
use Rattle.register_tables.proofs.audit_object.audit_json.Goals as goal

pub returns : goal.returns
returns g c =
    let adds : Adds c.new-out.result c.match-audited.out (value_tokens (audited_data c.args.audited)) =
    elim c.match-audited.branch [
      | in-Entries+in_ok-put_object-in-Entries w ↦ rw (w.out-is, w.in-Entries.is) w.in_ok-put_object-in-Entries.ensures
      | in-Fault+in_ok-put_faulty_audit-in-Fault w ↦ rw (w.out-is, w.in-Fault.is) w.in_ok-put_faulty_audit-in-Fault.ensures
    ] in
    IfOk-weaker c.line_of.result _ _
    (λ text is. line_is c.new-out.result c.match-audited.out (audited_data c.args.audited) text.items (c.new-out.ensures.before ∙ c.new.ensures.items) c.new-out.ensures.tokens adds is)
    c.line_of.ensures
