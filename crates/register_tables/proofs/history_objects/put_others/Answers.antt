use Rattle.std.proofs.Common.{◌≡◌, ◌∙◌, ◌++◌, ℕ, ap, codes, subst}
use Rattle.std.specs.List.{flat_map}
use Rattle.std.specs.Prelude.{Option}
use Rattle.std.proofs.lemmas.Result.{on_ok_weaker}
use Rattle.cwr_call.specs.CallValue.{CallValue}
use Rattle.work_registry.specs.declared.reply.Reply.{Reply}
use Rattle.work_registry.specs.EntryValue.{EntryValue}
use Rattle.register_tables.specs.HistoryJson.{iswc_data, reply_members, middle_members}
use Rattle.register_tables.specs.JsonValues.{member_tokens, Adds}
use Rattle.register_tables.proofs.JsonObjects.{adds_then, groups}
use Rattle.register_tables.proofs.history_objects.put_others.Goals as goal

pub returns : goal.returns
returns g c =
    let e : EntryValue = c.args.entry.now in
    let iswc : c.iswc-2.result ≡ e.call.iswc = c.iswc-2.ensures.value ∙ ap (λ (call : CallValue). call.iswc) c.call-2.ensures in
    on_ok_weaker c.put_reply.result
    (λ last. adds_then c.args.out.now c.put_iswc.new.out c.put_reply.new.out (member_tokens (codes "iswc", iswc_data e.call.iswc)) (flat_map member_tokens (middle_members e ++ reply_members e.reply))
    (subst (λ (code : Option ℕ). Adds c.args.out.now c.put_iswc.new.out (member_tokens (codes "iswc", iswc_data code))) iswc c.in_ok-put_iswc.ensures)
    (groups c.put_iswc.new.out c.put_middle_members.new.out c.put_reply.new.out (middle_members e) (reply_members e.reply) c.in_ok-put_middle_members.ensures
    (subst (λ (reply : Reply). Adds c.put_middle_members.new.out c.put_reply.new.out (flat_map member_tokens (reply_members reply))) c.reply.ensures last)))
    c.put_reply.ensures
