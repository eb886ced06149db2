use Rattle.std.proofs.Common.{◌≡◌, ◌∙◌, ℕ, List, [], ◌∷◌, ap, codes, refl}
use Rattle.std.specs.List.{flat_map}
use Rattle.std.specs.Prelude.{slice_index}
use Rattle.std.proofs.lemmas.Result.{on_ok_weaker}
use Rattle.cwr_call.specs.CallValue.{CallValue}
use Rattle.cwr_record.specs.Kinds.{status_text, work_kind_code}
use Rattle.serde_json.specs.Data.{Data}
use Rattle.work_registry.specs.declared.reply.Reply.{Reply}
use Rattle.work_registry.specs.EntryValue.{EntryValue}
use Rattle.work_registry.specs.ReplyParts.{status_in}
use Rattle.register_tables.specs.HistoryJson.{middle_members}
use Rattle.register_tables.specs.JsonValues.{count_data, member_tokens, text_data}
use Rattle.register_tables.proofs.JsonObjects.{adds_same}
use Rattle.register_tables.proofs.history_objects.put_middle_members.Goals as goal

abbrev told : List ℕ → List ℕ → List ℕ → List ℕ → List ℕ → List ℕ → List (List ℕ × Data)
told kind control number status submitter title =
    (codes "kind", text_data kind)
    ∷ (codes "mechanical_control", count_data (slice_index control 1))
    ∷ (codes "number", text_data number)
    ∷ (codes "performing_control", count_data (slice_index control 0))
    ∷ (codes "status", text_data status)
    ∷ (codes "submitter", text_data submitter)
    ∷ (codes "synchronization_control", count_data (slice_index control 2))
    ∷ (codes "title", text_data title)
    ∷ []

-- of equal fields the members are the same
same_told : (kind kind' control control' number number' status status' submitter submitter' title title' : List ℕ)
    → kind ≡ kind' → control ≡ control' → number ≡ number' → status ≡ status' → submitter ≡ submitter' → title ≡ title'
    → flat_map member_tokens (told kind control number status submitter title) ≡ flat_map member_tokens (told kind' control' number' status' submitter' title')
same_told kind kind' control control' number number' status status' submitter submitter' title title' k c n s u t = rw (k, c, n, s, u, t) refl

pub returns : goal.returns
returns g c =
    let e : EntryValue = c.args.entry.now in
    let call : CallValue = e.call in
    let is : c.call-call.result.now ≡ call = c.call-call.ensures in
    on_ok_weaker c.put_members.result
    (adds_same c.args.out.now c.put_members.new.out _ (flat_map member_tokens (middle_members e))
    (same_told c.code.result.now (work_kind_code call.kind) c.control-control.result call.control c.number-number.result call.number
    c.code-2.result.now (status_text (status_in e.reply)) c.submitter-submitter.result call.submitter c.title-title.result call.title
    (c.code.ensures ∙ ap work_kind_code (c.kind.ensures ∙ ap (λ (v : CallValue). v.kind) is))
    (c.control-control.ensures.value ∙ ap (λ (v : CallValue). v.control) is)
    (c.number-number.ensures.value ∙ ap (λ (v : CallValue). v.number) is)
    (c.code-2.ensures ∙ ap status_text (c.status.ensures ∙ ap (λ (r : Reply). status_in r) c.reply.ensures))
    (c.submitter-submitter.ensures.value ∙ ap (λ (v : CallValue). v.submitter) is)
    (c.title-title.ensures.value ∙ ap (λ (v : CallValue). v.title) is)))
    c.put_members.ensures
