use Rattle.std.proofs.Common.{◌∙◌, ◌+◌, ◌++◌, ℕ, List, ap, append_assoc, append-nil, drop, sym}
use Rattle.std.specs.Prelude.{string_bytes}
use Rattle.std.specs.Str.{encode_utf8_all}
use Rattle.std.proofs.lemmas.List.{at_drop_all, at_drop_more}
use Rattle.register_tables.proofs.json_values.set_latin.Goals as goal

pub loop-byte-preserved : goal.loop-byte-preserved
loop-byte-preserved g c =
    let bytes : List ℕ = c.args.bytes.now in
    let i : ℕ = c.loop-byte.byte-index in
    ap (λ (text : List ℕ). text ++ encode_utf8_all (drop (i + 1) bytes)) c.in_ok-push.ensures.bytes
    ∙ append_assoc (string_bytes c.loop-byte.text) _ (encode_utf8_all (drop (i + 1) bytes))
    ∙ ap (λ (text : List ℕ). string_bytes c.loop-byte.text ++ text) (sym (at_drop_more encode_utf8_all bytes i 0 c.loop-byte-test.true))
    ∙ c.loop-byte.invariant

pub returns : goal.returns
returns g c =
    sym (append-nil (string_bytes c.loop-byte.text))
    ∙ ap (λ (text : List ℕ). string_bytes c.loop-byte.text ++ text) (sym (at_drop_all encode_utf8_all c.args.bytes.now c.loop-byte.byte-index c.loop-byte-test.false))
    ∙ c.loop-byte.invariant
