use Rattle.std.proofs.Common.{◌++◌, ◌∙◌, ap, sym}
use Rattle.report_json.proofs.JsonRuns.{all_kept}
use Rattle.report_json.proofs.json_strings.put_characters.Goals as goal

pub returns-then-are_kept-clause-ok : goal.returns-then-are_kept-clause-ok
returns-then-are_kept-clause-ok c =
    c.in_ok-extend_from_slice.ensures.items ∙ ap (λ text. c.args.out.now.items ++ text) (sym (all_kept c.args.bytes.now (c.are_kept.ensures c.if-are_kept.true)))
