use Rattle.std.proofs.Common.{◌++◌, ◌∙◌, ap, sym}
use Rattle.std.proofs.lemmas.Result.{err_from_is_err_and}
use Rattle.report_json.proofs.Fronts.{more, more_kept}
use Rattle.report_json.proofs.JsonStrings.{none_changed, moved_on}
use Rattle.report_json.proofs.json_strings.put_each.Goals as goal

pub loop-kept-preserved : goal.loop-kept-preserved
loop-kept-preserved c = record {
  written =
      moved_on c.loop-kept.out.items c.extend_from_slice.new.self.items c.put_character.new.out.items c.loop-kept.rest.now c.in-Some.kept _ _
      c.in-Some.ensures.inside (sym c.in-Some.ensures.value) c.in_ok-extend_from_slice.ensures.items c.in_ok-put_character.ensures.ok c.after-rest.ensures c.loop-kept.invariant.written;
  front =
      more c.args.out.now.items c.extend_from_slice.new.self.items c.put_character.new.out.items _
      (more c.args.out.now.items c.loop-kept.out.items c.extend_from_slice.new.self.items _ c.loop-kept.invariant.front c.in_ok-extend_from_slice.ensures.items)
      c.in_ok-put_character.ensures.ok;
}

pub returns-clause-ok : goal.returns-clause-ok
returns-clause-ok c =
    c.in_ok-extend_from_slice-2.ensures.items
    ∙ ap (λ text. c.loop-kept.out.items ++ text) (sym (none_changed c.loop-kept.rest.now (sym c.in_default.ensures.value)))
    ∙ c.loop-kept.invariant.written

pub returns-in_err-put_character-clause-err : goal.returns-in_err-put_character-clause-err
returns-in_err-put_character-clause-err c =
    let p = err_from_is_err_and c.from_residual-in_err-put_character.result c.from_residual-in_err-put_character.ensures.1 in
    rw p.1
    (more_kept c.args.out.now.items c.loop-kept.out.items c.extend_from_slice.new.self.items c.put_character.new.out.items _ c.loop-kept.invariant.front c.in_ok-extend_from_slice.ensures.items c.in_err-put_character.ensures.err)
