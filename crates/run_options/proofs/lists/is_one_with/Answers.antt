use Rattle.std.proofs.Common.{◌∙◌, sym, Some, None}
use Rattle.std.proofs.lemmas.Bool.Decides.{Decides-eqb}
use Rattle.std.proofs.lemmas.Slice.Eq.{strip_suffix_is}
use Rattle.run_options.proofs.FileLists.{any_with, any_without}
use Rattle.run_options.proofs.lists.is_one_with.Goals as goal

pub returns-in-Some : goal.returns-in-Some
returns-in-Some c =
    let front = c.in-Some.front in
    let ended = strip_suffix_is Decides-eqb c.args.word.now c.args.end.now (Some front) c.in-Some.ensures.cases in
    c.contains.ensures ∙ any_with c.args.end.now c.args.word.now front.now c.args.names.now.keys ended

pub returns-in-None : goal.returns-in-None
returns-in-None c =
    sym (any_without c.args.end.now c.args.word.now c.args.names.now.keys (strip_suffix_is Decides-eqb c.args.word.now c.args.end.now None c.in-None.ensures.cases))
