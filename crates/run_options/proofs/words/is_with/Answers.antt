use Rattle.std.proofs.Common.{◌∙◌, sym, Some, None}
use Rattle.std.proofs.lemmas.Bool.Decides.{Decides-eqb}
use Rattle.std.proofs.lemmas.Slice.Eq.{strip_suffix_is}
use Rattle.run_options.proofs.FileWords.{named_with, named_without}
use Rattle.run_options.proofs.words.is_with.Goals as goal

pub returns-in-Some : goal.returns-in-Some
returns-in-Some c =
    let front = c.in-Some.front in
    let ended = strip_suffix_is Decides-eqb c.args.other.now c.args.end.now (Some front) c.in-Some.ensures.cases in
    c.eq.ensures ∙ named_with c.args.end.now c.args.name.now c.args.other.now front.now ended

pub returns-in-None : goal.returns-in-None
returns-in-None c =
    sym (named_without c.args.end.now c.args.name.now c.args.other.now (strip_suffix_is Decides-eqb c.args.other.now c.args.end.now None c.in-None.ensures.cases))
