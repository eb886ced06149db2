use Rattle.std.proofs.Common.{◌∙◌, ℕ, List, ◌++◌, take, ap, sym}
use Rattle.std.proofs.lemmas.List.{take_rest}
use Rattle.cwr_verify.proofs.Comparing.{same_more}
use Rattle.cwr_verify.specs.Compared.{Compared, taken_of}
use Rattle.cwr_verify.proofs.compared.ComparedSink.write_some.Goals as goal

pub returns-clause-bytes : goal.returns-clause-bytes
returns-clause-bytes c =
    let text : List ℕ = c.self.inside.expected.now in
    let at : ℕ = c.self.inside.same in
    let n : ℕ = c.same_front-same.result in
    same_more text c.args.bytes.now at n c.self.inside.other (sym c.is_some.ensures ∙ c.if-is_some.false) (c.same_front-same.ensures.same ∙ ap (take n) (take_rest text at))
    ∙ ap (λ (s : Compared). taken_of s ++ take n c.args.bytes.now) c.self.view_is
