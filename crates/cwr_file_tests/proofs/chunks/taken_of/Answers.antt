use Rattle.std.specs.Prelude.{⊤}
use Rattle.std.proofs.Common.{[], arith}
use Rattle.std.proofs.Math.Path.{sym}
use Rattle.std.proofs.lemmas.List.{append-nil}
use Rattle.cwr_grammar.proofs.lemmas.Starts.{starts}
use Rattle.cwr_file_tests.proofs.chunks.taken_of.Goals as goal

pub take_lines-requires : goal.take_lines-requires
take_lines-requires c =
    (c.args.visitor.now, c.args.first.now, 0, rw c.new.ensures (starts (λ _ _ _. ⊤) c.args.first.now tt), record { after = []; here = sym (append-nil c.args.first.now) }, omega arith)
