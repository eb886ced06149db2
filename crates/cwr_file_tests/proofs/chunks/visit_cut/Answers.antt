use Rattle.std.specs.Prelude.{⊤}
use Rattle.std.proofs.Common.{◌≡◌, ◌∙◌, ◌+◌, ℕ, drop, length, ap, arith}
use Rattle.std.proofs.Math.Path.{sym}
use Rattle.std.proofs.lemmas.List.{length-drop, length-take, take-append-drop, take_rest}
use Rattle.cwr_grammar.proofs.lemmas.Starts.{starts}
use Rattle.cwr_file_tests.proofs.chunks.visit_cut.Goals as goal

pub take_lines-requires : goal.take_lines-requires
take_lines-requires c =
    let text = c.args.text.now in
    let long = length-take c.args.cut text in (
      c.args.visitor.now,
      text,
      0,
      rw c.new-reader.ensures (starts (λ _ _ _. ⊤) text tt),
      record { after = drop c.args.cut text; here = sym (take-append-drop c.args.cut text) },
      omega (arith, long, c.requires),
    )

pub finish-requires : goal.finish-requires
finish-requires c =
    let text = c.args.text.now in
    let taken = c.in_ok-taken.taken in
    let rest = take_rest text taken in
    let long = ap length rest in
    let size = length-drop taken text in
    let at : 0 + taken ≡ taken = omega arith in (
      c.args.visitor.now,
      text,
      0 + taken,
      c.in_ok-taken.ensures.taken c.args.visitor.now text 0
          (record { after = drop c.args.cut text; here = sym (take-append-drop c.args.cut text) })
          (rw c.new-reader.ensures (starts (λ _ _ _. ⊤) text tt)),
      ap (λ (k : ℕ). drop k text) at ∙ sym rest,
      omega (arith, long, size, c.in_ok-taken.ensures.inside, length-take c.args.cut text, c.requires),
    )
