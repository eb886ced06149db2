use Rattle.std.proofs.Common.{◌≡◌, ◌∙◌, ◌++◌, ℕ, List, [], Bool, false, sym, ap, bytes_eq}
use Rattle.std.specs.Prelude.{map}
use Rattle.std.specs.List.{list_any}
use Rattle.run_options.proofs.FileLists.{past}
use Rattle.run_options.proofs.lists.has_one_with.Goals as goal

pub loop-file-preserved : goal.loop-file-preserved
loop-file-preserved c =
    let test : List ℕ → Bool = λ word. list_any (λ file. bytes_eq word (file ++ c.args.end.now)) (map (λ file. file.now) c.args.files.now) in
    let none : test c.as_bytes.result.now ≡ false = sym (c.requires (λ file. bytes_eq c.as_bytes.result.now (file ++ c.args.end.now))) ∙ sym c.is_one_with.ensures ∙ c.if-is_one_with.false in
    past test c.args.files.now c.loop-file.file-index (record { ref_ptr = (0, 0); now = [] }) c.loop-file-test.true (ap test (sym c.as_bytes.ensures.value) ∙ none) ∙ c.loop-file.invariant
