use Rattle.std.proofs.Common.{◌≡◌, ℕ, List, Option, Some, None, inl, inr, refl}
use Rattle.std.specs.Prelude.{◌⊎◌}
use Rattle.cwr_grammar.specs.File.{File, IsFile}
use Rattle.cwr_grammar.specs.Faults.{IsLeastFault}
use Rattle.cwr_grammar.specs.FirstFault.{first_fault}
use Rattle.cwr_grammar.proofs.FileLaw.{accepted_file}
use Rattle.cwr_grammar.proofs.FileClear.{file_clear}
use Rattle.cwr_grammar.proofs.OneFile.{one_file}
use Rattle.cwr_grammar.proofs.Least.{first_is_least, no_fault_at_all, one_least}
use Rattle.cwr_grammar.proofs.laws.one_fault_or_one_reading.Goals as goal

either : (text : List (List ℕ)) (o : Option (ℕ × ℕ)) → first_fault text ≡ o → ((line : ℕ) × (number : ℕ) × IsLeastFault text line number) ⊎ ((f : File) × IsFile text f)
either text (Some fault) e = inl (fault.0, fault.1, first_is_least text fault.0 fault.1 e)
either text None e = inr (accepted_file text e)

pub returns-clause-some : goal.returns-clause-some
returns-clause-some c = λ text. either text (first_fault text) refl

pub returns-clause-one_fault : goal.returns-clause-one_fault
returns-clause-one_fault c = λ text k n j m h i. one_least text k n j m h i

pub returns-clause-one_reading : goal.returns-clause-one_reading
returns-clause-one_reading c = λ text f g h i. one_file text f g h i

pub returns-clause-never_both : goal.returns-clause-never_both
returns-clause-never_both c = λ text f line number h i. no_fault_at_all text (file_clear text f h) line number i
