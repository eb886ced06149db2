use Rattle.std.proofs.Common.{rules}
use Rattle.cwr_grammar.proofs.file_reader.is_plain.Goals as goal

pub returns-then-line-ge-PREFIX_SIZE : goal.returns-then-line-ge-PREFIX_SIZE
returns-then-line-ge-PREFIX_SIZE c = search rules
