use Rattle.std.proofs.Common.{rules}
use Rattle.report_texts.proofs.file_words.file_rule_text.Goals as goal

pub returns-in-10 : goal.returns-in-10
returns-in-10 c = search rules
