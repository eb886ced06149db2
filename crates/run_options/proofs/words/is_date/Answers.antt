use Rattle.cwr_field.specs.Calendar.{day_of}
use Rattle.run_options.proofs.FileWords.{named_by}
use Rattle.run_options.proofs.words.is_date.Goals as goal

pub returns-then-word-eq8 : goal.returns-then-word-eq8
returns-then-word-eq8 c = named_by day_of c.args.word.now c.cut.result 8 c.date.result c.is_some.result c.if-word-eq8.true c.cut.ensures.value c.date.ensures c.is_some.ensures
