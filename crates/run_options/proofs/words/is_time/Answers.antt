use Rattle.cwr_field.specs.Calendar.{time_of}
use Rattle.run_options.proofs.FileWords.{named_by}
use Rattle.run_options.proofs.words.is_time.Goals as goal

pub returns-then-word-eq6 : goal.returns-then-word-eq6
returns-then-word-eq6 c = named_by time_of c.args.word.now c.cut.result 6 c.time.result c.is_some.result c.if-word-eq6.true c.cut.ensures.value c.time.ensures c.is_some.ensures
