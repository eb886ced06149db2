use Rattle.html_text.specs.FileNames.{name_byte}
use Rattle.html_text.proofs.lemmas.Pages.{one_more}
use Rattle.html_text.proofs.file_name.put_name.Goals as goal

pub loop-byte-preserved : goal.loop-byte-preserved
loop-byte-preserved g c =
    one_more name_byte c.args.name.now c.loop-byte.byte-index _ _ _ _ c.loop-byte-test.true c.in_ok-put_name_byte.ensures c.loop-byte.invariant
