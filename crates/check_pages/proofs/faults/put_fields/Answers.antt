use Rattle.html_text.proofs.lemmas.Pages.{one_more}
use Rattle.check_pages.specs.Faults.{field_pieces}
use Rattle.check_pages.proofs.faults.put_fields.Goals as goal

pub loop-spot-preserved : goal.loop-spot-preserved
loop-spot-preserved g c =
    one_more (field_pieces c.args.line.now) c.args.spots.now c.loop-spot.spot-index _ _ _ _ c.loop-spot-test.true c.in_ok-put_field.ensures c.loop-spot.invariant
