use Rattle.std.proofs.Common.{◌∙◌, ◌+◌, arith, refl, rules}
use Rattle.std.proofs.lemmas.Option.{slice_get_within}
use Rattle.cwr_acknowledgement.proofs.AckSteps.{fits_at, item_next, lines_more, lines_within, told_within}
use Rattle.cwr_acknowledgement.proofs.Puts.{front_none, front_more, front_cut, cut_put, size_after}
use Rattle.cwr_acknowledgement.proofs.acknowledgement.put_items.Goals as goal

pub loop-index-init : goal.loop-index-init
loop-index-init g c = record { form = refl; works = search rules; put = front_none _ _ _ }

pub put_item-requires-clause-size : goal.put_item-requires-clause-size
put_item-requires-clause-size g c =
    let i = c.loop-index.index in
    let next = slice_get_within (g.L.Answers.items c.args.answers.now) i c.item.result c.item.ensures in
    let size = size_after _ _ _ _ _ _ c.loop-index.invariant.put.put in
    let more = lines_more (g.L.Answers.items c.args.answers.now) i c.item.result next c.item.ensures in
    let within = lines_within (g.L.Answers.items c.args.answers.now) (i + 1) in
    omega (arith, size, more, within, next, c.requires.size)

pub put_item-requires-clause-few : goal.put_item-requires-clause-few
put_item-requires-clause-few g c =
    let within = told_within (g.L.Answers.items c.args.answers.now) c.loop-index.index c.item.result c.item.ensures in
    omega (arith, within, c.requires.few)

pub put_item-requires-clause-fits : goal.put_item-requires-clause-fits
put_item-requires-clause-fits g c = fits_at _ _ _ c.requires.fit c.item.ensures

pub returns-in_err-put_item-clause-put : goal.returns-in_err-put_item-clause-put
returns-in_err-put_item-clause-put g c =
    cut_put c.from_residual.result c.in_err-put_item.field-0.0 _ _ _ _ _ _ c.from_residual.ensures.1
    (front_cut _ _ _ _ _ _ _ _ _ _ _ c.loop-index.invariant.put
    (item_next c.args.form.now.stamp c.args.form.now.header (g.L.Answers.items c.args.answers.now) c.loop-index.index c.item.result (slice_get_within _ _ _ c.item.ensures) c.item.ensures)
    (rw c.loop-index.invariant.form at c.in_err-put_item.ensures.put))

pub loop-index-preserved : goal.loop-index-preserved
loop-index-preserved g c = record {
  form = c.in_ok-put_item.ensures.same ∙ c.loop-index.invariant.form;
  works = search rules;
  put =
      front_more _ _ _ _ _ _ _ _ _ _ _ _ _ c.loop-index.invariant.put
      (item_next c.args.form.now.stamp c.args.form.now.header (g.L.Answers.items c.args.answers.now) c.loop-index.index c.item.result (slice_get_within _ _ _ c.item.ensures) c.item.ensures)
      (lines_more (g.L.Answers.items c.args.answers.now) c.loop-index.index c.item.result (slice_get_within _ _ _ c.item.ensures) c.item.ensures)
      (rw c.loop-index.invariant.form at c.in_ok-put_item.ensures.put);
}
