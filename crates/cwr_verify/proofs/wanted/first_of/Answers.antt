use Rattle.std.proofs.Common.{◌≡◌, ◌∙◌, Some, length, true, false, sym, refl, arith}
use Rattle.std.specs.Prelude.{slice_get}
use Rattle.std.proofs.lemmas.Option.{slice_get_read}
use Rattle.cwr_verify.proofs.Turns.{first_here, first_none, refuse_more, refuse_to}
use Rattle.cwr_verify.proofs.wanted.first_of.Goals as goal

pub returns-then-can_have_made : goal.returns-then-can_have_made
returns-then-can_have_made g c =
    let first = c.in-Some.ensures.first in
    let at : slice_get c.args.wanted.now c.in-Some.file ≡ Some c.index-wanted-file.result =
    slice_get_read c.args.wanted.now (length c.args.wanted.now) c.in-Some.file c.index-wanted-file.result refl first.1 c.index-wanted-file.is in (
      first_here c.args.wanted.now c.args.entry.now c.in-Some.file c.index-wanted-file.result at (c.can_have_made.ensures.0 c.if-can_have_made.true)
          (refuse_to c.args.wanted.now c.args.waiting.now c.args.entry.now c.args.key c.loop-file.from c.in-Some.file c.requires.waiting c.requires.key c.loop-file.invariant.refuse first.2),
      first.1,
    )

pub loop-file-preserved : goal.loop-file-preserved
loop-file-preserved g c =
    let first = c.in-Some.ensures.first in
    let at : slice_get c.args.wanted.now c.in-Some.file ≡ Some c.index-wanted-file.result =
    slice_get_read c.args.wanted.now (length c.args.wanted.now) c.in-Some.file c.index-wanted-file.result refl first.1 c.index-wanted-file.is in
    record {
      within = omega (arith, first.1);
      refuse = refuse_more c.args.wanted.now c.args.entry.now c.in-Some.file c.index-wanted-file.result at
          (λ made. let bad : true ≡ false = sym (c.can_have_made.ensures.1 made) ∙ c.if-can_have_made.false in cc)
          (refuse_to c.args.wanted.now c.args.waiting.now c.args.entry.now c.args.key c.loop-file.from c.in-Some.file c.requires.waiting c.requires.key c.loop-file.invariant.refuse first.2);
    }

pub returns : goal.returns
returns g c =
    first_none c.args.wanted.now c.args.entry.now
    (refuse_to c.args.wanted.now c.args.waiting.now c.args.entry.now c.args.key c.loop-file.from (length c.args.wanted.now) c.requires.waiting c.requires.key c.loop-file.invariant.refuse
    c.in_default.ensures.none)
