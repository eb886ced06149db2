use Rattle.std.proofs.Common.{refl, arith}
use Rattle.work_registry.proofs.CleanBytes.{none, three_blocks}
use Rattle.work_registry.proofs.RegisterLines.{first_at}
use Rattle.work_registry.proofs.register.lines.ends_after_head.Goals as goal

pub returns-then-not-has_in_block : goal.returns-then-not-has_in_block
returns-then-not-has_in_block c = λ last.
    let text = c.args.text.now in
    first_at text 173 c.if-text-le-HEAD_WIDTH.false c.if-text-ne10.false
    (three_blocks text (c.if-has_in_block.ensures.none refl) (c.if-not-has_in_block.ensures.none refl) (c.has_in_block-then-not-has_in_block.ensures.none (none _ last)) (omega (arith, c.if-text-le-HEAD_WIDTH.false)))
