use Rattle.std.proofs.Common.{refl}
use Rattle.work_registry.proofs.CleanBytes.{none, texts}
use Rattle.work_registry.proofs.register.calls.are_texts_clean.Goals as goal

pub returns-then-not-has_in_block : goal.returns-then-not-has_in_block
returns-then-not-has_in_block c = λ last. texts c.args.line.now c.requires (c.if-not-has_in_block.ensures.none refl) (c.has_in_block-then-not-has_in_block.ensures.none (none _ last))
