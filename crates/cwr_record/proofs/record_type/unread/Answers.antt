use Rattle.std.proofs.Common.{◌∙◌, sym, refl, rules, tests}
use Rattle.std.specs.Char.{is_ascii_uppercase}
use Rattle.std.proofs.lemmas.Iterator.{YieldsList-from_slice}
use Rattle.std.proofs.lemmas.Iterator.Search.{all_from_yields_List}
use Rattle.cwr_record.proofs.record_type.unread.Goals as goal

pub returns-then-all : goal.returns-then-all
returns-then-all c = rw (sym (all_from_yields_List is_ascii_uppercase _ _ c.all.result c.all.ensures.ran (YieldsList-from_slice c.args.name.now cc) (λ x b q k. search (rules, tests))) ∙ c.if-all.true) refl
