use Rattle.std.proofs.Common.{get_or, ap, sym, ◌∙◌}
use Rattle.cwr_field.specs.Scan.{is_sought}
use Rattle.cwr_field.specs.declared.scan.Sought.{Sought}
use Rattle.cwr_field.proofs.lemmas.ManyBytes.{none_below, none_above, below_none, above_none}
use Rattle.cwr_field.proofs.scan.has_in_block.Goals as goal

pub returns-in-Below : goal.returns-in-Below
returns-in-Below c = record {
  none = λ e k low high. ap (λ (s : Sought). is_sought s (get_or c.args.bytes.now k 0)) c.in-Below.is ∙ none_below c.in-Below.limit c.args.bytes.now c.args.at c.requires e k low high;
  only_then = λ none. below_none c.in-Below.limit c.args.bytes.now c.args.at c.requires (λ k low high. ap (λ (s : Sought). is_sought s (get_or c.args.bytes.now k 0)) (sym c.in-Below.is) ∙ none k low high);
}

pub returns-in-Above : goal.returns-in-Above
returns-in-Above c = record {
  none = λ e k low high. ap (λ (s : Sought). is_sought s (get_or c.args.bytes.now k 0)) c.in-Above.is ∙ none_above c.in-Above.limit c.args.bytes.now c.args.at c.requires e k low high;
  only_then = λ none. above_none c.in-Above.limit c.args.bytes.now c.args.at c.requires (λ k low high. ap (λ (s : Sought). is_sought s (get_or c.args.bytes.now k 0)) (sym c.in-Above.is) ∙ none k low high);
}
