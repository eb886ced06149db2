use Rattle.std.proofs.Common.{get_or, ltb, ap, sym, ◌∙◌, arith}
use Rattle.cwr_field.specs.Scan.{is_sought}
use Rattle.cwr_field.specs.declared.scan.Sought.{Sought}
use Rattle.cwr_field.proofs.lemmas.ManyBytes.{none_left, none_right, left_none, right_none}
use Rattle.cwr_field.proofs.scan.has_in_run.Goals as goal

pub returns-in-Below : goal.returns-in-Below
returns-in-Below c = record {
  none = λ e k low high. ap (λ (s : Sought). is_sought s (get_or c.args.bytes.now k 0)) c.in-Below.is ∙ none_left ltb c.in-Below.limit 16 c.args.bytes.now c.args.at (omega arith) c.requires e k low high;
  only_then = λ none. left_none ltb c.in-Below.limit 16 c.args.bytes.now c.args.at (omega arith) c.requires (λ k low high. ap (λ (s : Sought). is_sought s (get_or c.args.bytes.now k 0)) (sym c.in-Below.is) ∙ none k low high);
}

pub returns-in-Above : goal.returns-in-Above
returns-in-Above c = record {
  none = λ e k low high. ap (λ (s : Sought). is_sought s (get_or c.args.bytes.now k 0)) c.in-Above.is ∙ none_right ltb c.in-Above.limit 16 c.args.bytes.now c.args.at (omega arith) c.requires e k low high;
  only_then = λ none. right_none ltb c.in-Above.limit 16 c.args.bytes.now c.args.at (omega arith) c.requires (λ k low high. ap (λ (s : Sought). is_sought s (get_or c.args.bytes.now k 0)) (sym c.in-Above.is) ∙ none k low high);
}
