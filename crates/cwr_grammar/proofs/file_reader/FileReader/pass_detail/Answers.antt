use Rattle.std.proofs.Common.{◌≡◌, ◌∙◌, ◌∷◌, sym, ap, subst, arith}
use Rattle.cwr_grammar.specs.Awaited.{packed_digits_of, next_detail}
use Rattle.cwr_grammar.specs.Counted.{AreSmall, counts_of}
use Rattle.cwr_grammar.specs.declared.file_counts.FileCounts.{FileCounts}
use Rattle.cwr_grammar.specs.ReadUpTo.{ReaderState}
use Rattle.cwr_grammar.proofs.NextDetail.{counted_next}
use Rattle.cwr_grammar.proofs.file_reader.FileReader.pass_detail.Goals as goal

pub pass_line-requires-clause-small : goal.pass_line-requires-clause-small
pass_line-requires-clause-small c = subst (λ (s : ReaderState). AreSmall s.counts) (sym c.self.view_is) c.requires.small

pub add_line-requires : goal.add_line-requires
add_line-requires c = record { small = subst (λ (s : ReaderState). AreSmall s.counts) (sym c.self.view_is) c.requires.small }

pub invariant_of-self : goal.invariant_of-self
invariant_of-self c = rw c.add_line.ensures (
  record {
    transaction = c.pass_line.ensures.transaction ∙ c.self.invariant.0.transaction;
    detail = c.pass_line.ensures.detail ∙ ap packed_digits_of (omega arith);
  },
  c.self.invariant.1,
)

pub returns : goal.returns
returns c = λ line. record {
  counted = λ before is.
      subst (λ (s : FileCounts). c.add_line.new.self ≡ counts_of (next_detail s ∷ before)) (ap (λ (s : ReaderState). s.counts) c.self.view_is)
      (counted_next before c.self.inside.counts c.add_line.new.self (ap (λ (s : ReaderState). s.counts) c.self.view_is ∙ is) c.add_line.ensures);
  is_open = ap (λ (s : ReaderState). s.is_open) c.self.view_is ∙ c.requires.opened;
  header = ap (λ (s : ReaderState). s.header) c.self.view_is;
  tail = ap (λ (s : ReaderState). s.tail) c.self.view_is;
}
