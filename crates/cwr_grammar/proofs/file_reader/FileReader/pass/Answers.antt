use Rattle.std.proofs.Common.{◌∙◌, map, sym, ap, subst, arith}
use Rattle.std.proofs.lemmas.List.{length-map}
use Rattle.cwr_grammar.specs.Awaited.{Awaits}
use Rattle.cwr_grammar.specs.declared.file_counts.FileCounts.{FileCounts}
use Rattle.cwr_grammar.specs.FirstFault.{role_fault}
use Rattle.cwr_grammar.specs.ReadUpTo.{HeadAfter, ReaderState}
use Rattle.cwr_grammar.specs.Roles.{role_of}
use Rattle.cwr_grammar.proofs.NextDetail.{open_goes_on}
use Rattle.cwr_grammar.proofs.Numbers.{clear_role}
use Rattle.cwr_grammar.proofs.ReadFurther.{valid_header}
use Rattle.cwr_grammar.proofs.lemmas.Small.{small_from}
use Rattle.cwr_grammar.proofs.file_reader.FileReader.pass.Goals as goal

pub keep_header-requires-clause-valid : goal.keep_header-requires-clause-valid
keep_header-requires-clause-valid c = λ is.
    let q = c.requires.clear in
    let goes = sym (ap (λ (s : FileCounts). s.is_ended) q.1) ∙ c.requires.goes in
    valid_header (map role_of q.0) (ap (role_fault (map role_of q.0)) (sym is ∙ c.requires.role) ∙ clear_role q.0 c.args.line.now goes q.2)

pub pass-requires-clause-small : goal.pass-requires-clause-small
pass-requires-clause-small c =
    let q = c.requires.clear in
    small_from (map role_of q.0) _ (ap (λ (s : ReaderState). s.counts) c.self.view_is ∙ q.1) (omega (arith, q.3, length-map q.0 role_of))

pub add-requires : goal.add-requires
add-requires c =
    let q = c.requires.clear in
    record { small = small_from (map role_of q.0) _ (ap (λ (s : ReaderState). s.counts) c.self.view_is ∙ q.1) (omega (arith, q.3, length-map q.0 role_of)) }

pub invariant_of-self : goal.invariant_of-self
invariant_of-self c =
    let q = c.requires.clear in
    let before = map role_of q.0 in
    let is = ap (λ (s : ReaderState). s.counts) c.self.view_is ∙ q.1 in
    let counted = c.add.ensures before is in
    let goes = sym (ap (λ (s : FileCounts). s.is_ended) q.1) ∙ c.requires.goes in (
      subst (λ (s : FileCounts). Awaits s c.pass.new.self) (sym counted) (c.pass.ensures before is),
      (λ opens. ap (λ (s : FileCounts). s.is_ended) counted ∙ open_goes_on c.args.role.now before goes (sym c.leaves_open-self-inside.ensures ∙ opens)),
    )

pub returns : goal.returns
returns c = record {
  counted = λ before is. c.add.ensures before (ap (λ (s : ReaderState). s.counts) c.self.view_is ∙ is);
  is_open = c.leaves_open-self-inside.ensures;
  header = subst (λ (s : ReaderState). HeadAfter s.header c.args.role.now c.args.line.now c.keep_header.new.head) c.self.view_is c.keep_header.ensures;
  tail = ap (λ (s : ReaderState). s.tail) c.self.view_is;
}
