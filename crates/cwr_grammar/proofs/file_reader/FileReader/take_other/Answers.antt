use Rattle.std.proofs.Common.{◌∙◌, map, sym, ap, arith}
use Rattle.std.proofs.lemmas.Result.{err_from_is_err_and}
use Rattle.cwr_grammar.specs.declared.role.Role.TheVariants.{FileHeader}
use Rattle.cwr_grammar.specs.FirstFault.{role_fault}
use Rattle.cwr_grammar.specs.ReadUpTo.{ReaderState}
use Rattle.cwr_grammar.specs.Roles.{role_of}
use Rattle.cwr_grammar.proofs.Numbers.{clear_role}
use Rattle.cwr_grammar.proofs.OneLineFurther.{going_small}
use Rattle.cwr_grammar.proofs.ReadFurther.{header_valid, role_faulty, tail_taken, tail_faulty}
use Rattle.cwr_grammar.proofs.file_reader.FileReader.take_other.Goals as goal

pub returns-in_err-take_tail-clause-fault : goal.returns-in_err-take_tail-clause-fault
returns-in_err-take_tail-clause-fault g c =
    let p = err_from_is_err_and c.from_residual.result c.from_residual.ensures.1 in
    let ended = ap (λ (s : ReaderState). s.counts.is_ended) (sym c.self.view_is) ∙ c.if-self.true in
    rw (p.1, p.2) (λ first text at n here so_far.
    rw (c.in_err-take_tail.ensures.faulty.1) (tail_faulty _ _ text at n c.args.line.now so_far ended here c.in_err-take_tail.ensures.faulty.0))

pub returns-then-self-clause-taken : goal.returns-then-self-clause-taken
returns-then-self-clause-taken g c = λ first text at n here so_far.
    let ended = ap (λ (s : ReaderState). s.counts.is_ended) (sym c.self.view_is) ∙ c.if-self.true in
    rw c.in_ok-take_tail.ensures.new (tail_taken _ _ _ text at n c.args.line.now so_far ended here c.in_ok-take_tail.ensures.taken (λ whole kept. kept))

pub clear_role-requires-clause-small : goal.clear_role-requires-clause-small
clear_role-requires-clause-small g c =
    let q = c.requires.next in
    let goes = ap (λ (s : ReaderState). s.counts.is_ended) (sym c.self.view_is) ∙ c.if-self.false in
    going_small _ _ _ _ (q.4.goes goes).visiting.going (omega (arith, q.6))

pub returns-in_err-role-clause-fault : goal.returns-in_err-role-clause-fault
returns-in_err-role-clause-fault g c =
    let p = err_from_is_err_and c.from_residual-in_err-role.result c.from_residual-in_err-role.ensures.1 in
    let goes = ap (λ (s : ReaderState). s.counts.is_ended) (sym c.self.view_is) ∙ c.if-self.false in
    rw (p.1, p.2) (λ first text at n here so_far. role_faulty _ _ text at n c.args.line.now _ so_far goes here c.in_err-role.ensures.fault)

pub take_file_header-requires-clause-role : goal.take_file_header-requires-clause-role
take_file_header-requires-clause-role g c =
    let goes = ap (λ (s : ReaderState). s.counts.is_ended) (sym c.self.view_is) ∙ c.if-self.false in
    let r = c.requires.next.4.goes goes in
    let before = map role_of r.before in
    let is = sym c.in_ok-role.ensures.role ∙ c.in-FileHeader.is in
    let none = clear_role r.before c.args.line.now r.visiting.going.goes (c.in_ok-role.ensures.clear r.before r.visiting.going.counted) in
    is ∙ ap FileHeader (header_valid before c.in-FileHeader.field-0 (ap (role_fault before) (sym is) ∙ none))
