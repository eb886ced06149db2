use Rattle.std.proofs.Common.{◌∙◌, ◌+◌, ◌<◌, ◌^◌, List, Option, length, sym, ap, subst, arith}
use Rattle.std.proofs.lemmas.Result.{err_from_is_err_and}
use Rattle.cwr_grammar.specs.Awaited.{next_detail}
use Rattle.cwr_grammar.specs.ReadUpTo.{ReaderState}
use Rattle.cwr_grammar.specs.Spans.{Placed}
use Rattle.cwr_grammar.specs.RawParts.{RawParts}
use Rattle.cwr_grammar.specs.Visiting.{open_after, whole_after}
use Rattle.cwr_grammar.proofs.NextDetail.{line_clear}
use Rattle.cwr_grammar.proofs.Numbers.{fits_header, clear_role}
use Rattle.cwr_grammar.proofs.OneLineFurther.{going_small}
use Rattle.cwr_grammar.proofs.Placing.{placed_after, placed_detail, placed_tail}
use Rattle.cwr_grammar.proofs.ReadFurther.{line_taken, role_faulty, tail_taken, tail_faulty}
use Rattle.cwr_grammar.proofs.file_reader.FileReader.place_line.Goals as goal

pub is_next_detail-requires-clause-small : goal.is_next_detail-requires-clause-small
is_next_detail-requires-clause-small g c = λ opened.
    let q = c.requires.next in
    let goes = ap (λ (s : ReaderState). s.counts.is_ended) (sym c.self.view_is) ∙ c.self.invariant.1 (ap (λ (s : ReaderState). s.is_open) c.self.view_is ∙ opened) in
    going_small _ _ _ _ (q.1.goes goes).visiting.going (omega (arith, q.3))

pub pass_detail-requires-clause-small : goal.pass_detail-requires-clause-small
pass_detail-requires-clause-small g c =
    let q = c.requires.next in
    going_small _ _ _ _ (q.1.goes (c.is_next_detail.ensures c.if-is_next_detail.true).1).visiting.going (omega (arith, q.3))

pub returns-then-is_next_detail-clause-taken : goal.returns-then-is_next_detail-clause-taken
returns-then-is_next_detail-clause-taken g c = λ text here whole so_far.
    let is = c.is_next_detail.ensures c.if-is_next_detail.true in
    let r = so_far.goes is.1 in
    let some = here.some in
    let inside = here.inside in
    let lt : c.args.at < length text = omega (arith, some, inside) in
    let clear = line_clear r.before c.args.line.now.bytes.now _ r.visiting.going.counted is.1 (sym r.visiting.is.counted ∙ is.0) is.3 is.2 in
    line_taken (λ _. Placed text c.args.spans.now.items c.args.current c.args.at) (λ _. Placed text c.args.spans.now.items c.args.current (c.args.at + c.args.line.now.size)) _ _ text c.args.at c.args.line.now.size c.args.line.now.bytes.now
    (next_detail c.args.self.now.counts) so_far r here (sym is.3) clear (c.pass_detail.ensures c.args.line.now.bytes.now)
    (placed_detail text c.args.spans.now.items c.args.current c.args.at c.args.line.now.size c.args.line.now.bytes.now r.whole r.current lt whole r.visiting.kept)

pub returns-in_err-take_tail-clause-fault : goal.returns-in_err-take_tail-clause-fault
returns-in_err-take_tail-clause-fault g c =
    let p = err_from_is_err_and c.from_residual.result c.from_residual.ensures.1 in
    let ended = ap (λ (s : ReaderState). s.counts.is_ended) (sym c.self.view_is) ∙ c.if-self.true in
    rw (p.1, p.2) (λ text here so_far.
    rw (c.in_err-take_tail.ensures.faulty.1) (tail_faulty _ _ text c.args.at c.args.line.now.size c.args.line.now.bytes.now so_far ended here c.in_err-take_tail.ensures.faulty.0))

pub returns-then-self-clause-taken : goal.returns-then-self-clause-taken
returns-then-self-clause-taken g c = λ text here whole so_far.
    let ended = ap (λ (s : ReaderState). s.counts.is_ended) (sym c.self.view_is) ∙ c.if-self.true in
    rw c.in_ok-take_tail.ensures.new (tail_taken _ _ _ text c.args.at c.args.line.now.size c.args.line.now.bytes.now so_far ended here c.in_ok-take_tail.ensures.taken (placed_tail text c.args.spans.now.items c.args.current c.args.at c.args.line.now.size))

pub clear_role-requires-clause-small : goal.clear_role-requires-clause-small
clear_role-requires-clause-small g c =
    let q = c.requires.next in
    let goes = ap (λ (s : ReaderState). s.counts.is_ended) (sym c.self.view_is) ∙ c.if-self.false in
    going_small _ _ _ _ (q.1.goes goes).visiting.going (omega (arith, q.3))

pub returns-in_err-role-clause-fault : goal.returns-in_err-role-clause-fault
returns-in_err-role-clause-fault g c =
    let p = err_from_is_err_and c.from_residual-in_err-role.result c.from_residual-in_err-role.ensures.1 in
    let goes = ap (λ (s : ReaderState). s.counts.is_ended) (sym c.self.view_is) ∙ c.if-self.false in
    rw (p.1, p.2) (λ text here so_far. role_faulty _ _ text c.args.at c.args.line.now.size c.args.line.now.bytes.now _ so_far goes here c.in_err-role.ensures.fault)

pub take_line-requires : goal.take_line-requires
take_line-requires g c =
    let q = c.requires.next in
    let goes = ap (λ (s : ReaderState). s.counts.is_ended) (sym c.self.view_is) ∙ c.if-self.false in
    let r = q.1.goes goes in
    let counted = ap (λ (s : ReaderState). s.counts) c.self.view_is ∙ r.visiting.going.counted in
    let few = subst (λ (s : ReaderState). s.counts.groups < 10 ^ 5) (sym c.self.view_is) r.visiting.going.few_groups in
    fits_header r.before c.args.line.now.bytes.now _ _ counted c.in_ok-role.ensures.role
    (clear_role r.before c.args.line.now.bytes.now r.visiting.going.goes (c.in_ok-role.ensures.clear r.before r.visiting.going.counted)) few

pub pass-requires-clause-clear : goal.pass-requires-clause-clear
pass-requires-clause-clear g c =
    let q = c.requires.next in
    let goes = ap (λ (s : ReaderState). s.counts.is_ended) (sym c.self.view_is) ∙ c.if-self.false in
    let r = q.1.goes goes in
    let few = r.visiting.going.few in
    (r.before, r.visiting.going.counted, c.in_ok-role.ensures.clear r.before r.visiting.going.counted, omega (arith, few, q.3))

pub returns-clause-taken : goal.returns-clause-taken
returns-clause-taken g c = λ text here whole so_far.
    let goes = ap (λ (s : ReaderState). s.counts.is_ended) (sym c.self.view_is) ∙ c.if-self.false in
    let r = so_far.goes goes in
    let some = here.some in
    let inside = here.inside in
    let lt : c.args.at < length text = omega (arith, some, inside) in
    let counts = ap (λ (s : ReaderState). s.counts) c.self.view_is in
    let gives : (found : List RawParts) (opened : Option RawParts) → Placed text c.args.spans.now.items c.args.current c.args.at found opened
    → Placed text c.take_line.new.spans.items c.in_ok-next.next (c.args.at + c.args.line.now.size) (whole_after c.in_ok-role.role found opened)
    (open_after c.in_ok-role.role c.args.line.now.bytes.now c.args.self.now.counts.groups c.args.self.now.counts.transactions opened) =
    λ found opened kept. rw (c.in_ok-next.ensures.taken, c.in_ok-next.ensures.next, counts) (placed_after c.in_ok-role.role text c.args.spans.now.items c.args.current _ _ c.args.at c.args.line.now.size c.args.line.now.bytes.now found opened lt whole kept) in
    line_taken (λ _. Placed text c.args.spans.now.items c.args.current c.args.at) (λ _. Placed text c.take_line.new.spans.items c.in_ok-next.next (c.args.at + c.args.line.now.size)) _ _ text c.args.at c.args.line.now.size c.args.line.now.bytes.now c.in_ok-role.role
    so_far r here c.in_ok-role.ensures.role (c.in_ok-role.ensures.clear r.before r.visiting.going.counted) c.pass.ensures
    (gives r.whole r.current r.visiting.kept)
