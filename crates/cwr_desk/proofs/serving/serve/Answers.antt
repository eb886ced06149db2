use Rattle.std.proofs.Common.{◌≡◌, ◌∙◌, ◌+◌, false, rules, [], length, ap, arith}
use Rattle.std.proofs.lemmas.List.Sorted.{All-permutation}
use Rattle.registry_desk.specs.Standing.{Standing}
use Rattle.cwr_engine.specs.Account.{JobAccount}
use Rattle.cwr_engine.proofs.lemmas.FullHistory.{account_full}
use Rattle.cwr_desk.specs.Ran.{MayRun}
use Rattle.cwr_desk.proofs.Runs.{Ran-whole, Ran-length, whole_run}
use Rattle.cwr_desk.proofs.serving.serve.Goals as goal

pub serve_from-opening-requires : goal.serve_from-opening-requires
serve_from-opening-requires g c =
    let works = All-permutation (λ j. (g.R.Source.has_failed j.reader ≡ false) × (g.W.Sink.has_failed j.writer ≡ false)) c.args.jobs.items c.reverse.new.self.items
    c.reverse.ensures.permutation c.requires.works in
    let o = c.in-Ok-open.ensures.opened in
    let turned = c.reverse.ensures.len in
    let ready : MayRun g.R.Source g.W.Sink c.in-Ok-open.opened.0 c.in-Ok-open.opened.1 c.reverse.new.self c.in-Ok.outcomes = record {
      ours = ap (λ (s : Standing). s.desk) o;
      session = ap (λ (s : Standing). s.view.session) o;
      seats = let left = ap (λ (s : Standing). s.view.left) o in omega (arith, left, turned, c.len-2.ensures);
      works = works;
      none = c.in-Ok.ensures.items;
      room = omega (arith, turned, c.len.ensures, c.in-Ok.ensures.capacity);
    } in
    search rules

pub close-book-requires-clause-met : goal.close-book-requires-clause-met
close-book-requires-clause-met g c =
    let P = JobAccount g.R.Source g.W.Sink c.args.stamp.now (g.G.Gate.may_shut c.args.gate.now) in
    let o = c.in-Ok-open.ensures.opened in
    let e = c.serve_from-opening.ensures.ran in
    let given : c.in-Ok-open.opened.1.view.given ≡ 0 = ap (λ (s : Standing). s.view.given) o in
    let mets : c.in-Ok-open.opened.1.view.met ≡ [] = ap (λ (s : Standing). s.view.met) o in
    let ran = Ran-whole P _ _ c.args.jobs.items c.reverse-2.new.self.items c.reverse.new.self.items c.serve_from-opening.result.1.items c.reverse-3.new.self.items
    c.serve_from-opening.result.2.items _ c.serve_from-opening.result.0.view.met c.reverse.ensures.items c.reverse-2.ensures.items c.reverse-3.ensures.items given mets e.ran in
    let n : length c.serve_from-opening.result.0.view.met ≡ 0 + length c.args.jobs.items =
    Ran-length P _ 1 c.args.jobs.items c.reverse-2.new.self.items c.reverse-3.new.self.items [] c.serve_from-opening.result.0.view.met ran in
    let v = e.given in
    let l = c.args.jobs.ok.0 in
    let k = c.reverse.ensures.len in
    omega arith

pub returns-clause-run : goal.returns-clause-run
returns-clause-run g c =
    let P = JobAccount g.R.Source g.W.Sink c.args.stamp.now (g.G.Gate.may_shut c.args.gate.now) in
    let o = c.in-Ok-open.ensures.opened in
    let e = c.serve_from-opening.ensures.ran in
    let given : c.in-Ok-open.opened.1.view.given ≡ 0 = ap (λ (s : Standing). s.view.given) o in
    let mets : c.in-Ok-open.opened.1.view.met ≡ [] = ap (λ (s : Standing). s.view.met) o in
    let ran = Ran-whole P _ _ c.args.jobs.items c.reverse-2.new.self.items c.reverse.new.self.items c.serve_from-opening.result.1.items c.reverse-3.new.self.items
    c.serve_from-opening.result.2.items _ c.serve_from-opening.result.0.view.met c.reverse.ensures.items c.reverse-2.ensures.items c.reverse-3.ensures.items given mets e.ran in
    let all : c.serve_from-opening.result.0.view.given ≡ length c.args.jobs.items = (let v = e.given in let l = c.args.jobs.ok.0 in let k = c.reverse.ensures.len in omega arith) in
    whole_run P (λ j k o a b l h r. account_full _ _ _ _ _ _ _ _ _ a b _ o l h r) c.close-book.result c.in-Ok-open.opened.1.view.limit (c.close-book.ensures.limit ∙ e.limit)
    c.args.book c.serve_from-opening.result.0.view _ _ _ c.close-book.ensures
    (e.opened ∙ ap (λ (s : Standing). s.view.opened) o) (ap (λ (s : Standing). s.view.limit) o) all ran
