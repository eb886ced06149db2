use Rattle.std.proofs.Common.{◌≡◌, ◌∙◌, ◌∷◌, ◌+◌, ◌≤◌, ap, sym, refl, subst, arith, length, drop}
use Rattle.std.specs.List.{AllByRecursion}
use Rattle.std.proofs.lemmas.Grind.{common_steps}
use Rattle.std.proofs.lemmas.List.{drop_more}
use Rattle.cwr_acknowledgement.specs.Acknowledgement.{FitsItem}
use Rattle.cwr_engine.specs.Judged.{JudgedValue}
use Rattle.cwr_engine.proofs.Answering.{answered_none, answered_next, fit_next, length_told, next_judged, told_next, told_none}
use Rattle.cwr_engine.proofs.engine.hand_in_all.Goals as goal

pub loop-index-init : goal.loop-index-init
loop-index-init g c =
    let none = c.requires.none in
    let nothing = told_none c.args.transactions.now _ none in
    record {
      session = refl;
      limit = refl;
      home = refl;
      count = ap length none;
      answered = λ submitter ts is placed. answered_none _ _ _ _ _ nothing;
      mark = refl;
      fit = subst (AllByRecursion FitsItem) (sym nothing) tt;
      room = c.requires.room;
      turns = omega (arith, c.requires.turns);
    }

pub loop-index-preserved : goal.loop-index-preserved
loop-index-preserved g c =
    let i = c.loop-index.invariant in
    let transactions = c.args.transactions.now in
    let n = c.loop-index.index in
    let transaction = c.index-transactions-index.result in
    let within : n + 1 ≤ length transactions = omega (arith, c.loop-index-test.true) in
    let at : drop n transactions ≡ transaction ∷ drop (n + 1) transactions =
    drop_more transactions n transaction c.loop-index-test.true ∙ ap (λ (x : JudgedValue). x ∷ drop (n + 1) transactions) (sym c.index-transactions-index.is) in
    let items = c.in-Ok-push.ensures.items in
    let now = rw c.in-Ok.is at c.decide-next.ensures.answered in
    let told = told_next transactions _ transaction _ _ c.in-Ok.reply (ap (λ k. drop k transactions) i.count ∙ at) items in
    let long = length_told transactions c.loop-index.replies.items (omega (arith, i.count, within)) ∙ i.count in
    let first = next_judged c.requires.placed.0 n c.requires.placed.1 transaction _ c.requires.placed.3 (sym at ∙ ap (drop n) c.requires.placed.2) in
    record {
      session = c.decide-next.ensures.session ∙ i.session;
      limit = c.decide-next.ensures.limit ∙ i.limit;
      home = c.decide-next.ensures.home ∙ i.home;
      count = let e = ap length items in let k = i.count in grind (arith, common_steps);
      answered = λ submitter ts is placed.
          let next = next_judged submitter n ts transaction _ placed (sym at ∙ ap (drop n) is) in
          answered_next _ _ submitter ts next.rest next.transaction n _ _ _ _ _ _ i.session next.follows long told (i.answered submitter ts is placed)
          (now submitter next.transaction next.judged_is next.placed);
      mark = rw c.in-Ok.is at c.decide-next.ensures.unmarked ∙ i.mark;
      fit = fit_next _ _ _ told i.fit (now _ _ first.judged_is first.placed).fits;
      room = grind (arith, common_steps);
      turns = let t = c.decide-next.ensures.turns in let u = i.turns in omega (arith, t, u);
    }

pub returns-in-Err-clause-all : goal.returns-in-Err-clause-all
returns-in-Err-clause-all g c = tt

pub returns-in-Err-clause-unmarked : goal.returns-in-Err-clause-unmarked
returns-in-Err-clause-unmarked g c = tt
