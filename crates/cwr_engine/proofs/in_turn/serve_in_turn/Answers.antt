use Rattle.std.proofs.Common.{◌≡◌, false, refl}
use Rattle.cwr_engine.specs.Account.{JobAccount}
use Rattle.cwr_engine.proofs.lemmas.FullHistory.{account_full, account_found}
use Rattle.cwr_engine.proofs.lemmas.Turns.{whole_turns, turned_holds, turned_round}
use Rattle.cwr_engine.proofs.in_turn.serve_in_turn.Goals as goal

pub turn_from-book-requires-clause-works : goal.turn_from-book-requires-clause-works
turn_from-book-requires-clause-works g c =
    turned_holds (λ j. (g.R.Source.has_failed j.reader ≡ false) × (g.W.Sink.has_failed j.writer ≡ false)) c.args.jobs.items c.reverse.new.self.items c.requires.works c.reverse.ensures.items

pub returns-in_default-clause-back : goal.returns-in_default-clause-back
returns-in_default-clause-back g c = (refl, refl)

pub returns-clause-run : goal.returns-clause-run
returns-clause-run g c =
    let P = JobAccount g.R.Source g.W.Sink c.args.stamp.now false in
    let took = turned_round P c.args.jobs.items c.reverse-2.new.self.items c.reverse.new.self.items c.turn_from-book.result.1.items c.reverse-3.new.self.items
    c.turn_from-book.result.2.items _ _ c.reverse.ensures.items c.reverse-2.ensures.items c.reverse-3.ensures.items c.turn_from-book.ensures.took in
    (whole_turns P (λ j k o a b l h r. account_full _ _ _ _ _ _ _ _ _ a b _ o l h r) (λ j k o a l f r. account_found _ _ o l f r) c.args.book c.turn_from-book.result.0 _ _ _ c.requires.opening
    c.recall.ensures.lawful c.recall.ensures.fits took).0

pub returns-clause-in_turn : goal.returns-clause-in_turn
returns-clause-in_turn g c =
    let P = JobAccount g.R.Source g.W.Sink c.args.stamp.now false in
    let took = turned_round P c.args.jobs.items c.reverse-2.new.self.items c.reverse.new.self.items c.turn_from-book.result.1.items c.reverse-3.new.self.items
    c.turn_from-book.result.2.items _ _ c.reverse.ensures.items c.reverse-2.ensures.items c.reverse-3.ensures.items c.turn_from-book.ensures.took in
    (whole_turns P (λ j k o a b l h r. account_full _ _ _ _ _ _ _ _ _ a b _ o l h r) (λ j k o a l f r. account_found _ _ o l f r) c.args.book c.turn_from-book.result.0 _ _ _ c.requires.opening
    c.recall.ensures.lawful c.recall.ensures.fits took).1
