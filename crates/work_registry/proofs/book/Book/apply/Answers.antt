use Rattle.std.proofs.Common.{arith, ◌≡◌, ◌∙◌, ◌<◌, List, ap, refl, sym, length}
use Rattle.work_registry.specs.EntryValue.{EntryValue}
use Rattle.work_registry.specs.Rows.{rows_of}
use Rattle.work_registry.specs.Numbers.{max_entries}
use Rattle.work_registry.specs.Indexes.{decision_on}
use Rattle.work_registry.proofs.SoundHistories.{reply-within}
use Rattle.work_registry.proofs.book.Book.apply.Goals as goal

pub returns-then-len-self-clause-full : goal.returns-then-len-self-clause-full
returns-then-len-self-clause-full g c =
    let full : length c.self.inside.history.items ≡ c.self.inside.limit = omega (arith, c.if-len-self.true, c.len.ensures, c.self.invariant.0.fits, c.self.inside.history.ok.0) in
    rw (← c.self.view_is) (λ _. refl, λ _. full)

pub returns-clause-reply : goal.returns-clause-reply
returns-clause-reply g c =
    let is : c.decide-decision.result ≡ decision_on (rows_of c.args.self.now.history) c.args.call = c.decide-decision.ensures ∙ ap (λ (x : List EntryValue). decision_on (rows_of x) c.args.call) c.known.ensures in
    ap (λ d. d.reply) is

pub returns-clause-within : goal.returns-clause-within
returns-clause-within g c =
    let h = c.self.inside.history.items in
    let known : c.known.result ≡ h = c.known.ensures ∙ sym (ap (λ b. b.history) c.self.view_is) in
    let is : c.decide-decision.result ≡ decision_on (rows_of h) c.args.call = c.decide-decision.ensures ∙ ap (λ (x : List EntryValue). decision_on (rows_of x) c.args.call) known in
    let lt : length h < max_entries = omega (arith, c.if-len-self.false, c.len.ensures, c.self.invariant.0.most, c.self.inside.history.ok.0) in
    rw (ap (λ d. d.reply) is) (reply-within h c.args.call c.self.invariant.0.lawful lt)
