use Rattle.std.proofs.Common.{◌≡◌, ◌∙◌, ◌<◌, ◌-◌, ◌^◌, ℕ, List, ap, arith, drop, length}
use Rattle.work_registry.specs.EntryValue.{EntryValue}
use Rattle.register_tables.specs.Counting.{tallied_all}
use Rattle.register_tables.proofs.Counts.{tally_all, tally_step}
use Rattle.register_tables.proofs.tally.tally_of.Goals as goal

pub loop-index-preserved : goal.loop-index-preserved
loop-index-preserved g c =
    let entries : List EntryValue = c.history-entries.result.now in
    let size : length entries ≡ length c.args.book.now.history = ap (λ (xs : List EntryValue). length xs) c.history-entries.ensures.entries in
    let fits = c.history-entries.ensures.fits in
    let most = c.history-entries.ensures.most in
    let few : length entries < 2 ^ 64 - 1 = omega (arith, size, fits, most) in
    let step = tally_step entries c.loop-index.index c.index-entries-index.result c.loop-index.tally
    c.loop-index-test.true c.loop-index.auto.index few c.index-entries-index.is c.loop-index.invariant in
    rw (c.tallied-tally.ensures, c.status.ensures, c.is_first.ensures, c.reply-reply.ensures) step

pub returns : goal.returns
returns g c =
    let end : c.loop-index.index ≡ 0 = omega (arith, c.loop-index-test.false) in
    let all : c.loop-index.tally ≡ tallied_all c.history-entries.result.now = c.loop-index.invariant ∙ ap (λ (i : ℕ). tallied_all (drop i c.history-entries.result.now)) end in
    all ∙ ap (λ (entries : List EntryValue). tallied_all entries) c.history-entries.ensures.entries ∙ tally_all c.args.book.now.history c.history-entries.ensures.lawful
