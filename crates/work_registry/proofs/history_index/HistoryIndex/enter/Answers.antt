use Rattle.std.proofs.Common.{arith, ◌≡◌, ◌++◌, ◌∷◌, [], ap, length-append, nat_eq}
use Rattle.indexmap.specs.IndexMap.{get}
use Rattle.work_registry.specs.EntryValue.{EntryValue, entry_of}
use Rattle.work_registry.specs.Rows.{rows_of, same_key}
use Rattle.work_registry.specs.Indexes.{AreIndexes, decision_on}
use Rattle.work_registry.proofs.SoundHistories.{sound, history-push}
use Rattle.work_registry.proofs.KeptRows.{step-place}
use Rattle.work_registry.proofs.Decided.{decided-change}
use Rattle.work_registry.proofs.GrowingBooks.{indexes-push}
use Rattle.work_registry.proofs.history_index.HistoryIndex.enter.Goals as goal

pub store-requires-clause-place : goal.store-requires-clause-place
store-requires-clause-place g c =
    let h = c.self.inside.past in
    let decided : c.args.decision ≡ decision_on (rows_of h) c.args.call.now = rw (← c.self.view_is) at c.requires.decided in
    step-place (rows_of h) c.args.call.now c.args.decision.reply c.args.decision.change (sound h c.self.invariant.0) (ap (λ d. d.reply) decided) (decided-change (rows_of h) c.args.call.now c.args.decision decided)

pub invariant_of-self-2 : goal.invariant_of-self-2
invariant_of-self-2 g c =
    let h = c.self.inside.past in
    let d = c.args.decision in
    let e : EntryValue = entry_of 0 c.args.call.now d.reply in
    let decided : d ≡ decision_on (rows_of h) c.args.call.now = rw (← c.self.view_is) at c.requires.decided in
    let grown : c.push.new.self ≡ h ++ e ∷ [] = c.push.ensures in
    let nine_digits = rw c.iswc.ensures.value at c.iswc.ensures.nine_digits in
    let claims = rw c.key.ensures at c.store.ensures.claims in
    let iswcs = rw c.iswc.ensures.value at c.store.ensures.iswcs in
    let kept : AreIndexes (rows_of (h ++ e ∷ [])) (get same_key c.store.new.self.claims) (get nat_eq c.store.new.self.iswcs) c.store.new.self.works.items =
    indexes-push h 0 c.args.call.now d c.self.inside.kept.claims c.make_room.new.self.claims c.store.new.self.claims c.self.inside.kept.iswcs c.make_room.new.self.iswcs c.store.new.self.iswcs
    c.self.inside.kept.works.items c.make_room.new.self.works.items c.store.new.self.works.items
    c.self.invariant.0 nine_digits decided c.self.invariant.2 c.make_room.ensures.claims c.make_room.ensures.iswcs c.make_room.ensures.works claims iswcs c.store.ensures.works in
    let size = length-append h (e ∷ []) in
    let len = c.self.invariant.3 in
    let room_left = rw (← c.self.view_is) at c.requires.room in
    rw grown (history-push h e c.self.invariant.0 (ap (λ t. t.reply) decided), omega (arith, size, room_left), kept, omega (arith, size, len))
