use Rattle.std.proofs.Common.{arith, ◌≡◌, ◌<◌, ◌∙◌, ◌++◌, ◌∷◌, [], ap, sym, length, nat_eq}
use Rattle.indexmap.specs.IndexMap.{get}
use Rattle.work_registry.specs.EntryValue.{EntryValue, entry_of}
use Rattle.work_registry.specs.Rows.{rows_of, same_key}
use Rattle.work_registry.specs.Indexes.{AreIndexes, decision_on}
use Rattle.work_registry.proofs.SoundRows.{IsSound}
use Rattle.work_registry.proofs.SoundHistories.{sound}
use Rattle.work_registry.proofs.KeptRows.{indexes-room, step-place}
use Rattle.work_registry.proofs.Decided.{decided-change}
use Rattle.work_registry.proofs.GrowingBooks.{book-push, indexes-push}
use Rattle.work_registry.proofs.ReopenedBooks.{count_inside, count_push}
use Rattle.work_registry.proofs.book.Book.append.Goals as goal

pub invariant_of-self-in_default-make_room : goal.invariant_of-self-in_default-make_room
invariant_of-self-in_default-make_room g c =
    rw c.reserve.ensures.items (
      c.self.invariant.0,
      indexes-room (rows_of c.self.inside.history.items) c.self.inside.kept.claims c.make_room.new.self.claims c.self.inside.kept.iswcs c.make_room.new.self.iswcs c.self.inside.kept.works.items c.make_room.new.self.works.items
          c.self.invariant.1 c.make_room.ensures.claims c.make_room.ensures.iswcs c.make_room.ensures.works,
      c.self.invariant.2,
    )

pub store-requires-clause-place : goal.store-requires-clause-place
store-requires-clause-place g c =
    let s : IsSound (rows_of c.args.self.now.history) = rw (← c.self.view_is) (sound c.self.inside.history.items c.self.invariant.0.lawful) in
    step-place (rows_of c.args.self.now.history) c.args.call c.args.decision.reply c.args.decision.change s (ap (λ d. d.reply) c.requires.decided) (decided-change (rows_of c.args.self.now.history) c.args.call c.args.decision c.requires.decided)

pub invariant_of-self-2 : goal.invariant_of-self-2
invariant_of-self-2 g c =
    let h = c.self.inside.history.items in
    let reply = c.args.decision.reply in
    let e : EntryValue = entry_of c.args.session c.args.call reply in
    let grown : c.store_entry.new.history.items ≡ h ++ e ∷ [] = c.store_entry.ensures ∙ ap (λ l. l ++ e ∷ []) c.reserve.ensures.items in
    let decided : c.args.decision ≡ decision_on (rows_of h) c.args.call = rw (← c.self.view_is) at c.requires.decided in
    let room_left : length h < c.self.inside.limit = rw (← c.self.view_is) at c.requires.not_full in
    let nine_digits = rw c.iswc.ensures.value at c.iswc.ensures.nine_digits in
    let claims = rw c.key.ensures at c.store.ensures.claims in
    let iswcs = rw c.iswc.ensures.value at c.store.ensures.iswcs in
    let kept : AreIndexes (rows_of (h ++ e ∷ [])) (get same_key c.store.new.self.claims) (get nat_eq c.store.new.self.iswcs) c.store.new.self.works.items =
    indexes-push h c.args.session c.args.call c.args.decision c.self.inside.kept.claims c.make_room.new.self.claims c.store.new.self.claims c.self.inside.kept.iswcs c.make_room.new.self.iswcs c.store.new.self.iswcs
    c.self.inside.kept.works.items c.make_room.new.self.works.items c.store.new.self.works.items
    c.self.invariant.0.lawful nine_digits decided c.self.invariant.1 c.make_room.ensures.claims c.make_room.ensures.iswcs c.make_room.ensures.works claims iswcs c.store.ensures.works in
    let opening = c.opening_with-self-inside.ensures ∙ sym (count_push h e c.self.inside.opening c.len.result c.self.invariant.2 (c.len.ensures ∙ c.reserve.new.self.ok.0 ∙ ap length c.reserve.ensures.items)) in
    rw grown (book-push h e c.self.inside.limit c.self.invariant.0 room_left (ap (λ d. d.reply) decided), kept, opening)

pub opening_with-self-inside-requires-clause-inside : goal.opening_with-self-inside-requires-clause-inside
opening_with-self-inside-requires-clause-inside g c =
    let le = count_inside c.self.inside.history.items in
    let size = ap length c.reserve.ensures.items in
    omega (arith, le, size, c.self.invariant.2, c.len.ensures, c.reserve.new.self.ok.0)
