use Rattle.std.proofs.Common.{arith, ◌≡◌, ℕ, List, ◌∙◌, ◌++◌, ap, sym, map, length, take, drop, nat_eq}
use Rattle.std.proofs.lemmas.List.{length-map}
use Rattle.std.proofs.Math.Seq.{take-append_seam}
use Rattle.indexmap.specs.IndexMap.{get}
use Rattle.work_registry.specs.EntryValue.{EntryValue}
use Rattle.work_registry.specs.Rows.{rows_of, same_key}
use Rattle.work_registry.specs.Indexes.{AreIndexes}
use Rattle.work_registry.specs.Register.{opened}
use Rattle.work_registry.specs.Replay.{opening_count}
use Rattle.work_registry.proofs.ReopenedBooks.{book-opened, count_inside, count_opened, opened_behind}
use Rattle.work_registry.proofs.lemmas.Opened.{rows_of-opened}
use Rattle.work_registry.proofs.book.Book.reopened.Goals as goal

-- the items of a list whose items were written over
written : (h new : List EntryValue) (len : ℕ) → len ≡ length h → new ≡ map opened h → take len (new ++ drop (length new) h) ≡ map opened h
written h new len size is = rw (size ∙ sym (ap length is ∙ length-map h opened)) (take-append_seam new (drop (length new) h) ∙ is)

pub invariant_of-self : goal.invariant_of-self
invariant_of-self g c =
    let h = c.self.inside.history.items in
    let new : c.open_behind.new.history ≡ map opened h = c.open_behind.ensures ∙ rw (c.deref_mut.ensures.value, c.self.invariant.2) (opened_behind h) in
    let size = c.self.inside.history.ok.0 ∙ sym (ap length new ∙ length-map h opened) in
    let is = written h c.open_behind.new.history c.self.inside.history.len c.self.inside.history.ok.0 new in
    let kept : AreIndexes (rows_of (map opened h)) (get same_key c.self.inside.kept.claims) (get nat_eq c.self.inside.kept.iswcs) c.self.inside.kept.works.items = rw (rows_of-opened h) c.self.invariant.1 in
    let opening : c.len.result ≡ opening_count (map opened h) = c.len.ensures ∙ size ∙ ap length new ∙ sym (count_opened h) in
    rw is (book-opened h c.self.inside.limit c.self.invariant.0, kept, opening)

pub returns : goal.returns
returns g c =
    let h = c.self.inside.history.items in
    let new : c.open_behind.new.history ≡ map opened h = c.open_behind.ensures ∙ rw (c.deref_mut.ensures.value, c.self.invariant.2) (opened_behind h) in
    let is = written h c.open_behind.new.history c.self.inside.history.len c.self.inside.history.ok.0 new ∙ ap (λ b. map opened b.history) c.self.view_is in
    λ i. record { history = is i; limit = (ap (λ b. b.limit) c.self.view_is) i }

pub open_behind-requires : goal.open_behind-requires
open_behind-requires g c =
    let le = count_inside c.self.inside.history.items in
    let size = ap length c.deref_mut.ensures.value in
    omega (arith, le, size, c.self.invariant.2)
