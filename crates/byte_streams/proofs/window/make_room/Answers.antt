use Rattle.std.proofs.Common.{◌≡◌, ◌∙◌, ◌⊎◌, ℕ, ◌-◌, ◌*◌, ◌≤◌, ◌<◌, sym, ap, arith, vec_len}
use Rattle.std.proofs.lemmas.Grind.{common_steps}
use Rattle.std.proofs.lemmas.Bool.Decides.{nat_tests}
use Rattle.byte_streams.specs.Window.{size_with_room}
use Rattle.byte_streams.proofs.window.make_room.Goals.{then-size-eq0, else-size-eq0}
use Rattle.byte_streams.proofs.window.make_room.Goals as goal

pub returns-else-end-start-clause-kept : goal.returns-else-end-start-clause-kept
returns-else-end-start-clause-kept g c = grind (arith, common_steps)

to_capacity : (own size start end capacity : ℕ) → size ≡ own → end ≡ size → size < capacity → capacity ≡ size_with_room own start end capacity
to_capacity own size start end capacity is reaches below = grind (arith, nat_tests)

one : (own size start end capacity : ℕ) → size ≡ own → (end ≡ size × capacity ≤ size) ⊎ (end ≡ size → ⊥) → end - start ≡ size → size ≡ 0 → 1 ≡ size_with_room own start end capacity
one own size start end capacity is past full none = grind (arith, nat_tests)

doubled : (own size start end capacity : ℕ) → size ≡ own → (end ≡ size × capacity ≤ size) ⊎ (end ≡ size → ⊥) → end - start ≡ size → (size ≡ 0 → ⊥) → 2 * size ≡ size_with_room own start end capacity
doubled own size start end capacity is past full some = grind (arith, nat_tests)

as_it_was : (own size start end capacity : ℕ) → size ≡ own → (end ≡ size × capacity ≤ size) ⊎ (end ≡ size → ⊥) → (end - start ≡ size → ⊥) → own ≡ size_with_room own start end capacity
as_it_was own size start end capacity is past free = grind (arith, nat_tests)

pub returns-in_ok-resize-clause-size : goal.returns-in_ok-resize-clause-size
returns-in_ok-resize-clause-size g c = c.in_ok-resize.ensures.len ∙ to_capacity _ c.len-size.result c.args.start c.args.end c.args.capacity c.len-size.ensures c.if-end-size.true c.if-size-capacity.true

pub returns-in_ok-resize-2-clause-size : goal.returns-in_ok-resize-2-clause-size
returns-in_ok-resize-2-clause-size g c = c.in_ok-resize-2.ensures.len ∙ elim c.if-size-eq0.branch [
  | then-size-eq0 w ↦ w.resize-is ∙ one _ c.len-size.result c.args.start c.args.end c.args.capacity c.len-size.ensures c.else-end-size.either c.if-end-start.true w.if-size-eq0.true
  | else-size-eq0 w ↦ w.resize-is ∙ doubled _ c.len-size.result c.args.start c.args.end c.args.capacity c.len-size.ensures c.else-end-size.either c.if-end-start.true w.if-size-eq0.false
]

pub returns-else-end-start-clause-size : goal.returns-else-end-start-clause-size
returns-else-end-start-clause-size g c =
    let same : vec_len c.if-start-gt0.bytes ≡ vec_len c.args.bytes.now = grind (arith, common_steps) in
    same ∙ as_it_was _ c.len-size.result c.args.start c.args.end c.args.capacity c.len-size.ensures c.else-end-size.either c.if-end-start.false
