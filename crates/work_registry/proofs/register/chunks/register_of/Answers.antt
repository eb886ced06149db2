use Rattle.std.proofs.Common.{◌≡◌, ◌∙◌, ◌+◌, ◌≤◌, ◌++◌, ℕ, List, length, length-append, append-nil, ap, arith, sym, rules}
use Rattle.std.specs.Prelude.{vec_capacity, vec_len}
use Rattle.work_registry.specs.Register.{register_text}
use Rattle.work_registry.specs.RegisterColumns.{head_width}
use Rattle.work_registry.proofs.RegisterInChunks.{text_length}
use Rattle.work_registry.proofs.register.chunks.register_of.Goals as goal

pub returns-clause-text : goal.returns-clause-text
returns-clause-text g c =
    let es = c.args.entries.now in
    let held = c.fill.new.held.items in
    let left = c.fill.new.self in
    let len : length (register_text es) ≡ length (held ++ left) = ap length c.fill.ensures.text in
    let size = text_length es c.requires.few c.see_entries.ensures in
    let count : vec_len c.fill.new.held ≡ length held = search rules in
    let fits : vec_len c.fill.new.held + head_width ≤ vec_capacity c.fill.new.held =
    omega (arith, len, size, count, length-append held left, c.room_for.ensures, c.fill.ensures.room, c.in_ok-held.ensures.capacity) in
    sym (c.fill.ensures.text ∙ ap (λ (xs : List ℕ). held ++ xs) (c.fill.ensures.all fits) ∙ append-nil held)
