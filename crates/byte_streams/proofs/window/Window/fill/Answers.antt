use Rattle.std.proofs.Common.{◌≡◌, ◌∙◌, ℕ, ◌+◌, ◌-◌, ◌≤◌, ◌<◌, ◌++◌, List, length, take, drop, eqb, true, false, sym, ap, arith}
use Rattle.std.proofs.lemmas.List.{length-take-le, length-drop, with_items_is}
use Rattle.std.proofs.lemmas.Bool.Decides.{nat_tests}
use Rattle.byte_streams.specs.Window.{WindowState, between}
use Rattle.byte_streams.proofs.Windows.{behind, refilled}
use Rattle.byte_streams.proofs.window.Window.fill.Goals as goal

zero_is : (n : ℕ) → eqb n 0 ≡ true → n ≡ 0
zero_is n e = grind (arith, nat_tests)

some_is : (n : ℕ) → eqb n 0 ≡ false → 0 < n
some_is n e = grind (arith, nat_tests)

pub returns-in-Ok-2-clause-read : goal.returns-in-Ok-2-clause-read
returns-in-Ok-2-clause-read g c =
    let f = c.self.inside in
    let n = c.in-Ok-read_some.n in
    let end = f.end - f.start in
    let room = c.read_some.new.buffer in
    let bound = c.in-Ok-read_some.ensures.bound in
    let value = c.deref_mut.ensures.value in
    let long = ap length value in
    let fits : end ≤ length c.deref_mut.result.now = omega (arith, long, c.in-Ok.ensures.room, c.make_room.new.bytes.ok.0) in
    let size : length (take n room) ≡ n = length-take-le n room bound in
    let held = ap (λ (s : WindowState). s.held) c.self.view_is in
    let read = ap (λ (s : WindowState). s.read) c.self.view_is in
    let limit = ap (λ (s : WindowState). s.limit) c.self.view_is in
    let wide : length room ≡ length c.deref_mut.result.now - end = (let left = length-drop end c.deref_mut.result.now in c.read_some.auto.buffer ∙ length-take-le _ (drop end c.deref_mut.result.now) (omega (arith, left))) in
    let whole = refilled c.deref_mut.result.now room end fits wide ∙ long in
    let filled = with_items_is c.make_room.new.bytes _ (whole ∙ sym c.make_room.new.bytes.ok.0) in (
      take n room,
      record {
        held = ap (λ (xs : List ℕ). between xs 0 (end + n)) filled ∙ behind c.deref_mut.result.now room _ end n fits bound ∙ ap (λ (xs : List ℕ). xs ++ take n room) (ap (take end) value ∙ c.in-Ok.ensures.kept ∙ held);
        read = omega (arith, read, size);
        limit = limit;
        within = omega (arith, read, limit, c.if-n-self.false, c.requires.within);
        consumed = c.in-Ok-read_some.ensures.bytes.0;
        some = λ goes. (let some = some_is n goes in omega (arith, some, size));
        at_end = λ ended. c.in-Ok-read_some.ensures.bytes.1 (zero_is n ended) (omega (arith, wide, long, c.in-Ok.ensures.room, c.make_room.new.bytes.ok.0));
      },
    )

pub returns-in-Ok-read_some-clause-stopped : goal.returns-in-Ok-read_some-clause-stopped
returns-in-Ok-read_some-clause-stopped g c =
    let n = c.in-Ok-read_some.n in
    let read = ap (λ (s : WindowState). s.read) c.self.view_is in
    let limit = ap (λ (s : WindowState). s.limit) c.self.view_is in
    let size : length (take n c.read_some.new.buffer) ≡ n = length-take-le n c.read_some.new.buffer c.in-Ok-read_some.ensures.bound in
    (c.in-Ok-read_some.ensures.fails, (take n c.read_some.new.buffer, (c.in-Ok-read_some.ensures.bytes.0, omega (arith, c.if-n-self.true, size, read, limit, c.requires.within))))
