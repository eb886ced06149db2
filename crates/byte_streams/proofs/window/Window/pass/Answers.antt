use Rattle.std.proofs.Common.{◌∙◌, ◌+◌, ◌-◌, ◌≤◌, length, drop, ap, arith}
use Rattle.std.proofs.lemmas.List.{length-take}
use Rattle.byte_streams.specs.Window.{WindowState}
use Rattle.byte_streams.proofs.Windows.{passed}
use Rattle.byte_streams.proofs.window.Window.pass.Goals as goal

pub returns : goal.returns
returns g c =
    let f = c.self.inside in
    let held = ap (λ (s : WindowState). s.held) c.self.view_is in
    let size = ap length held in
    let a = length-take (f.end - f.start) (drop f.start f.bytes.items) in
    let ordered = c.self.invariant.0 in
    let inside : f.start + c.args.count ≤ f.end = omega (arith, c.requires, size, a, ordered) in
    let rest = passed f.bytes.items f.start f.end c.args.count inside ∙ ap (drop c.args.count) held in
    λ i. record { held = rest i; read = (c.self.view_is i).read; limit = (c.self.view_is i).limit; is_ended = (c.self.view_is i).is_ended }
