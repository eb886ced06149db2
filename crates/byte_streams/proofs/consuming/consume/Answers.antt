use Rattle.std.proofs.Common.{◌≡◌, ◌∙◌, ◌++◌, ℕ, List, [], true, false, sym, ap, subst, arith, append-nil}
use Rattle.byte_streams.specs.Window.{WindowState}
use Rattle.byte_streams.proofs.Consumed.{taking_starts, taking_goes, long_with, left_at_end, all_taken, stopped_since, refused_since}
use Rattle.byte_streams.proofs.lemmas.Given.{both}
use Rattle.byte_streams.proofs.consuming.consume.Goals as goal

pub loop-consumer-init : goal.loop-consumer-init
loop-consumer-init g c = record {
  going = c.requires.going;
  taking = taking_starts (g.C.Consumer.has_left c.args.consumer c.args.consumer) c.in-Ok.window c.args.limit (g.S.Source.left c.args.reader.now) c.requires.first c.in-Ok.ensures;
  counted = omega arith;
  each = λ _. omega arith;
}

pub take-requires : goal.take-requires
take-requires g c =
    let i = c.loop-consumer.invariant.taking in
    let w = c.loop-consumer.window in
    (c.args.consumer, i.passed ++ (w.held ++ []), [], c.args.limit, c.requires.allowed, long_with _ w c.args.limit _ _ [] i, rw c.held.ensures (i.left []))

pub returns-in-Err-clause-unconsumed : goal.returns-in-Err-clause-unconsumed
returns-in-Err-clause-unconsumed g c =
    let i = c.loop-consumer.invariant.taking in
    let w = c.loop-consumer.window in
    refused_since g.C.Consumer.is_refusal g.C.Consumer.is_memory _ w c.args.limit _ _ _ _ c.in-Err.refusal c.refused.result i c.refused.ensures.answer
    (λ rest none. c.in-Err.ensures.fault c.args.consumer (i.passed ++ (w.held ++ rest)) rest (rw c.held.ensures (i.left rest)))

pub returns-in-Err-clause-read_on : goal.returns-in-Err-clause-read_on
returns-in-Err-clause-read_on g c =
    let on = c.refused.ensures.read_on in
    (_, both _ _ _ _ _ c.loop-consumer.invariant.taking.consumed on.1)

pub loop-consumer-preserved : goal.loop-consumer-preserved
loop-consumer-preserved g c =
    let i = c.loop-consumer.invariant in
    let h = c.in-Ok-fill_line.ensures.read in
    let goes : c.loop-consumer.window.is_ended ≡ false = sym c.is_ended.ensures ∙ c.loop-consumer-test.true in
    let each = i.each goes in
    let read = ap (λ (s : WindowState). s.read) c.pass.ensures in
    let more = h.1.read in
    let one = c.in-Ok-fill_line.ensures.counted in
    record {
      going = c.in-Ok-fill_line.ensures.going;
      taking = taking_goes (g.C.Consumer.has_left c.args.consumer c.loop-consumer.consumer) (g.C.Consumer.has_left c.args.consumer c.take.new.self) c.loop-consumer.window c.pass.new.self c.fill_line.new.self c.args.limit c.in-Ok-take.count _ _ _ h.0
          i.taking c.pass.ensures h.1 (rw c.held.ensures at (c.in-Ok-take.ensures.left c.args.consumer));
      counted = omega (arith, one, each, more, read);
      each = λ on. (let now = c.in-Ok-fill_line.ensures.each on in omega (arith, now, each, more, read));
    }

pub returns-in-Err-fill_line-clause-unconsumed : goal.returns-in-Err-fill_line-clause-unconsumed
returns-in-Err-fill_line-clause-unconsumed g c =
    stopped_since g.C.Consumer.is_refusal g.C.Consumer.is_memory _ c.loop-consumer.window c.pass.new.self c.args.limit c.in-Ok-take.count _ _ _ _ c.in-Err-fill_line.stopped
    c.loop-consumer.invariant.taking c.pass.ensures c.in-Err-fill_line.ensures.stopped

pub returns-in-Err-fill_line-clause-read_on : goal.returns-in-Err-fill_line-clause-read_on
returns-in-Err-fill_line-clause-read_on g c =
    let on = c.fill_line.ensures.read_on in
    (_, both _ _ _ _ _ c.loop-consumer.invariant.taking.consumed on.1)

pub end-requires : goal.end-requires
end-requires g c =
    let i = c.loop-consumer.invariant.taking in
    let w = c.loop-consumer.window in
    let read = i.read in
    let within = i.within in
    (c.args.consumer, i.passed ++ w.held, c.args.limit, c.requires.allowed, omega (arith, read, within), rw c.held-2.ensures (left_at_end _ w c.args.limit _ _ i))

pub returns-in-Ok-end-clause-made : goal.returns-in-Ok-end-clause-made
returns-in-Ok-end-clause-made g c =
    let ended : c.loop-consumer.window.is_ended ≡ true = sym c.is_ended.ensures ∙ c.loop-consumer-test.false in
    all_taken _ c.loop-consumer.window c.args.limit _ _ (g.C.Consumer.is_made c.args.consumer c.in-Ok-end.made) c.loop-consumer.invariant.taking ended (rw c.held-2.ensures at (c.in-Ok-end.ensures.made c.args.consumer))

pub returns-clause-unconsumed : goal.returns-clause-unconsumed
returns-clause-unconsumed g c =
    let i = c.loop-consumer.invariant.taking in
    let w = c.loop-consumer.window in
    let refusal = c.in-Err-end.refusal in
    let ended : w.is_ended ≡ true = sym c.is_ended.ensures ∙ c.loop-consumer-test.false in
    let P : List ℕ → Type 0 = λ xs. g.C.Consumer.is_refusal refusal (i.passed ++ xs) in
    let Q : List ℕ → Type 0 = λ xs. P (w.held ++ xs) in
    refused_since g.C.Consumer.is_refusal g.C.Consumer.is_memory _ w c.args.limit _ _ _ _ refusal c.refused-in-Err-end.result i c.refused-in-Err-end.ensures.answer
    (λ rest none. subst Q (sym (none ended)) (subst P (sym (append-nil w.held)) (c.in-Err-end.ensures.fault c.args.consumer (i.passed ++ w.held) (rw c.held-2.ensures (left_at_end _ w c.args.limit _ _ i)))))

pub returns-clause-read_on : goal.returns-clause-read_on
returns-clause-read_on g c =
    let on = c.refused-in-Err-end.ensures.read_on in
    (_, both _ _ _ _ _ c.loop-consumer.invariant.taking.consumed on.1)
