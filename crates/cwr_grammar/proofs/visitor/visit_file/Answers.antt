use Rattle.std.proofs.Common.{refl, arith}
use Rattle.std.proofs.lemmas.Result.{IfOk-weaker, IfErr-weaker}
use Rattle.cwr_grammar.proofs.lemmas.Starts.{starts}
use Rattle.cwr_grammar.proofs.visitor.visit_file.Goals as goal

pub finish-requires : goal.finish-requires
finish-requires g c = (c.args.visitor.now, c.args.bytes.now, 0, rw c.new.ensures (starts (g.V.Visitor.keeps c.args.visitor.now c.args.visitor.now) c.args.bytes.now c.requires), refl, omega arith)

pub returns-clause-given : goal.returns-clause-given
returns-clause-given g c =
    IfOk-weaker c.finish.result _ _ (λ envelope given. given c.args.visitor.now c.args.bytes.now 0 refl (rw c.new.ensures (starts (g.V.Visitor.keeps c.args.visitor.now c.args.visitor.now) c.args.bytes.now c.requires))) c.finish.ensures.given

pub returns-clause-fault : goal.returns-clause-fault
returns-clause-fault g c =
    IfErr-weaker c.finish.result _ _ (λ refusal faulty. faulty c.args.visitor.now c.args.bytes.now 0 refl (rw c.new.ensures (starts (g.V.Visitor.keeps c.args.visitor.now c.args.visitor.now) c.args.bytes.now c.requires))) c.finish.ensures.fault
