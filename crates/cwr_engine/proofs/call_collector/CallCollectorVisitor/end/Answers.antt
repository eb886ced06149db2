use Rattle.cwr_engine.specs.CallCollector.{IsJudgedAt}
use Rattle.cwr_engine.proofs.JudgedMore.{judged_more}
use Rattle.cwr_engine.proofs.call_collector.CallCollectorVisitor.end.Goals as goal

pub returns : goal.returns
returns g c = λ first header whole t kept.
    let here : IsJudgedAt c.args.self.now.group c.args.self.now.sequence c.args.self.now.judge t = kept.2 in
    (kept.0, judged_more _ _ _ whole t _ kept.1 here.group_is here.sequence_is (c.in_ok-call.ensures t here.judging) c.in_ok-push.ensures.items, tt)
