use Rattle.cwr_rules.proofs.Findings.{one_standing, all_standing}
use Rattle.cwr_rules.proofs.standing.push_standing.Goals as goal

pub loop-finding-preserved : goal.loop-finding-preserved
loop-finding-preserved g c = λ parties known.
    one_standing parties c.args.findings.now c.loop-finding.finding-index _ c.stands-stands.result c.loop-finding.faults.items c.push_found.new.faults.items _ c.loop-finding-test.true
    c.in_ok-push_found.ensures (c.stands-stands.ensures parties known) (c.loop-finding.invariant parties known)

pub returns : goal.returns
returns g c = λ parties known.
    all_standing parties c.args.findings.now c.loop-finding.finding-index c.loop-finding.faults.items _ c.loop-finding-test.false (c.loop-finding.invariant parties known)
