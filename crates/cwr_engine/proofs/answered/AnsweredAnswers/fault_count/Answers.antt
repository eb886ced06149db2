use Rattle.std.proofs.Common.{◌<◌, length, refl, rules}
use Rattle.cwr_engine.specs.Judged.{JudgedValue}
use Rattle.cwr_engine.proofs.Answering.{counted_by, judged_within, reply_within}
use Rattle.cwr_engine.proofs.answered.AnsweredAnswers.fault_count.Goals as goal

pub offset_bounds-self-index : goal.offset_bounds-self-index
offset_bounds-self-index g c =
    let within : c.args.index < length c.args.self.now.transactions.now = judged_within c.args.self.now.transactions.now c.args.self.now.replies.now c.args.index c.requires in
    search rules

pub bounds-self-index : goal.bounds-self-index
bounds-self-index g c = judged_within c.args.self.now.transactions.now c.args.self.now.replies.now c.args.index c.requires

pub offset_bounds-self-index-2 : goal.offset_bounds-self-index-2
offset_bounds-self-index-2 g c =
    let within : c.args.index < length c.args.self.now.replies.now = reply_within c.args.self.now.transactions.now c.args.self.now.replies.now c.args.index c.requires in
    search rules

pub bounds-self-index-2 : goal.bounds-self-index-2
bounds-self-index-2 g c = reply_within c.args.self.now.transactions.now c.args.self.now.replies.now c.args.index c.requires

pub returns : goal.returns
returns g c =
    let inside = c.transaction.inside in
    let judged : JudgedValue = record { group = inside.group; sequence = inside.sequence; call = inside.call } in
    counted_by c.args.self.now.transactions.now c.args.self.now.replies.now c.args.index judged c.index-self-index.result _ c.status.result c.faults.result.now
    c.reported_faults.result.now _ c.requires c.transaction.view_is c.status.ensures c.faults.ensures.value c.reported_faults.ensures refl
