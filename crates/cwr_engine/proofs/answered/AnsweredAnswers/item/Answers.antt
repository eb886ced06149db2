use Rattle.std.proofs.Common.{◌<◌, length, rules}
use Rattle.cwr_engine.specs.Judged.{JudgedValue}
use Rattle.cwr_engine.proofs.Answering.{judged_within, reply_within, told_by}
use Rattle.cwr_engine.proofs.answered.AnsweredAnswers.item.Goals as goal

pub offset_bounds-self-index : goal.offset_bounds-self-index
offset_bounds-self-index g c =
    let within : c.args.index < length c.args.self.now.transactions.now = judged_within c.args.self.now.transactions.now c.args.self.now.replies.now c.args.index c.requires in
    search rules

pub bounds-self-index : goal.bounds-self-index
bounds-self-index g c = judged_within c.args.self.now.transactions.now c.args.self.now.replies.now c.args.index c.requires

pub offset_bounds-self-index-2 : goal.offset_bounds-self-index-2
offset_bounds-self-index-2 g c =
    let within : c.args.index < length c.args.self.now.replies.now = reply_within c.args.self.now.transactions.now c.args.self.now.replies.now c.args.index c.requires in
    search rules

pub bounds-self-index-2 : goal.bounds-self-index-2
bounds-self-index-2 g c = reply_within c.args.self.now.transactions.now c.args.self.now.replies.now c.args.index c.requires

pub returns : goal.returns
returns g c =
    let inside = c.self.inside in
    let judged : JudgedValue = record { group = inside.group; sequence = inside.sequence; call = inside.call } in
    told_by c.args.self.now.transactions.now c.args.self.now.replies.now c.args.index judged c.index-self-index.result _ c.kind.result c.title.result c.number.result
    c.status.result c.work.result c.faults.result.now c.requires c.self.view_is c.kind.ensures c.title.ensures.value c.number.ensures.value
    c.status.ensures c.work.ensures c.faults.ensures.value
