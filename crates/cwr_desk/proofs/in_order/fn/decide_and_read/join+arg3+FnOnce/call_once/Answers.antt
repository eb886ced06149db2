use Rattle.cwr_desk.proofs.in_order.fn.decide_and_read.join+arg3+FnOnce.call_once.Goals as goal

pub join+arg3-requires : goal.join+arg3-requires
join+arg3-requires g c = let r = c.requires.1.1.1.1 in (r.1.0, (r.1.1, (r.1.2, (r.1.3, (r.1.4, (r.1.5, r.0))))))
