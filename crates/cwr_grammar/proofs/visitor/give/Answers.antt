use Rattle.std.proofs.Common.{Some, ap}
use Rattle.cwr_grammar.specs.Visiting.{is_detail}
use Rattle.cwr_grammar.proofs.Visits.{Kept, kept_detail, kept_open, kept_between, kept_ended, fits_is}
use Rattle.cwr_grammar.proofs.visitor.give.Goals as goal
use Rattle.cwr_grammar.proofs.visitor.give.Goals.{then-is_open+in_ok-end, else-is_open}

pub detail-requires-clause-begun : goal.detail-requires-clause-begun
detail-requires-clause-begun g c =
    let k = c.requires.kept in
    let h = kept_detail (g.V.Visitor.keeps k.0 c.args.visitor.now (Some k.1)) c.args.role.now c.args.is_open (k.2, k.3, k.4, k.5, k.6) (ap is_detail c.in-Detail.is) in
    (k.0, k.1, h.0, h.1, h.2, h.3)

pub end-requires : goal.end-requires
end-requires g c =
    let k = c.requires.kept in
    let h = kept_open (g.V.Visitor.keeps k.0 c.args.visitor.now (Some k.1)) c.args.role.now c.args.is_open (k.2, k.3, k.4, k.5, k.6) c.if-is_open.true in
    record { begun = (k.0, k.1, h.0, h.1, h.2, h.3, h.4) }

pub begin-requires : goal.begin-requires
begin-requires g c =
    let k = c.requires.kept in
    let kept : Kept (g.V.Visitor.keeps k.0 c.args.visitor.now (Some k.1)) c.args.role.now c.args.is_open = (k.2, k.3, k.4, k.5, k.6) in
    record {
      between = (elim c.if-is_open.branch [
        | then-is_open+in_ok-end w ↦ (
            let h = kept_ended (g.V.Visitor.keeps k.0 c.args.visitor.now (Some k.1)) (g.V.Visitor.keeps k.0 w.end.new.self (Some k.1)) c.args.role.now c.args.is_open kept w.if-is_open.true (w.in_ok-end.ensures k.0 k.1) in
            rw w.visitor-is (k.0, k.1, h.0, h.1))
        | else-is_open w ↦ (
            let h = kept_between (g.V.Visitor.keeps k.0 c.args.visitor.now (Some k.1)) c.args.role.now c.args.is_open kept w.if-is_open.false in
            rw w.visitor-is (k.0, k.1, h.0, h.1))
      ]);
      group = (fits_is _ _ _ _ _ c.in-TransactionHeader-Some-default-default.is c.requires.fits).0;
      sequence = (fits_is _ _ _ _ _ c.in-TransactionHeader-Some-default-default.is c.requires.fits).1;
      printable = c.requires.printable;
    }
