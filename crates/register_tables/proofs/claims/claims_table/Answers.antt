use Rattle.std.proofs.lemmas.Result.{IfOk-weaker}
use Rattle.csv.specs.Writing.{text_written}
use Rattle.register_tables.proofs.Steps.{table}
use Rattle.register_tables.proofs.claims.claims_table.Goals as goal

pub returns-clause-text : goal.returns-clause-text
returns-clause-text g c =
    IfOk-weaker c.ended.result _ _
    (λ told kept. table (g.W.Write.contents c.args.to) (text_written g.W.Write.contents c.in_ok-out.out) (text_written g.W.Write.contents c.put_claims.new.out)
    (g.W.Write.contents told.to) _ _
    (rw (c.performing_name.ensures, c.mechanical_name.ensures, c.synchronization_name.ensures) at c.in_ok-out.ensures.text) c.in_ok-rows.ensures.text kept)
    c.ended.ensures.kept
