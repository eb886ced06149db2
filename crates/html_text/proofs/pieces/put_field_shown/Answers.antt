use Rattle.std.proofs.lemmas.Result.{on_ok_weaker}
use Rattle.html_text.proofs.ManySigns.{field_written}
use Rattle.html_text.proofs.pieces.put_field_shown.Goals as goal

pub returns : goal.returns
returns g c =
    on_ok_weaker c.put_blanks.result
    (λ is. field_written c.args.out.now.items c.put_field_text.new.out.items c.put_blanks.new.out.items c.args.bytes.now c.without_trailing-text.result.now c.without_trailing-text.ensures.value c.in_ok-put_field_text.ensures is)
    c.put_blanks.ensures
