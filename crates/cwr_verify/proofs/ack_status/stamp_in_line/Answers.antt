use Rattle.std.proofs.Common.{◌∙◌, ap}
use Rattle.cwr_field.specs.Number.{number_of}
use Rattle.cwr_verify.proofs.Stamping.{faulty, stamped}
use Rattle.cwr_verify.proofs.ack_status.stamp_in_line.Goals as goal

pub returns-in_default : goal.returns-in_default
returns-in_default c = faulty c.args.line.now c.in_default.field-0 c.in_default.ensures.fault

pub returns : goal.returns
returns c =
    c.new.ensures
    ∙ stamped c.args.line.now c.in-Ok.header c.digits.result c.in_ok-society.society c.in-Ok.ensures.ok (c.digits.ensures.value ∙ ap number_of c.cut.ensures.value) c.in_ok-society.was
