use Rattle.std.proofs.Common.{◌∙◌, [], refl}
use Rattle.cwr_check.proofs.CheckSteps.{place_written}
use Rattle.cwr_check.proofs.check_lines.put_place.Goals as goal

pub returns : goal.returns
returns g c = λ t is.
    let fields = c.put-6.ensures.before [] ∙ c.put-5.ensures.before _ ∙ c.put-4.ensures.before _ ∙ c.put-3.ensures.before _ ∙ c.put-2.ensures.before _ ∙ c.put.ensures.before _ in
    place_written t c.args.out.now.items _ c.bytes.result.now _ c.new-line.result c.args.behind.now _ c.in_ok-extend_from_slice.ensures.items c.bytes.ensures.line refl
    (rw (c.code.ensures, is.group_is, is.sequence_is, is.kind_is) at fields) c.new-line.ensures
