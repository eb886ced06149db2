use Rattle.std.proofs.Common.{◌≡◌, ◌∙◌, List, ℕ, ap, arith}
use Rattle.cwr_field.specs.Layout.{is_blank}
use Rattle.cwr_record.specs.Columns.{field_at, work_head_submitter_number, work_head_title}
use Rattle.cwr_rules.proofs.FrontFields.{at_column}
use Rattle.cwr_rules.proofs.header.HeaderFields.read.Goals as goal

pub returns-in-Some-clause-value : goal.returns-in-Some-clause-value
returns-in-Some-clause-value c =
    let head = c.args.head.now in
    let front = c.in-Some.front.now in
    let chunk = c.in-Some.ensures.cases in
    let title : field_at front work_head_title ≡ field_at head work_head_title =
    ap (λ (line : List ℕ). field_at line work_head_title) chunk.same ∙ at_column head work_head_title 95 (omega arith) chunk.enough in
    let number : field_at front work_head_submitter_number ≡ field_at head work_head_submitter_number =
    ap (λ (line : List ℕ). field_at line work_head_submitter_number) chunk.same ∙ at_column head work_head_submitter_number 95 (omega arith) chunk.enough in
    let iswc = c.work_iswc-has_wrong_iswc.ensures in
    c.read_names.ensures
    ∙ (λ i. record {
      kind = c.args.kind;
      title = title i;
      number = number i;
      iswc = iswc.value i;
      has_no_title = is_blank (title i);
      has_no_number = is_blank (number i);
      has_wrong_iswc = iswc.wrong i;
      has_wrong_date = c.has_wrong_date-self.ensures i;
    })
