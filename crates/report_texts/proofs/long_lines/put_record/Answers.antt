use Rattle.std.proofs.Common.{◌≡◌, ◌++◌, ◌∙◌, ℕ, List, codes, ap, append_assoc}
use Rattle.std.specs.Fmt.{decimal}
use Rattle.report_texts.specs.Shown.{shown_text}
use Rattle.report_texts.proofs.lemmas.Written.{three}
use Rattle.report_texts.proofs.long_lines.put_record.Goals as goal

-- the line, the record and the transaction, in a row
in_a_row : (line rtype b detail o transaction i group : List ℕ) → line ++ (rtype ++ (b ++ detail) ++ (o ++ transaction) ++ (i ++ group)) ≡ (line ++ rtype ++ b ++ detail) ++ (o ++ transaction ++ i ++ group)
in_a_row line rtype b detail o transaction i group = simp append_assoc

pub returns : goal.returns
returns g c =
    let f = c.args.finding.now in
    three c.args.out.now.items c.put_counted.new.out.items c.extend_from_slice.new.self.items c.put_detail.new.out.items
    _ _ _
    c.in_ok-put_counted.ensures c.in_ok-extend_from_slice.ensures.items c.in_ok-put_detail.ensures
    ∙ ap (λ (text : List ℕ). c.args.out.now.items ++ text)
    (in_a_row (codes "line " ++ decimal f.line ++ codes ": ") (shown_text f.fault.rtype) (codes " ") (decimal f.fault.sequence)
    (codes " of transaction ") (decimal f.transaction) (codes " in group ") (decimal f.group))
