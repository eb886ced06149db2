use Rattle.report_json.proofs.JsonStrings.{by_letter, by_digits, by_itself}
use Rattle.report_json.proofs.json_strings.put_escaped.Goals as goal

pub returns-in_ok-extend_from_slice-clause-ok : goal.returns-in_ok-extend_from_slice-clause-ok
returns-in_ok-extend_from_slice-clause-ok c = rw (by_letter c.args.byte c.escape_letter-letter.result c.escape_letter-letter.ensures c.if-letter-gt0.true) c.in_ok-extend_from_slice.ensures.items

pub returns-in_ok-extend_from_slice-2-clause-ok : goal.returns-in_ok-extend_from_slice-2-clause-ok
returns-in_ok-extend_from_slice-2-clause-ok c =
    rw (by_digits c.args.byte c.escape_letter-letter.result c.escape_letter-letter.ensures c.if-letter-gt0.false c.if-byte-lt-MIN_PRINTABLE.true)
    (rw (c.hex_digit-high.ensures, c.hex_digit-low.ensures) at c.in_ok-extend_from_slice-2.ensures.items)

pub returns-in_ok-push-clause-ok : goal.returns-in_ok-push-clause-ok
returns-in_ok-push-clause-ok c = rw (by_itself c.args.byte c.escape_letter-letter.result c.escape_letter-letter.ensures c.if-letter-gt0.false c.if-byte-lt-MIN_PRINTABLE.false) c.in_ok-push.ensures.items
