use Rattle.std.proofs.Common.{◌≡◌, ◌∙◌, true, length, get_or, Some, None, sym, ap, rules}
use Rattle.std.specs.Char.{is_ascii_digit}
use Rattle.cwr_field.specs.Number.{number_of}
use Rattle.cwr_field.proofs.EachByte.{bytes_from, each}
use Rattle.cwr_field.proofs.FewDigits.{one_more, none_front}
use Rattle.cwr_field.proofs.number.number_of_nine.Goals as goal

pub returns-in-Some-clause-value : goal.returns-in-Some-clause-value
returns-in-Some-clause-value c =
    let bytes = c.args.bytes in
    let len : length bytes ≡ 9 = search rules in
    let digit : is_ascii_digit (get_or bytes 8 0) ≡ true = search rules in
    let eight : number_of (bytes_from 0 8 bytes) ≡ Some c.in-Some.number = search rules in
    sym (ap number_of (each 9 bytes len) ∙ one_more (bytes_from 0 8 bytes) (get_or bytes 8 0) c.in-Some.number digit eight)

pub returns-in_default-2-clause-value : goal.returns-in_default-2-clause-value
returns-in_default-2-clause-value c =
    let bytes = c.args.bytes in
    let len : length bytes ≡ 9 = search rules in
    let eight : number_of (bytes_from 0 8 bytes) ≡ None = search rules in
    sym (ap number_of (each 9 bytes len) ∙ none_front (bytes_from 0 8 bytes) (get_or bytes 8 0) eight)
