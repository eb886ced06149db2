use Rattle.std.proofs.Common.{◌∙◌, ℕ, ◌+◌, ◌-◌, ◌/◌, ◌%◌, ap, refl}
use Rattle.cwr_field.proofs.CodeDigits.{check_sum}
use Rattle.cwr_field.proofs.work_code.iswc_text.Goals as goal

pub returns : goal.returns
returns c =
    let nine = c.args.number in
    let eight = nine / 10 in
    let seven = eight / 10 in
    let six = seven / 10 in
    let five = six / 10 in
    let four = five / 10 in
    let three = four / 10 in
    let two = three / 10 in
    let one = two / 10 in
    let check =
    c.ascii_digit-10.ensures ∙ ap (λ (sum : ℕ). 48 + (10 - sum % 10) % 10) (check_sum (one % 10) (two % 10) (three % 10) (four % 10) (five % 10) (six % 10) (seven % 10) (eight % 10) (nine % 10)) in
    rw (c.ascii_digit.ensures, c.ascii_digit-2.ensures, c.ascii_digit-3.ensures, c.ascii_digit-4.ensures, c.ascii_digit-5.ensures, c.ascii_digit-6.ensures, c.ascii_digit-7.ensures, c.ascii_digit-8.ensures, c.ascii_digit-9.ensures, check) refl
