use Rattle.std.proofs.Common.{◌≡◌, ◌∙◌, ◌+◌, ◌%◌, sym, ap, arith}
use Rattle.cwr_grammar.proofs.AwaitedNumbers.{last_digit, next_digit}
use Rattle.cwr_grammar.proofs.awaited.next_digits.Goals as goal

pub overflow_add-result : goal.overflow_add-result
overflow_add-result c = omega (arith, c.if-digits.false, last_digit c.args.number, c.requires.digits)

pub returns : goal.returns
returns c =
    let last : c.args.digits % 256 ≡ 48 + c.args.number % 10 = ap (λ n. n % 256) c.requires.digits ∙ last_digit c.args.number in
    ap (λ n. n + 1) c.requires.digits ∙ sym (next_digit c.args.number (omega (arith, last, c.if-digits.false)))
