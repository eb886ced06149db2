use Rattle.std.proofs.Common.{◌≡◌, ◌∙◌, ◌+◌, ◌*◌, List, ℕ, ◌∷◌, get_or, length, take, drop, sym, ap, rules}
use Rattle.cwr_field.specs.Number.{number_of}
use Rattle.cwr_field.proofs.EachByte.{each}
use Rattle.cwr_field.proofs.EightDigits.{IsBytes}
use Rattle.cwr_field.proofs.FiveDigits.{word_of_five, zeros}
use Rattle.cwr_field.proofs.number.number_of_five.Goals as goal

word_is : (c : goal.After-to_le_bytes) → c.to_le_bytes.result ≡ get_or c.args.bytes 0 0 ∷ get_or c.args.bytes 1 0 ∷ get_or c.args.bytes 2 0 ∷ get_or c.args.bytes 3 0 ∷ get_or c.args.bytes 4 0 ∷ zeros
word_is c =
    let fits : IsBytes c.args.bytes = search rules in
    let is = ap (λ (n : ℕ). 3472328089260785664 + n + get_or c.args.bytes 4 0 * 4294967296) c.from_le_bytes.ensures in
    c.to_le_bytes.ensures ∙ word_of_five _ _ _ _ _ _ (fits 0) (fits 1) (fits 2) (fits 3) (fits 4) is

pub number_of_front-requires : goal.number_of_front-requires
number_of_front-requires c = ap (drop 5) (word_is c)

pub returns-clause-value : goal.returns-clause-value
returns-clause-value c =
    let len : length c.args.bytes ≡ 5 = search rules in
    c.number_of_front.ensures.value ∙ ap (λ (l : List ℕ). number_of (take 5 l)) (word_is c.before) ∙ ap number_of (sym (each 5 c.args.bytes len))
