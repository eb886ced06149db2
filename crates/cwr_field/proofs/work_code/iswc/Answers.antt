use Rattle.std.proofs.Common.{◌≡◌, ◌∙◌, false, length, Some, None, sym, ap}
use Rattle.cwr_field.specs.Iswc.{iswc_of}
use Rattle.cwr_field.specs.Layout.{is_blank}
use Rattle.cwr_field.specs.Number.{number_of}
use Rattle.cwr_field.proofs.EachByte.{bytes_from}
use Rattle.cwr_field.proofs.CodeDigits.{valid, unmarked, unchecked, unlike}
use Rattle.cwr_field.proofs.work_code.iswc.Goals as goal

pub returns-in-Some-clause-value : goal.returns-in-Some-clause-value
returns-in-Some-clause-value c =
    let code = c.bytes-code.result in
    let len : length code ≡ 11 = ap length c.bytes-code.ensures ∙ c.requires in
    let blank : is_blank code ≡ false = sym c.if-are_blank.ensures in
    let some : number_of (bytes_from 1 9 code) ≡ Some c.in-Some.number = sym c.number_of_nine.ensures.value ∙ c.in-Some.is in
    sym (valid code c.in-Some.number len blank some c.if-mark-eq-MARK.true (c.if-check-check_of.true ∙ c.check_of.ensures c.in-Some.number some)) ∙ ap iswc_of c.bytes-code.ensures

pub returns-in_default-clause-value : goal.returns-in_default-clause-value
returns-in_default-clause-value c =
    let code = c.bytes-code.result in
    let len : length code ≡ 11 = ap length c.bytes-code.ensures ∙ c.requires in
    let blank : is_blank code ≡ false = sym c.if-are_blank.ensures in
    let some : number_of (bytes_from 1 9 code) ≡ Some c.in-Some.number = sym c.number_of_nine.ensures.value ∙ c.in-Some.is in
    sym (unchecked code c.in-Some.number len blank some (λ same. c.if-check-check_of.false (same ∙ sym (c.check_of.ensures c.in-Some.number some)))) ∙ ap iswc_of c.bytes-code.ensures

pub returns-in_default-2-clause-value : goal.returns-in_default-2-clause-value
returns-in_default-2-clause-value c =
    let code = c.bytes-code.result in
    let len : length code ≡ 11 = ap length c.bytes-code.ensures ∙ c.requires in
    let blank : is_blank code ≡ false = sym c.if-are_blank.ensures in
    let some : number_of (bytes_from 1 9 code) ≡ Some c.in-Some.number = sym c.number_of_nine.ensures.value ∙ c.in-Some.is in
    sym (unmarked code c.in-Some.number len blank some c.if-mark-eq-MARK.false) ∙ ap iswc_of c.bytes-code.ensures

pub returns-in_default-3-clause-value : goal.returns-in_default-3-clause-value
returns-in_default-3-clause-value c =
    let code = c.bytes-code.result in
    let len : length code ≡ 11 = ap length c.bytes-code.ensures ∙ c.requires in
    let blank : is_blank code ≡ false = sym c.if-are_blank.ensures in
    let none : number_of (bytes_from 1 9 code) ≡ None = sym c.number_of_nine.ensures.value ∙ c.in_default.is in
    sym (unlike code len blank none) ∙ ap iswc_of c.bytes-code.ensures
