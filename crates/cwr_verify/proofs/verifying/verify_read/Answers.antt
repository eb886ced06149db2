use Rattle.std.proofs.Common.{◌≡◌, ◌∙◌, ℕ, List, length, map, ap, sym, subst, arith}
use Rattle.std.proofs.lemmas.List.{with_items_is}
use Rattle.std.proofs.lemmas.Result.{err_from_is_err_and}
use Rattle.work_registry.specs.EntryValue.{EntryValue}
use Rattle.cwr_verify.proofs.Owning.{as_many}
use Rattle.cwr_verify.proofs.Telling.{proposed}
use Rattle.cwr_verify.specs.Proposed.{AreFirst, AreProposed, wanting_of}
use Rattle.cwr_verify.specs.Verified.{AreAnswered}
use Rattle.cwr_verify.specs.VerifyErrors.{IsUnverified}
use Rattle.cwr_verify.specs.Wanting.{Wanting}
use Rattle.cwr_verify.proofs.verifying.verify_read.Goals as goal

pub check_files-requires : goal.check_files-requires
check_files-requires g c =
    let all : List Wanting = map wanting_of c.args.files.now in
    let history : List EntryValue = c.history.result.now in
    let owners : List ℕ = c.in-Ok-owners_of.owners.items in
    let after : List Wanting = c.owners_of.new.wanted in
    let began : c.as_mut_slice.result.now ≡ all = c.as_mut_slice.ensures.value ∙ c.in-Ok.ensures in
    let first : AreFirst all history owners after = subst (λ (w : List Wanting). AreFirst w history owners after) began c.in-Ok-owners_of.ensures.first in
    let stands : c.as_slice.result.now ≡ after =
    c.as_slice.ensures.value ∙ with_items_is c.in-Ok.wanted after (omega (arith, as_many all history owners after first, ap length c.in-Ok.ensures, c.in-Ok.wanted.ok.0)) in
    (history, owners, subst (AreFirst all history owners) (sym stands) first)

pub returns-clause-answered : goal.returns-clause-answered
returns-clause-answered g c =
    let all : List Wanting = map wanting_of c.args.files.now in
    let history : List EntryValue = c.history.result.now in
    let owners : List ℕ = c.in-Ok-owners_of.owners.items in
    let after : List Wanting = c.owners_of.new.wanted in
    let began : c.as_mut_slice.result.now ≡ all = c.as_mut_slice.ensures.value ∙ c.in-Ok.ensures in
    let first : AreFirst all history owners after = subst (λ (w : List Wanting). AreFirst w history owners after) began c.in-Ok-owners_of.ensures.first in
    let stands : c.as_slice.result.now ≡ after =
    c.as_slice.ensures.value ∙ with_items_is c.in-Ok.wanted after (omega (arith, as_many all history owners after first, ap length c.in-Ok.ensures, c.in-Ok.wanted.ok.0)) in
    λ sent are. subst (λ (h : List EntryValue). AreAnswered owners h sent) c.history.ensures.entries
    (c.in_ok-check_files.ensures.answered sent history owners are (subst (AreFirst all history owners) (sym stands) first) c.in-Ok-owners_of.ensures.each_entry)

pub returns-in_err-check_files-clause-told : goal.returns-in_err-check_files-clause-told
returns-in_err-check_files-clause-told g c =
    let all : List Wanting = map wanting_of c.args.files.now in
    let history : List EntryValue = c.history.result.now in
    let owners : List ℕ = c.in-Ok-owners_of.owners.items in
    let after : List Wanting = c.owners_of.new.wanted in
    let began : c.as_mut_slice.result.now ≡ all = c.as_mut_slice.ensures.value ∙ c.in-Ok.ensures in
    let first : AreFirst all history owners after = subst (λ (w : List Wanting). AreFirst w history owners after) began c.in-Ok-owners_of.ensures.first in
    let stands : c.as_slice.result.now ≡ after =
    c.as_slice.ensures.value ∙ with_items_is c.in-Ok.wanted after (omega (arith, as_many all history owners after first, ap length c.in-Ok.ensures, c.in-Ok.wanted.ok.0)) in
    let p = err_from_is_err_and c.from_residual.result c.from_residual.ensures.1 in
    rw (p.1, p.2) (λ sent are. subst (λ (h : List EntryValue). IsUnverified h sent c.in_err-check_files.field-0.0) c.history.ensures.entries
    (c.in_err-check_files.ensures.told sent history owners are (subst (AreFirst all history owners) (sym stands) first)))

pub returns-clause-proposed : goal.returns-clause-proposed
returns-clause-proposed g c =
    let all : List Wanting = map wanting_of c.args.files.now in
    let history : List EntryValue = c.history.result.now in
    let owners : List ℕ = c.in-Ok-owners_of.owners.items in
    let after : List Wanting = c.owners_of.new.wanted in
    let began : c.as_mut_slice.result.now ≡ all = c.as_mut_slice.ensures.value ∙ c.in-Ok.ensures in
    let first : AreFirst all history owners after = subst (λ (w : List Wanting). AreFirst w history owners after) began c.in-Ok-owners_of.ensures.first in
    λ sent are. subst (λ (h : List EntryValue). AreProposed sent h owners) c.history.ensures.entries (proposed sent c.args.files.now history owners after are first)
