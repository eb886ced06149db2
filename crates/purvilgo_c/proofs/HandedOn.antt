-- What is verified of the files that are handed on is verified of those that are given.
use Rattle.std.proofs.Common.{◌≡◌, ◌∙◌, ℕ, List, ap, subst, length, count_by, nat_lt}
use Rattle.work_registry.specs.EntryValue.{EntryValue}
use Rattle.cwr_verify.specs.Sent.{Sent}
use Rattle.cwr_verify.specs.Verified.{AreAnswered}
use Rattle.c_values.specs.Registers.{IsRegisterOf}
use Rattle.c_values.specs.Verified.{IsVerified}

pub verified : (register : List ℕ) (history : List EntryValue) (handed given : List Sent) (owners : List ℕ) (files transactions : ℕ)
    → IsRegisterOf register history → AreAnswered owners history handed → handed ≡ given → files ≡ length handed
    → transactions ≡ count_by (λ owner. nat_lt owner files) owners → IsVerified register given transactions
verified register history handed given owners files transactions is_register answered same size counted = record {
  history = history;
  is_register = is_register;
  owners = owners;
  answered = subst (λ (sent : List Sent). AreAnswered owners history sent) same answered;
  count = counted ∙ ap (λ (n : ℕ). count_by (λ owner. nat_lt owner n) owners) (size ∙ ap (λ (sent : List Sent). length sent) same);
}
