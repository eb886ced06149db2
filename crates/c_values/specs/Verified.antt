-- What is returned of a register and of files that were sent.
use Rattle.std.specs.Prelude.{◌≡◌, ℕ, ◌⊎◌, nat_lt, List, length, count_by, map, Option, Some, None}
use Rattle.work_registry.specs.EntryValue.{EntryValue}
use Rattle.cwr_verify.specs.Sent.{Sent}
use Rattle.cwr_verify.specs.VerifyErrors.{IsUnverified}
use Rattle.cwr_verify.specs.Verified.{AreAnswered}
use Rattle.cwr_verify.specs.declared.verify_error.VerifyError.{VerifyError}
use Rattle.cwr_verify.specs.declared.verify_error.VerifyError.TheVariants.{Memory, TooLong, Refused, Transaction, Acknowledgement}
use Rattle.c_values.specs.Answers.{done, no_memory, faulty, unverified}
use Rattle.c_values.specs.Registers.{IsRegisterOf}
use Rattle.c_values.specs.declared.verifying.Misfit.{Misfit}
use Rattle.c_values.specs.declared.verifying.SentBytes.{SentBytes}

-- the files that are given, each with its acknowledgement
abbrev pub sent_in : List SentBytes → List Sent
sent_in files = map (λ given. record { text = given.file.now; acknowledgement = given.acknowledgement.now }) files

-- The text is a register, each of whose entries answers one of the files or none. Each file is answered by its entries
-- as its acknowledgement says, and `transactions` is the number of entries that answer a file.
pub record IsVerified (register : List ℕ) (files : List Sent) (transactions : ℕ) : Type 0 where
  pub history : List EntryValue
  pub is_register : IsRegisterOf register history
  -- the owner of each entry: a file, from 0, or a number that is that of no file
  pub owners : List ℕ
  pub answered : AreAnswered owners history files
  pub count : transactions ≡ count_by (λ owner. nat_lt owner (length files)) owners

-- the numbers of an error, those that its kind does not have being 0; `None` where an allocation failed
abbrev pub misfit_of : VerifyError → Option Misfit
misfit_of Memory = None
misfit_of (TooLong file) = Some (record { kind = 1; fault = 0; file = file; line = 0; group = 0; transaction = 0 })
misfit_of (Refused file number line) = Some (record { kind = 2; fault = number; file = file; line = line; group = 0; transaction = 0 })
misfit_of (Transaction file group sequence) = Some (record { kind = 3; fault = 0; file = file; line = 0; group = group; transaction = sequence })
misfit_of (Acknowledgement file line) = Some (record { kind = 4; fault = 0; file = file; line = line; group = 0; transaction = 0 })

-- the text is a register, whose history does not answer the files, and these are the numbers of what is said of that
pub record IsMisfit (register : List ℕ) (files : List Sent) (misfit : Misfit) : Type 0 where
  pub history : List EntryValue
  pub is_register : IsRegisterOf register history
  pub what : VerifyError
  pub numbers : misfit_of what ≡ Some misfit
  pub told : IsUnverified history files what

-- a status that a verification can return
abbrev pub IsVerifyStatus : ℕ → Type 0
IsVerifyStatus status = (status ≡ done) ⊎ ((status ≡ unverified) ⊎ ((status ≡ faulty) ⊎ (status ≡ no_memory)))
