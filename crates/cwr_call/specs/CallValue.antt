-- What a call contains, independently of how it is stored.
use Rattle.std.specs.Prelude.{ℕ, List, Option}
use Rattle.cwr_call.specs.declared.transaction_fault.Fault.{Fault}
use Rattle.cwr_record.specs.declared.works.WorkKind.{WorkKind}

-- a call: what the submitter hands in for one transaction, with the faults that the rules found in it
pub record CallValue : Type 0 where
  -- Sender Type and Sender ID of the HDR, eleven bytes
  pub submitter : List ℕ
  -- a new registration (NWR) or a revision (REV)
  pub kind : WorkKind
  -- the work's title, as the field has it
  pub title : List ℕ
  -- Submitter Work #, as the field has it
  pub number : List ℕ
  -- the nine digits of the ISWC; `None` where the field is blank or wrong
  pub iswc : Option ℕ
  -- what the submitter's parties own of the performing, the mechanical and the synchronization right, in hundredths of
  -- one per cent
  pub control : List ℕ
  -- the faults J1 to J15, in rising order; an empty list where there is none
  pub faults : List Fault
