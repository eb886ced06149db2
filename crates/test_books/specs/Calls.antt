-- The calls and their replies by number, from 1: the first ten register the works 1 to 10, the others revise them.
use Rattle.std.specs.Prelude.{ℕ, ◌+◌, ◌-◌, ◌/◌, ◌%◌, nat_lt, if◌then◌else◌, List, [], ◌∷◌, codes, Some}
use Rattle.cwr_call.specs.CallValue.{CallValue}
use Rattle.cwr_record.specs.declared.works.WorkKind.{WorkKind}
use Rattle.cwr_record.specs.declared.works.WorkKind.TheVariants.{Nwr, Rev}
use Rattle.work_registry.specs.EntryValue.{EntryValue, entry_of}
use Rattle.work_registry.specs.declared.reply.Reply.{Reply}
use Rattle.work_registry.specs.declared.reply.Reply.TheVariants.{Accepted}

-- the title of every call, sixty bytes
abbrev pub title : List ℕ
title = codes "SONG ONE                                                    "

-- the work of the n-th call
abbrev pub work_numbered : ℕ → ℕ
work_numbered n = if nat_lt 10 n then n - 10 else n

-- the submitter's number of a work: W, two digits, and blanks
abbrev pub key_of : ℕ → List ℕ
key_of work = 87 ∷ (48 + work / 10 % 10) ∷ (48 + work % 10) ∷ codes "           "

-- the kind of the n-th call: the first ten are NWR, the others REV
abbrev pub kind_numbered : ℕ → WorkKind
kind_numbered n = if nat_lt 10 n then Rev else Nwr

-- the n-th call: its ISWC is the number of its work, and its control of each right is n
abbrev pub call_numbered : ℕ → CallValue
call_numbered n = record {
  submitter = codes "PB000000123";
  kind = kind_numbered n;
  title = title;
  number = key_of (work_numbered n);
  iswc = Some (work_numbered n);
  control = n ∷ n ∷ n ∷ [];
  faults = [];
}

-- the reply to the n-th call: each work is accepted as version 1, and its revision as version 2
abbrev pub reply_numbered : ℕ → Reply
reply_numbered n = Accepted (work_numbered n) (if nat_lt 10 n then 2 else 1)

-- the session of the n-th call: the opening for the first `before` calls, and 1 for those after
abbrev pub session_numbered : ℕ → ℕ → ℕ
session_numbered before n = if nat_lt before n then 1 else 0

-- the entry of the n-th call, where the first `before` calls are of the opening
abbrev pub entry_numbered : ℕ → ℕ → EntryValue
entry_numbered before n = entry_of (session_numbered before n) (call_numbered n) (reply_numbered n)
