use Rattle.std.proofs.Common.{rules}
use Rattle.cwr_check.proofs.checking.check_source.Goals as goal

pub returns-in-Ok-clause-told : goal.returns-in-Ok-clause-told
returns-in-Ok-clause-told g c = search rules

pub returns-in-Ok-clause-few_reads : goal.returns-in-Ok-clause-few_reads
returns-in-Ok-clause-few_reads g c = search rules

pub returns-in-Ok-check_of_fault-clause-told : goal.returns-in-Ok-check_of_fault-clause-told
returns-in-Ok-check_of_fault-clause-told g c = search rules

pub returns-in-Err-clause-few_reads : goal.returns-in-Err-clause-few_reads
returns-in-Err-clause-few_reads g c = search rules

pub returns-in-Err-Memory-clause-few_reads : goal.returns-in-Err-Memory-clause-few_reads
returns-in-Err-Memory-clause-few_reads g c = search rules

pub returns-in-Err-Read-clause-few_reads : goal.returns-in-Err-Read-clause-few_reads
returns-in-Err-Read-clause-few_reads g c = search rules

pub returns-in-Err-TooLong-clause-few_reads : goal.returns-in-Err-TooLong-clause-few_reads
returns-in-Err-TooLong-clause-few_reads g c = search rules

pub returns-in-Err-Read-clause-too_long : goal.returns-in-Err-Read-clause-too_long
returns-in-Err-Read-clause-too_long g c = search rules

pub returns-in-Err-TooLong-clause-told : goal.returns-in-Err-TooLong-clause-told
returns-in-Err-TooLong-clause-told g c = search rules

pub returns-in-Err-Memory-clause-failed : goal.returns-in-Err-Memory-clause-failed
returns-in-Err-Memory-clause-failed g c = search rules
