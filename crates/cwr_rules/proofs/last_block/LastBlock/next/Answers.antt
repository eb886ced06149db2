use Rattle.std.proofs.Common.{rules}
use Rattle.cwr_rules.proofs.last_block.LastBlock.next.Goals as goal

pub returns-in_default-AtTitles : goal.returns-in_default-AtTitles
returns-in_default-AtTitles c = search rules

pub returns-in_default-AtTitles-2 : goal.returns-in_default-AtTitles-2
returns-in_default-AtTitles-2 c = search rules

pub returns-in_default-AtTitles-3 : goal.returns-in_default-AtTitles-3
returns-in_default-AtTitles-3 c = search rules

pub returns-in_default-AtTitles-4 : goal.returns-in_default-AtTitles-4
returns-in_default-AtTitles-4 c = search rules

pub returns-in_default-AtTitles-5 : goal.returns-in_default-AtTitles-5
returns-in_default-AtTitles-5 c = search rules

pub returns-in_default-AtTitles-6 : goal.returns-in_default-AtTitles-6
returns-in_default-AtTitles-6 c = search rules

pub returns-in_default-AtTitles-7 : goal.returns-in_default-AtTitles-7
returns-in_default-AtTitles-7 c = search rules
