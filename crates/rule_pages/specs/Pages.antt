-- The rules, and the texts of their pages.
use Rattle.std.specs.Prelude.{ℕ, List, [], ◌∷◌, ◌++◌, Option, codes}
use Rattle.std.specs.List.{find, flat_map}
use Rattle.std.specs.Str.{bytes_eq}
use Rattle.cwr_acknowledgement.specs.Messages.{message_text}
use Rattle.report_texts.specs.FileText.{file_rule_text}
use Rattle.rule_pages.specs.declared.rule.Rule.{Rule}
use Rattle.rule_pages.specs.declared.rule.Rule.TheVariants as rule

-- F1 to F12 of a file, J1 to J15 of a transaction, G1 to G4 of a register, in this order
abbrev pub every_rule : List Rule
every_rule =
    rule.F1
    ∷ rule.F2
    ∷ rule.F3
    ∷ rule.F4
    ∷ rule.F5
    ∷ rule.F6
    ∷ rule.F7
    ∷ rule.F8
    ∷ rule.F9
    ∷ rule.F10
    ∷ rule.F11
    ∷ rule.F12
    ∷ rule.J1
    ∷ rule.J2
    ∷ rule.J3
    ∷ rule.J4
    ∷ rule.J5
    ∷ rule.J6
    ∷ rule.J7
    ∷ rule.J8
    ∷ rule.J9
    ∷ rule.J10
    ∷ rule.J11
    ∷ rule.J12
    ∷ rule.J13
    ∷ rule.J14
    ∷ rule.J15
    ∷ rule.G1
    ∷ rule.G2
    ∷ rule.G3
    ∷ rule.G4
    ∷ []

-- the name of a rule: a letter and a number
abbrev pub name_of : Rule → List ℕ
name_of rule.F1 = codes "F1"
name_of rule.F2 = codes "F2"
name_of rule.F3 = codes "F3"
name_of rule.F4 = codes "F4"
name_of rule.F5 = codes "F5"
name_of rule.F6 = codes "F6"
name_of rule.F7 = codes "F7"
name_of rule.F8 = codes "F8"
name_of rule.F9 = codes "F9"
name_of rule.F10 = codes "F10"
name_of rule.F11 = codes "F11"
name_of rule.F12 = codes "F12"
name_of rule.J1 = codes "J1"
name_of rule.J2 = codes "J2"
name_of rule.J3 = codes "J3"
name_of rule.J4 = codes "J4"
name_of rule.J5 = codes "J5"
name_of rule.J6 = codes "J6"
name_of rule.J7 = codes "J7"
name_of rule.J8 = codes "J8"
name_of rule.J9 = codes "J9"
name_of rule.J10 = codes "J10"
name_of rule.J11 = codes "J11"
name_of rule.J12 = codes "J12"
name_of rule.J13 = codes "J13"
name_of rule.J14 = codes "J14"
name_of rule.J15 = codes "J15"
name_of rule.G1 = codes "G1"
name_of rule.G2 = codes "G2"
name_of rule.G3 = codes "G3"
name_of rule.G4 = codes "G4"

-- the rule with this name; `None` where there is none
abbrev pub rule_named : List ℕ → Option Rule
rule_named name = find (λ r. bytes_eq (name_of r) name) every_rule

-- what a fault of a rule is called: of F1 to F12 as a report names it, of J1 to J15 the text of its MSG record
abbrev pub title_of : Rule → List ℕ
title_of rule.F1 = file_rule_text 1
title_of rule.F2 = file_rule_text 2
title_of rule.F3 = file_rule_text 3
title_of rule.F4 = file_rule_text 4
title_of rule.F5 = file_rule_text 5
title_of rule.F6 = file_rule_text 6
title_of rule.F7 = file_rule_text 7
title_of rule.F8 = file_rule_text 8
title_of rule.F9 = file_rule_text 9
title_of rule.F10 = file_rule_text 10
title_of rule.F11 = file_rule_text 11
title_of rule.F12 = file_rule_text 12
title_of rule.J1 = message_text 1
title_of rule.J2 = message_text 2
title_of rule.J3 = message_text 3
title_of rule.J4 = message_text 4
title_of rule.J5 = message_text 5
title_of rule.J6 = message_text 6
title_of rule.J7 = message_text 7
title_of rule.J8 = message_text 8
title_of rule.J9 = message_text 9
title_of rule.J10 = message_text 10
title_of rule.J11 = message_text 11
title_of rule.J12 = message_text 12
title_of rule.J13 = message_text 13
title_of rule.J14 = message_text 14
title_of rule.J15 = message_text 15
title_of rule.G1 = codes "a line is not of the register's form"
title_of rule.G2 = codes "entries are not as line 1 counts them"
title_of rule.G3 = codes "a decision is not that of the registry"
title_of rule.G4 = codes "more entries than the limit"

-- what a rule requires
abbrev pub requirement_of : Rule → List ℕ
requirement_of rule.F1 = codes "line 1 is the HDR of the file"
requirement_of rule.F2 = codes "no line up to TRL has a byte below 32"
requirement_of rule.F3 = codes "each line begins with three capitals, and the dates and the time of HDR are real"
requirement_of rule.F4 = codes "HDR, then groups from GRH to GRT, then TRL; in a group each work is a header and its details"
requirement_of rule.F5 = codes "each GRH names NWR or REV"
requirement_of rule.F6 = codes "each header has the type that its GRH names"
requirement_of rule.F7 = codes "the GRH of a file have the group IDs 00001, 00002, .., and each GRT that of its GRH"
requirement_of rule.F8 = codes "transactions run from 00000000 in each group, records from 00000000 in each transaction"
requirement_of rule.F9 = codes "GRT has the number of transactions of its group, and of its records, GRH and GRT included"
requirement_of rule.F10 = codes "TRL has the numbers of groups, transactions and records of the file, HDR and TRL included"
requirement_of rule.F11 = codes "the file ends with TRL; after it only blanks, bytes 26 and line ends"
requirement_of rule.F12 = codes "a line up to TRL has at most 4,096 bytes, its line end not counted"
requirement_of rule.J1 = codes "blocks of SPU and its SPT, OPU, SWR and its SWT and PWR, OWR and its PWR, in any order; after them ALT and XRF"
requirement_of rule.J2 = codes "the title is not blank"
requirement_of rule.J3 = codes "the submitter work number is not blank"
requirement_of rule.J4 = codes "the ISWC is T, nine digits and their check digit, or blank"
requirement_of rule.J5 = codes "the copyright date is a date, blank or 00000000, and the duration a time of a day or blank"
requirement_of rule.J6 = codes "a share is five digits from 00000 to 10000, in hundredths of one per cent, or five blanks"
requirement_of rule.J7 = codes "each SPU and SWR has an interested party number"
requirement_of rule.J8 = codes "an SPT has the party of the last SPU before it, an SWT that of the last SWR"
requirement_of rule.J9 = codes "a PWR of an SWR names an SPU or OPU of the transaction, or none"
requirement_of rule.J10 = codes "there is an SWR or OWR"
requirement_of rule.J11 = codes "the PR ownership shares of SPU, OPU, SWR and OWR add up to 0, or from 99.94 to 100.06 per cent"
requirement_of rule.J12 = codes "the MR ownership shares of SPU, OPU, SWR and OWR add up to 0, or from 99.94 to 100.06 per cent"
requirement_of rule.J13 = codes "the SR ownership shares of SPU, OPU, SWR and OWR add up to 0, or from 99.94 to 100.06 per cent"
requirement_of rule.J14 = codes "the indicator of an SPT or SWT is I or E, and its TIS code one to four digits"
requirement_of rule.J15 = codes "for each TIS code and each right, the collection shares with the indicator I add up to at most 100.06 per cent"
requirement_of rule.G1 = codes "a line has its widths, digits, codes and LF, and is that of a transaction"
requirement_of rule.G2 = codes "entries are numbered from 00000001, line 1 says how many there are, and nothing follows"
requirement_of rule.G3 = codes "status, work and version are the decision on the entry's transaction, after the entries before it"
requirement_of rule.G4 = codes "line 1 counts no more entries than the reader takes"

-- an example of what breaks a rule
abbrev pub violation_of : Rule → List ℕ
violation_of rule.F1 = codes "a byte order mark before HDR"
violation_of rule.F2 = codes "a TAB in a title"
violation_of rule.F3 = codes "creation date 20240230"
violation_of rule.F4 = codes "NWR directly after HDR: no GRH"
violation_of rule.F5 = codes "GRHAGR"
violation_of rule.F6 = codes "REV in a group of NWR"
violation_of rule.F7 = codes "the first group is 00002"
violation_of rule.F8 = codes "the first detail has record sequence 00000002"
violation_of rule.F9 = codes "2 records, where there are 4"
violation_of rule.F10 = codes "7 records, where there are 6"
violation_of rule.F11 = codes "the file ends after GRT"
violation_of rule.F12 = codes "4,097 bytes, most of them blanks"
violation_of rule.J1 = codes "an ALT before an SWR"
violation_of rule.J2 = codes "60 blanks at byte 20"
violation_of rule.J3 = codes "14 blanks at byte 82"
violation_of rule.J4 = codes "T0345246802, where the check digit is 1"
violation_of rule.J5 = codes "duration 006100: 61 minutes"
violation_of rule.J6 = codes "10001, which is 100.01 per cent"
violation_of rule.J7 = codes "9 blanks at byte 20 of an SWR"
violation_of rule.J8 = codes "SWT of 000000009 after the SWR of 000000001"
violation_of rule.J9 = codes "publisher 000000009, where the SPU is of 000000002"
violation_of rule.J10 = codes "a header and one OPU"
violation_of rule.J11 = codes "05007 and 05000: 100.07 per cent"
violation_of rule.J12 = codes "09993 alone: 99.93 per cent"
violation_of rule.J13 = codes "10000 and 00007: 100.07 per cent"
violation_of rule.J14 = codes "indicator X"
violation_of rule.J15 = codes "50.03 and 50.04 per cent for TIS 840"
violation_of rule.G1 = codes "CR LF at the end of a line"
violation_of rule.G2 = codes "a byte after REG00000000 and its LF"
violation_of rule.G3 = codes "DU where the key has no row"
violation_of rule.G4 = codes "REG00000003 read with the limit 2"

-- how to fix that
abbrev pub fix_of : Rule → List ℕ
fix_of rule.F1 = codes "write the file without one, as plain bytes"
fix_of rule.F2 = codes "replace each by one blank; look for line ends inside fields"
fix_of rule.F3 = codes "capitals in bytes 1 to 3; real dates; no empty lines before TRL"
fix_of rule.F4 = codes "one GRH before and one GRT after each group; a header before its details"
fix_of rule.F5 = codes "send agreements and other transactions in files of their own, to where they are taken"
fix_of rule.F6 = codes "one group for NWR, one for REV"
fix_of rule.F7 = codes "number the groups again in each file"
fix_of rule.F8 = codes "number them again after removing a record"
fix_of rule.F9 = codes "count GRH and GRT in"
fix_of rule.F10 = codes "count HDR and TRL in"
fix_of rule.F11 = codes "send the file whole: it was cut, or two files were joined"
fix_of rule.F12 = codes "no blanks past the layout; check that line ends are there"
fix_of rule.J1 = codes "blocks of publishers and writers first, then ALT and XRF"
fix_of rule.J2 = codes "give it at byte 20"
fix_of rule.J3 = codes "give it at byte 82: with the submitter it is the key of the work"
fix_of rule.J4 = codes "T, nine digits, check digit, without dots and dashes; or leave it blank"
fix_of rule.J5 = codes "YYYYMMDD and HHMMSS, 010100 here; or blank"
fix_of rule.J6 = codes "five digits up to 10000, or five blanks; leading zeros"
fix_of rule.J7 = codes "give each SPU and SWR its number"
fix_of rule.J8 = codes "repeat the party of the SPU before an SPT, of the SWR before an SWT, byte for byte"
fix_of rule.J9 = codes "add its SPU or OPU, or correct the number"
fix_of rule.J10 = codes "add at least one SWR or OWR"
fix_of rule.J11 = codes "correct the shares, first those that J6 names: these count as nothing"
fix_of rule.J12 = codes "correct the shares, first those that J6 names: these count as nothing"
fix_of rule.J13 = codes "correct the shares, first those that J6 names: these count as nothing"
fix_of rule.J14 = codes "I or E, and a TIS code of digits"
fix_of rule.J15 = codes "find what is included twice in that territory; 0840 and 840 are one"
fix_of rule.G1 = codes "copy the register as bytes, as it was delivered"
fix_of rule.G2 = codes "take the register whole: lines were left out, added or moved"
fix_of rule.G3 = codes "compare with an older copy: the entry, or one before it, was changed"
fix_of rule.G4 = codes "read it with a higher limit; in purvilgo it is 99,999,999"

-- a line of a page
abbrev pub line_text : List ℕ → List ℕ → List ℕ
line_text label text = codes "  " ++ label ++ codes ": " ++ text ++ codes "\n"

-- the first line of a page: a name, and what it is called
abbrev pub heading_text : List ℕ → List ℕ → List ℕ
heading_text name title = name ++ codes " " ++ title ++ codes "\n"

-- a rule's page: four lines, each with LF at its end
abbrev pub page_text : Rule → List ℕ
page_text r =
    heading_text (name_of r) (title_of r)
    ++ line_text (codes "requires") (requirement_of r)
    ++ line_text (codes "broken by") (violation_of r)
    ++ line_text (codes "fixed by") (fix_of r)

-- the pages of rules, in order
abbrev pub pages_text : List Rule → List ℕ
pages_text rules = flat_map page_text rules
