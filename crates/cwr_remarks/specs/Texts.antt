-- The text of remarks: a line for each, with LF at its end.
use Rattle.std.specs.Prelude.{ℕ, Bool, true, false, List, [], ◌++◌, codes, Option, Some, None}
use Rattle.std.specs.List.{flat_map}
use Rattle.std.specs.Fmt.{decimal}
use Rattle.report_texts.specs.Shown.{shown_text, bytes_as_printed}
use Rattle.cwr_remarks.specs.declared.remark.Remark.{Remark}
use Rattle.cwr_remarks.specs.declared.remark.Remarked.{Remarked}
use Rattle.cwr_remarks.specs.declared.remark.Remarked.TheVariants.{ByteOrderMark, Utf16, Gzip, SecondFile, CwrVersion, SenderType, HighBytes, PastLayout, UnknownType, OnlyExcluded}

-- the text on the high bytes of a line
abbrev pub high_text : ℕ → ℕ → List ℕ
high_text first count =
    codes "bytes above 126: "
    ++ decimal count
    ++ codes ", the first at position "
    ++ decimal first
    ++ codes "; an accented letter has two bytes in UTF-8, and shifts the rest of its line by one where its field is filled up in letters"

-- the text on a line that is longer than its layout
abbrev pub past_text : ℕ → ℕ → List ℕ
past_text size layout =
    codes "length "
    ++ decimal size
    ++ codes ", and the layout ends at "
    ++ decimal layout
    ++ codes "; what stands after that is not read"

-- the text on the version of HDR
abbrev pub version_text : List ℕ → List ℕ
version_text told = codes "CWR version \"" ++ told ++ codes "\"; the file is read as CWR 2.2"

-- the text on the sender type of HDR
abbrev pub sender_text : List ℕ → List ℕ
sender_text told =
    codes "sender type \""
    ++ told
    ++ codes "\"; CWR has PB, AA, SO or WR there, or the first two digits of a number of more than nine"

-- what is remarked; `shows` says whether bytes of the file are escaped where they are not printable
abbrev pub what_as : Bool → Remarked → List ℕ
what_as shows ByteOrderMark = codes "the file begins with a byte order mark of UTF-8, which is no part of CWR; write it without one"
what_as shows Utf16 = codes "the file is UTF-16, which has two bytes for a letter; write it in ASCII, with one byte for a letter"
what_as shows Gzip = codes "the file is compressed by gzip; unpack it, and send what is in it"
what_as shows SecondFile = codes "a second file begins here; send each file by itself"
what_as shows (CwrVersion version) = version_text (bytes_as_printed shows version)
what_as shows (SenderType kind) = sender_text (bytes_as_printed shows kind)
what_as shows (HighBytes first count) = high_text first count
what_as shows (PastLayout size layout) = past_text size layout
what_as shows UnknownType = codes "CWR 2.2 has no record of this type; it is carried, and nothing more of it is read"
what_as shows OnlyExcluded = codes "all its territories are exclusions, and none is an inclusion: it collects nowhere"

-- what is remarked, with bytes of the file as they stand
abbrev pub what_text : Remarked → List ℕ
what_text what = what_as false what

-- the beginning of a remark's line, with the number of the line
abbrev pub line_text : ℕ → List ℕ
line_text number = codes "remark, line " ++ decimal number ++ codes ": "

-- the record type and a colon, where the remark is on a record
abbrev pub type_text : Option (List ℕ) → List ℕ
type_text None = []
type_text (Some rtype) = shown_text rtype ++ codes ": "

-- the line of a remark: the line, the record type, and what is remarked
abbrev pub remark_text : Remark → List ℕ
remark_text r = line_text r.line ++ type_text r.rtype ++ what_as true r.what ++ codes "\n"

-- the lines of the remarks, in order
abbrev pub remarks_text : List Remark → List ℕ
remarks_text remarks = flat_map remark_text remarks
