-- Remarks as JSON: an object for each.
use Rattle.std.specs.Prelude.{ℕ, List, map, codes, Option, Some, None}
use Rattle.serde_json.specs.Data.{Data, array, object, Members, no_members, put}
use Rattle.serde_json.specs.View.{items_of}
use Rattle.report_json.specs.Json.{text_data, count_data, option_data, type_data}
use Rattle.cwr_remarks.specs.declared.remark.Remark.{Remark}
use Rattle.cwr_remarks.specs.declared.remark.Remarked.{Remarked}
use Rattle.cwr_remarks.specs.declared.remark.Remarked.TheVariants.{ByteOrderMark, Utf16, Gzip, SecondFile, CwrVersion, SenderType, HighBytes, PastLayout, UnknownType, OnlyExcluded}
use Rattle.cwr_remarks.specs.Texts.{what_text}

-- what kind of remark it is, in a word or a few
abbrev pub kind_text : Remarked → List ℕ
kind_text ByteOrderMark = codes "byte order mark"
kind_text Utf16 = codes "UTF-16"
kind_text Gzip = codes "gzip"
kind_text SecondFile = codes "second file"
kind_text (CwrVersion version) = codes "CWR version"
kind_text (SenderType kind) = codes "sender type"
kind_text (HighBytes first count) = codes "high bytes"
kind_text (PastLayout size layout) = codes "past layout"
kind_text UnknownType = codes "unknown type"
kind_text OnlyExcluded = codes "only exclusions"

-- the position of the first high byte; `None` for any other remark
abbrev pub first_in : Remarked → Option ℕ
first_in (HighBytes first count) = Some first
first_in _ = None

-- the number of high bytes; `None` for any other remark
abbrev pub count_in : Remarked → Option ℕ
count_in (HighBytes first count) = Some count
count_in _ = None

-- the length of a line that is longer than its layout; `None` for any other remark
abbrev pub length_in : Remarked → Option ℕ
length_in (PastLayout size layout) = Some size
length_in _ = None

-- the length of that layout; `None` for any other remark
abbrev pub layout_in : Remarked → Option ℕ
layout_in (PastLayout size layout) = Some layout
layout_in _ = None

-- where the remark is: its line, and the record type
abbrev pub place_members : Remark → Members
place_members r = put (codes "record") (type_data r.rtype) (put (codes "line") (count_data r.line) no_members)

-- what is remarked, in words, with bytes of the file as they stand
abbrev pub word_members : Remarked → Members → Members
word_members what ms = put (codes "text") (text_data (what_text what)) (put (codes "kind") (text_data (kind_text what)) ms)

-- the numbers of a remark, which are null where it has none
abbrev pub number_members : Remarked → Members → Members
number_members what ms =
    put (codes "layout") (option_data (layout_in what))
    (put (codes "length") (option_data (length_in what))
    (put (codes "count") (option_data (count_in what))
    (put (codes "first") (option_data (first_in what)) ms)))

-- the object of a remark
abbrev pub remark_data : Remark → Data
remark_data r = object (number_members r.what (word_members r.what (place_members r)))

-- an array of the remarks
abbrev pub remarks_data : List Remark → Data
remarks_data remarks = array (items_of (map remark_data remarks))
