-- Remarks as JSON, part by part as they are written.
use Rattle.std.specs.Prelude.{ℕ, List, ◌++◌, codes}
use Rattle.std.specs.Fmt.{decimal}
use Rattle.serde_json.specs.Written.{compact_text}
use Rattle.report_json.specs.Json.{type_data}
use Rattle.report_json.specs.JsonText.{option_text, string_text}
use Rattle.cwr_remarks.specs.declared.remark.Remark.{Remark}
use Rattle.cwr_remarks.specs.declared.remark.Remarked.{Remarked}
use Rattle.cwr_remarks.specs.Json.{kind_text, first_in, count_in, length_in, layout_in}
use Rattle.cwr_remarks.specs.Texts.{what_text}

-- the beginning of a remark's object: its numbers, and its kind between them
abbrev pub amounts_text : Remarked → List ℕ
amounts_text what =
    codes "{\"count\":"
    ++ option_text (count_in what)
    ++ codes ",\"first\":"
    ++ option_text (first_in what)
    ++ codes ",\"kind\":"
    ++ string_text (kind_text what)
    ++ codes ",\"layout\":"
    ++ option_text (layout_in what)
    ++ codes ",\"length\":"
    ++ option_text (length_in what)

-- the text of a remark's object
abbrev pub remark_text : Remark → List ℕ
remark_text r =
    amounts_text r.what
    ++ codes ",\"line\":"
    ++ decimal r.line
    ++ codes ",\"record\":"
    ++ compact_text (type_data r.rtype)
    ++ codes ",\"text\":"
    ++ string_text (what_text r.what)
    ++ codes "}"
