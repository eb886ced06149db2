use Rattle.std.proofs.Common.{◌∙◌, sym}
use Rattle.cwr_grammar.proofs.NextDetail.{header_line_clear}
use Rattle.cwr_grammar.proofs.file_reader.FileReader.take_header.Goals as goal

pub take_clear-requires-clause-clear : goal.take_clear-requires-clause-clear
take_clear-requires-clause-clear g c = λ before counted.
    let r = c.requires.next.4.goes c.requires.goes in
    header_line_clear before c.args.line.now _ c.args.kind counted c.requires.goes (sym r.visiting.is.counted ∙ c.requires.opened) c.requires.kind c.requires.role c.requires.plain
