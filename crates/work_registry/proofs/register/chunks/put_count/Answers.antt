use Rattle.std.proofs.Common.{◌∙◌, ◌++◌, ap}
use Rattle.cwr_record.specs.Lines.{line_of}
use Rattle.work_registry.specs.RegisterLine.{entry_count}
use Rattle.work_registry.specs.Register.{entry_lines}
use Rattle.work_registry.proofs.RegisterInChunks.{count_put}
use Rattle.work_registry.proofs.register.chunks.put_count.Goals as goal

pub returns-clause-text : goal.returns-clause-text
returns-clause-text g c = λ index entries.
    count_put c.args.held.now.items c.append.new.held.items c.append-2.new.held.items (line_of entry_count c.args.count) (entry_lines index entries)
    (c.append.ensures.text ∙ ap (λ line. c.args.held.now.items ++ line) (c.bytes.ensures.line ∙ c.first_line.ensures)) c.append-2.ensures.text
