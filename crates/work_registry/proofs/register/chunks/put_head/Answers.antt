use Rattle.std.proofs.Common.{◌≡◌, ◌∙◌, ◌+◌, ◌++◌, ap}
use Rattle.cwr_call.specs.CallValue.{CallValue}
use Rattle.cwr_record.specs.Lines.{line_of}
use Rattle.work_registry.specs.declared.register.head.Head.{Head}
use Rattle.work_registry.specs.RegisterLine.{head, head_of}
use Rattle.work_registry.specs.Register.{line_for, entry_lines}
use Rattle.work_registry.proofs.RegisterFits.{head_fits, faults_fit}
use Rattle.work_registry.proofs.RegisterFaultTexts.{faults_text}
use Rattle.work_registry.proofs.RegisterInChunks.{head_put}
use Rattle.work_registry.proofs.register.chunks.put_head.Goals as goal

pub head_line-requires : goal.head_line-requires
head_line-requires g c = rw c.head_for.ensures.value (head_fits c.args.index c.args.entry.now c.requires.index c.requires.fits c.head_for.ensures.lawful)

pub returns-clause-text : goal.returns-clause-text
returns-clause-text g c = λ entries.
    let same : c.faults.result.now ≡ c.args.entry.now.call.faults = c.faults.ensures.value ∙ ap (λ (x : CallValue). x.faults) c.call.ensures in
    head_put c.args.held.now.items c.append.new.held.items (line_of head (head_of (line_for c.args.index c.args.entry.now.call c.args.entry.now.reply)))
    (faults_text c.args.entry.now.call.faults) (faults_text c.faults.result.now) (entry_lines (c.args.index + 1) entries)
    (c.append.ensures.text ∙ ap (λ line. c.args.held.now.items ++ line) (c.bytes.ensures.line ∙ c.head_line.ensures ∙ ap (λ (x : Head). line_of head x) c.head_for.ensures.value))
    (ap faults_text same)

pub returns-clause-fits : goal.returns-clause-fits
returns-clause-fits g c = faults_fit c.faults.result.now c.faults.ensures.faults
