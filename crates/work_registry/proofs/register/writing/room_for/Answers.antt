use Rattle.std.proofs.Common.{◌∙◌, ℕ, length, ap, arith}
use Rattle.std.proofs.lemmas.List.Sums.{sum_by_more}
use Rattle.cwr_call.specs.CallValue.{CallValue}
use Rattle.work_registry.specs.EntryValue.{EntryValue}
use Rattle.work_registry.proofs.RegisterFits.{faults_few}
use Rattle.std.proofs.lemmas.Grind.{common_steps}
use Rattle.work_registry.proofs.register.writing.room_for.Goals as goal

pub returns : goal.returns
returns g c = grind (arith, common_steps)

pub loop-entry-preserved : goal.loop-entry-preserved
loop-entry-preserved g c =
    let faults_of : EntryValue → ℕ = λ e. length e.call.faults in
    let size = ap length (c.faults.ensures.value ∙ ap (λ (x : CallValue). x.faults) c.call.ensures) ∙ ap faults_of c.entry-item.is in
    let more = sum_by_more faults_of c.args.entries.now c.loop-entry.entry-index c.entry-item.result c.loop-entry-test.true in
    record {
      sum = omega (arith, c.loop-entry.invariant.sum, more, size);
      few = omega (arith, c.loop-entry.invariant.few, faults_few c.faults.result.now c.faults.ensures.faults);
    }
