use Rattle.std.proofs.Common.{◌∙◌, ap, sym, refl}
use Rattle.std.specs.Prelude.{Some, []}
use Rattle.work_registry.specs.Numbers.{max_entries}
use Rattle.c_values.specs.FileBytesValue.{FileBytesValue}
use Rattle.c_values.proofs.lemmas.Answering.{answered}
use Rattle.purvilgo_c.proofs.one_file.purvilgo_acknowledge.Goals as goal

pub returns-clause-answered : goal.returns-clause-answered
returns-clause-answered c some =
    let stamped = sym c.stamp_of.ensures ∙ c.in-Some.is in
    let left = ap Some (ap (λ (f : FileBytesValue). f.left) c.new-reader.ensures) in
    let taken = ap Some c.new-writer.ensures.empty in
    let text = ap Some (sym c.bytes.ensures) in
    let worked = c.acknowledge-told.ensures.alone in
    record {
      text = c.bytes.result.now;
      holds = record {
        parts = _;
        stamped = stamped;
        made = worked.entries;
        answered = answered _ c.args.file.now c.numbers_of.result c.acknowledge-told.result c.bytes.result.now 1 _ (record { history = []; limit = max_entries }) c.acknowledge-told.ensures.kept
            worked.entries c.numbers_of.ensures left taken text refl refl refl worked.replayed worked.grown worked.limit refl worked.account;
      };
      given = c.hand_out.ensures;
    }
