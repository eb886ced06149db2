use Rattle.std.proofs.Common.{◌≡◌, ◌∙◌, Bool, true, false, refl, sym, ap}
use Rattle.cwr_grammar.specs.declared.role.Role.TheVariants.{FileHeader}
use Rattle.cwr_grammar.proofs.HeaderLine.{header_readable}
use Rattle.cwr_grammar.proofs.file_reader.keep_header.Goals as goal

is_valid : (valid : Bool) → (valid ≡ false → ⊥) → valid ≡ true
is_valid true h = refl
is_valid false h = absurd (h refl)

pub unreachable-requires : goal.unreachable-requires
unreachable-requires c =
    let valid = is_valid c.in-FileHeader.field-0 (λ e. c.requires.valid (c.in-FileHeader.is ∙ ap FileHeader e)) in
    header_readable c.args.line.now c.in_default-read_header.field-0 (sym c.requires.read ∙ c.in-FileHeader.is ∙ ap FileHeader valid) c.in_default-read_header.ensures.fault
