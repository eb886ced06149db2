-- One line more, as far as it includes a territory.
use Rattle.std.proofs.Common.{◌≡◌, ℕ, Bool, true, false, List, [], ◌∷◌, Option, Some, None, refl, sym, ap, ◌∙◌}
use Rattle.std.specs.Prelude.{find, option_map}
use Rattle.std.specs.List.{cons_option, list_any}
use Rattle.cwr_field.proofs.lemmas.Tests.{neither}
use Rattle.cwr_rules.specs.declared.added.Over.{Over}
use Rattle.cwr_rules.specs.declared.record.Record.{Record}
use Rattle.cwr_rules.specs.declared.totals.Totals.{Totals}
use Rattle.cwr_rules.specs.Added.{over_at, first_over}
use Rattle.cwr_rules.specs.Records.{record_of, records_of}
use Rattle.cwr_rules.specs.Totals.{included, codes_of, collection, is_over, is_over_somewhere}

-- the first code of some at which more than the whole is collected
abbrev pub over_among : List Record → List ℕ → Option Over
over_among records codes = option_map (over_at records) (find (λ code. is_over (collection code records)) codes)

codes_more : (lines rest : List (List ℕ)) (line : List ℕ) (o : Option ℕ) → lines ≡ line ∷ rest → included (record_of line) ≡ o → codes_of (records_of lines) ≡ cons_option o (codes_of (records_of rest))
codes_more lines rest line o step is =
    ap (λ (xs : List (List ℕ)). codes_of (records_of xs)) step ∙ ap (λ (x : Option ℕ). cons_option x (codes_of (records_of rest))) is

-- a record that includes no territory
pub no_code : (records : List Record) (lines rest : List (List ℕ)) (line : List ℕ) → lines ≡ line ∷ rest → included (record_of line) ≡ None
    → over_among records (codes_of (records_of lines)) ≡ first_over records → over_among records (codes_of (records_of rest)) ≡ first_over records
no_code records lines rest line step none so_far = ap (λ (codes : List ℕ). over_among records codes) (sym (codes_more lines rest line None step none)) ∙ so_far

-- one that includes a territory where it is not more than the whole
pub not_over : (records : List Record) (lines rest : List (List ℕ)) (line : List ℕ) (code : ℕ) (t : Totals) → lines ≡ line ∷ rest → included (record_of line) ≡ Some code
    → t ≡ collection code records → is_over t ≡ false
    → over_among records (codes_of (records_of lines)) ≡ first_over records → over_among records (codes_of (records_of rest)) ≡ first_over records
not_over records lines rest line code t step is t_is low so_far =
    let here : is_over (collection code records) ≡ false = ap is_over (sym t_is) ∙ low in
    let passed : over_among records (code ∷ codes_of (records_of rest)) ≡ over_among records (codes_of (records_of rest)) = rw here refl in
    sym passed ∙ ap (λ (codes : List ℕ). over_among records codes) (sym (codes_more lines rest line (Some code) step is)) ∙ so_far

-- one that includes a territory where it is more
pub found_over : (records : List Record) (lines rest : List (List ℕ)) (line : List ℕ) (code : ℕ) (t : Totals) → lines ≡ line ∷ rest → included (record_of line) ≡ Some code
    → t ≡ collection code records → is_over t ≡ true
    → over_among records (codes_of (records_of lines)) ≡ first_over records → Some (record { territory = code; totals = t }) ≡ first_over records
found_over records lines rest line code t step is t_is high so_far =
    let here : is_over (collection code records) ≡ true = ap is_over (sym t_is) ∙ high in
    let at : over_among records (code ∷ codes_of (records_of rest)) ≡ Some (over_at records code) = rw here refl in
    let over : Totals → Option Over = λ x. Some (record { territory = code; totals = x }) in
    ap over t_is ∙ sym at ∙ ap (λ (codes : List ℕ). over_among records codes) (sym (codes_more lines rest line (Some code) step is)) ∙ so_far

none_passes : (p : ℕ → Bool) (codes : List ℕ) → list_any p codes ≡ false → find p codes ≡ None
none_passes p [] e = refl
none_passes p (code ∷ codes) e =
    let two = neither (p code) (list_any p codes) e in
    rw two.0 (none_passes p codes two.1)

-- where it is so nowhere, it is first so nowhere
pub nowhere_over : (records : List Record) → is_over_somewhere records ≡ false → None ≡ first_over records
nowhere_over records low =
    let over : Option ℕ → Option Over = λ code. option_map (over_at records) code in
    ap over (sym (none_passes (λ code. is_over (collection code records)) (codes_of records) low))
