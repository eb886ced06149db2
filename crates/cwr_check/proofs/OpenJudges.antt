-- What judges the open transaction.
use Rattle.std.proofs.Common.{◌≡◌, Bool, true, false, ℕ, List, [], ◌∷◌, ◌++◌, Some, None, refl, sym, subst}
use Rattle.std.specs.Prelude.{if◌then◌else◌}
use Rattle.cwr_grammar.specs.RawParts.{RawParts}
use Rattle.cwr_grammar.specs.Visiting.{with_line}
use Rattle.cwr_rules.specs.Judging.{JudgeState, IsJudging}
use Rattle.cwr_check.specs.declared.check_lines.TransactionPlace.{TransactionPlace}
use Rattle.cwr_check.specs.ShortReport.{IsOpenAt, IsJudgedAt}

-- where a transaction is open, it is judged
pub is_judged : (place : TransactionPlace) (open_now : Bool) (judge : JudgeState) (t : RawParts) → IsOpenAt place (if open_now then Some judge else None) (Some t)
    → (open_now ≡ true) × IsJudgedAt place judge t
is_judged place true judge t h = (refl, h)
is_judged place false judge t h = absurd h

-- one line more of it
pub goes_on : (place : TransactionPlace) (open_now : Bool) (judge next : JudgeState) (t : RawParts) (line : List ℕ) → open_now ≡ true → IsJudgedAt place judge t
    → IsJudging next t.kind (t.lines ++ line ∷ []) → IsOpenAt place (if open_now then Some next else None) (Some (with_line line t))
goes_on place open_now judge next t line is h judging =
    let P : Bool → Type 0 = λ b. IsOpenAt place (if b then Some next else None) (Some (with_line line t)) in
    let p = h.place_is in
    subst P (sym is) (record {
      place_is = record { group_is = p.group_is; sequence_is = p.sequence_is; kind_is = p.kind_is; group_fits = p.group_fits; sequence_fits = p.sequence_fits };
      judging = judging;
    })
