use Rattle.std.proofs.Common.{ℕ, ◌<◌, refl, sym, subst}
use Rattle.cwr_field.specs.Number.{max_count}
use Rattle.cwr_rules.specs.Collected.{AreSmall, AreSmallSums, found_in, found_among, value_at}
use Rattle.cwr_rules.specs.Judging.{JudgeState, IsJudging}
use Rattle.cwr_rules.proofs.Lines.{few, small_sums, small_totals, one_more}
use Rattle.cwr_rules.proofs.transaction_judge.TransactionJudge.take.Goals as goal

pub take-requires-clause-room : goal.take-requires-clause-room
take-requires-clause-room g c =
    let P : JudgeState → Type 0 = λ s. s.count < max_count in
    let Q : JudgeState → Type 0 = λ s. AreSmallSums s.sums in
    let R : JudgeState → Type 0 = λ s. (q : ℕ) → AreSmall (value_at (found_in s.first_code (found_among s.codes)) q) in
    record {
      few = subst P (sym c.self.view_is) (few _ _ _ c.requires.open.2 c.requires.open.3);
      sums = subst Q (sym c.self.view_is) (small_sums _ _ _ c.requires.open.2 c.requires.open.3);
      collected = subst R (sym c.self.view_is) (small_totals _ _ _ c.requires.open.2 c.requires.open.3);
    }

pub returns : goal.returns
returns g c = λ kind lines h.
    let P : JudgeState → Type 0 = λ s. IsJudging s kind lines in
    let k = subst P (sym c.self.view_is) h in
    one_more _ _ kind lines c.args.line.now k refl (c.in_ok-take.ensures _ k.so_far)
