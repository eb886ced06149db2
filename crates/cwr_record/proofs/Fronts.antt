-- What stood in front of a refused write stands there still.
use Rattle.std.proofs.Common.{◌≡◌, ℕ, ◌≤◌, List, ◌++◌, length, take, arith, sym}
use Rattle.std.proofs.lemmas.List.{take-take, take_at, length-append}

pub front_stays : (grown so_far old more : List ℕ) (m k : ℕ) → take k grown ≡ so_far → so_far ≡ old ++ more → m ≡ length old → k ≡ length so_far
    → take m grown ≡ old
front_stays grown so_far old more m k front is mark end =
    let le : m ≤ k = rw (end, is, mark, length-append old more) (omega arith) in
    rw (← take-take m k grown le, front, is) (take_at old more m (sym mark))
