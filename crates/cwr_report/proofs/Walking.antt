-- One line more that a walk has passed.
use Rattle.std.proofs.Common.{◌≡◌, ◌∙◌, ℕ, zero, suc, ◌+◌, List, [], ◌∷◌, ◌++◌, drop, take, reverse, refl, ap, sym, subst, arith, IsTrue, Option, Some, None, Bor}
use Rattle.std.proofs.Math.Seq.{take-add}
use Rattle.std.proofs.lemmas.List.{append-nil, reverse-append}
use Rattle.std.specs.Iterator.{YieldsFirstRef}
use Rattle.cwr_report.specs.declared.walk.Walk.{Walk}
use Rattle.cwr_report.specs.declared.latest.Latest.{Latest}
use Rattle.cwr_report.specs.Latest.{latest_of}
use Rattle.cwr_report.specs.Walks.{lines_before, AreLeft, IsWalk}

drop_suc : (n : ℕ) (lines : List (List ℕ)) → drop (suc n) lines ≡ drop 1 (drop n lines)
drop_suc zero lines = refl
drop_suc (suc n) [] = refl
drop_suc (suc n) (line ∷ lines) = drop_suc n lines

drop_one : (n : ℕ) (lines : List (List ℕ)) → drop (n + 1) lines ≡ drop 1 (drop n lines)
drop_one n lines = let next : n + 1 ≡ suc n = omega arith in ap (λ (k : ℕ). drop k lines) next ∙ drop_suc n lines

pub rest_more : (n : ℕ) (lines : List (List ℕ)) (line : List ℕ) (more : List (List ℕ)) → drop n lines ≡ line ∷ more → drop (n + 1) lines ≡ more
rest_more n lines line more e = drop_one n lines ∙ ap (λ (ls : List (List ℕ)). drop 1 ls) e

pub rest_end : (n : ℕ) (lines : List (List ℕ)) → drop n lines ≡ [] → drop (n + 1) lines ≡ []
rest_end n lines e = drop_one n lines ∙ ap (λ (ls : List (List ℕ)). drop 1 ls) e

taken : (n : ℕ) (lines rest : List (List ℕ)) → drop n lines ≡ rest → take (n + 1) lines ≡ take n lines ++ take 1 rest
taken n lines rest e = take-add n 1 lines ∙ ap (λ (ls : List (List ℕ)). take n lines ++ take 1 ls) e

pub before_more : (n : ℕ) (lines : List (List ℕ)) (line : List ℕ) (more : List (List ℕ)) → drop n lines ≡ line ∷ more
    → lines_before lines (n + 1) ≡ line ∷ lines_before lines n
before_more n lines line more e =
    ap (λ (ls : List (List ℕ)). reverse ls) (taken n lines (line ∷ more) e) ∙ reverse-append (take n lines) (line ∷ [])

pub before_end : (n : ℕ) (lines : List (List ℕ)) → drop n lines ≡ [] → lines_before lines (n + 1) ≡ lines_before lines n
before_end n lines e = ap (λ (ls : List (List ℕ)). reverse ls) (taken n lines [] e ∙ append-nil (take n lines))

-- a step of the lines that were left
left_after : (next : Option (Bor (List ℕ))) (before after lines : List (List ℕ)) → lines ≡ before → YieldsFirstRef (λ l. l) before next after → AreLeft next after lines
left_after None before after lines e none = (e ∙ none.0, none.1)
left_after (Some line) before after lines e some = e ∙ some

-- the line was passed, and another one follows, or none
pub passed_more : (w : Walk) (lines : List (List ℕ)) (line : Bor (List ℕ)) (next : Option (Bor (List ℕ))) (rest : List (List ℕ)) (latest : Latest)
    → w.line ≡ Some line → YieldsFirstRef (λ l. l) w.rest next rest
    → (IsTrue w.keeps → (before : List (List ℕ)) → w.latest ≡ latest_of before → latest ≡ latest_of (line.now ∷ before))
    → IsWalk w lines w.passed → IsWalk (record { line = next; rest = rest; passed = w.passed + 1; keeps = w.keeps; latest = latest }) lines (w.passed + 1)
passed_more w lines line next rest latest is steps adds so_far =
    let here : drop w.passed lines ≡ line.now ∷ w.rest = subst (λ (o : Option (Bor (List ℕ))). AreLeft o w.rest (drop w.passed lines)) is so_far.left in
    let there : drop (w.passed + 1) lines ≡ w.rest = rest_more w.passed lines line.now w.rest here in
    record {
      left = left_after next w.rest rest (drop (w.passed + 1) lines) there steps;
      passed_is = refl;
      latest_is = λ keeps.
          adds keeps (lines_before lines w.passed) (so_far.latest_is keeps) ∙ ap latest_of (sym (before_more w.passed lines line.now w.rest here));
    }

-- there was no line to pass
pub passed_end : (w : Walk) (lines : List (List ℕ)) → w.line ≡ None → IsWalk w lines w.passed
    → IsWalk (record { line = w.line; rest = w.rest; passed = w.passed + 1; keeps = w.keeps; latest = w.latest }) lines (w.passed + 1)
passed_end w lines is so_far =
    let none : AreLeft None w.rest (drop w.passed lines) = subst (λ (o : Option (Bor (List ℕ))). AreLeft o w.rest (drop w.passed lines)) is so_far.left in
    record {
      left = subst (λ (o : Option (Bor (List ℕ))). AreLeft o w.rest (drop (w.passed + 1) lines)) (sym is) (rest_end w.passed lines none.0, none.1);
      passed_is = refl;
      latest_is = λ keeps. so_far.latest_is keeps ∙ ap latest_of (sym (before_end w.passed lines none.0));
    }
