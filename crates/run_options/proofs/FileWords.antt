-- Words that name files, and words of a fixed width.
use Rattle.std.proofs.Common.{◌≡◌, ◌∙◌, ℕ, Bool, true, false, List, ◌++◌, length, replicate, refl, sym, ap, bytes_eq, Option, arith}
use Rattle.std.specs.Prelude.{◌&&◌, ◌==◌, is_some}
use Rattle.std.proofs.Math.Seq.{take-append_seam}
use Rattle.std.proofs.lemmas.Bool.Decides.{same_from_decides, nat_tests}
use Rattle.std.proofs.lemmas.List.{append_cancel_right}
use Rattle.std.proofs.lemmas.Slice.Eq.{bytes_eq-Decides}
use Rattle.cwr_field.specs.Layout.{field}

-- a field that a word fills is the word
word_field : (word : List ℕ) (n : ℕ) → length word ≡ n → field word 1 n ≡ word
word_field word n e = rw (sym e) (take-append_seam word (replicate (length word) 32))

-- a word of this width names something where its field does
pub named_by : (read : List ℕ → Option ℕ) (word cut : List ℕ) (n : ℕ) (found : Option ℕ) (result : Bool) → length word ≡ n
    → cut ≡ field word 1 n → found ≡ read cut → result ≡ is_some found → result ≡ ((length word == n) && is_some (read word))
named_by read word cut n found result e is f r =
    let same : (length word == n) ≡ true = grind (arith, nat_tests) in
    rw same (r ∙ ap (λ (o : Option ℕ). is_some o) (f ∙ ap read (is ∙ word_field word n e)))

-- a name is the file's with this end where what stands before the end is the file's
pub named_with : (end file other front : List ℕ) → other ≡ front ++ end → bytes_eq front file ≡ bytes_eq other (file ++ end)
named_with end file other front e =
    let same = bytes_eq-Decides front file in
    let joined = bytes_eq-Decides other (file ++ end) in
    same_from_decides (bytes_eq front file) (bytes_eq other (file ++ end)) same
    (λ h. append_cancel_right front file end (sym e ∙ joined.0 h), λ h. joined.1 (e ∙ ap (λ (x : List ℕ). x ++ end) h))

pub named_without : (end file other : List ℕ) → ((front : List ℕ) → other ≡ front ++ end → ⊥) → bytes_eq other (file ++ end) ≡ false
named_without end file other none = by (bytes_eq other (file ++ end)) refl
  where
    by : (b : Bool) → bytes_eq other (file ++ end) ≡ b → bytes_eq other (file ++ end) ≡ false
    by true h = absurd (none file ((bytes_eq-Decides other (file ++ end)).0 h))
    by false h = h
