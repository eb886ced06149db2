-- What a check writes, piece by piece.
use Rattle.std.proofs.Common.{◌≡◌, ◌∙◌, ℕ, ◌+◌, ◌-◌, ◌<◌, ◌≤◌, Bool, true, false, not, cond, List, [], ◌∷◌, ◌++◌, length, drop, replicate, get_or, ap, sym, refl, arith, length-append, append_assoc}
use Rattle.std.specs.Prelude.{codes, ◌==◌}
use Rattle.std.specs.List.{flat_map}
use Rattle.std.proofs.lemmas.List.{drop_more}
use Rattle.std.proofs.lemmas.Grind.{common_steps, flat_map-append}
use Rattle.std.proofs.lemmas.Bool.Decides.{nat_tests}
use Rattle.std.proofs.lemmas.List.{append-nil}
use Rattle.std.proofs.lemmas.List.Sums.{sum_by_push}
use Rattle.cwr_field.specs.Number.{number_text}
use Rattle.cwr_field.specs.Layout.{padded}
use Rattle.cwr_record.specs.Kinds.{work_kind_code}
use Rattle.cwr_record.specs.declared.works.WorkKind.{WorkKind}
use Rattle.cwr_record.specs.declared.works.WorkKind.TheVariants.{Nwr, Rev}
use Rattle.cwr_record.proofs.LineTexts.{whole}
use Rattle.cwr_grammar.specs.File.{File, IsFile}
use Rattle.cwr_grammar.specs.RawParts.{RawParts, raws_of}
use Rattle.cwr_call.specs.declared.transaction_fault.Fault.{Fault}
use Rattle.cwr_call.specs.Lawful.{is_none_found}
use Rattle.cwr_check.specs.CheckText.{fault_text, verdict_text, place_text, transaction_line, faults_in, has_faults, faulty_count, check_lines, submitter_of, IsCheckOfFile}
use Rattle.cwr_check.specs.ShortReport.{IsTold}
use Rattle.cwr_field.proofs.lemmas.Pieces.{moved}

pub fault_more : (faults : List Fault) (i : ℕ) (d : Fault) (out new total : List ℕ) → i < length faults
    → new ≡ out ++ fault_text (get_or faults i d)
    → out ++ flat_map fault_text (drop i faults) ≡ total
    → new ++ flat_map fault_text (drop (i + 1) faults) ≡ total
fault_more faults i d out new total lt wrote so_far =
    moved out new (fault_text (get_or faults i d)) _ (flat_map fault_text (drop (i + 1) faults)) total wrote refl
    (ap (λ (fs : List Fault). out ++ flat_map fault_text fs) (sym (drop_more faults i d lt)) ∙ so_far)

-- a kind, and a blank after it
kind_padded : (kind : WorkKind) → padded 4 (work_kind_code kind) ≡ work_kind_code kind ++ codes " "
kind_padded Nwr = refl
kind_padded Rev = refl

-- a text as wide as its column
filled_whole : (width : ℕ) (text : List ℕ) → width ≡ length text → padded width text ≡ text
filled_whole width text is =
    let none : width - length text ≡ 0 = omega (arith, is) in
    ap (λ (n : ℕ). text ++ replicate n 32) none ∙ append-nil text

-- group id, transaction sequence and kind, a blank after each, and a text behind them
pub place_written : (t : RawParts) (out new bytes line empty behind : List ℕ) (width : ℕ) → new ≡ out ++ bytes → bytes ≡ line → width ≡ length behind
    → line ++ [] ≡ empty ++ (number_text 5 t.group ++ (codes " " ++ (number_text 8 t.sequence ++ (codes " " ++ (padded 4 (work_kind_code t.kind) ++ (padded width behind ++ []))))))
    → empty ≡ [] → new ≡ out ++ place_text t ++ behind
unfolding place_text
place_written t out new bytes line empty behind width wrote is wide fields none =
    let x = number_text 5 t.group in
    let y = number_text 8 t.sequence in
    let z = work_kind_code t.kind in
    let blank = codes " " in
    let together : x ++ (blank ++ (y ++ (blank ++ (padded 4 z ++ (padded width behind ++ []))))) ≡ (x ++ blank ++ y ++ blank ++ z ++ blank) ++ behind =
    ap (λ (k : List ℕ). x ++ (blank ++ (y ++ (blank ++ (k ++ (padded width behind ++ [])))))) (kind_padded t.kind)
    ∙ ap (λ (k : List ℕ). x ++ (blank ++ (y ++ (blank ++ ((z ++ blank) ++ (k ++ [])))))) (filled_whole width behind wide)
    ∙ grind (arith, common_steps) in
    whole out new bytes line empty _ wrote is fields none ∙ ap (λ (xs : List ℕ). out ++ xs) together ∙ sym (append_assoc out (x ++ blank ++ y ++ blank ++ z ++ blank) behind)

-- the line of a transaction without a fault
pub clean_line : (t : RawParts) (faults : List Fault) (out new : List ℕ) → (length faults == 0) ≡ true → new ≡ out ++ place_text t ++ codes "ok\n"
    → new ≡ out ++ place_text t ++ verdict_text faults ++ 10 ∷ []
clean_line t [] out new none wrote = wrote ∙ sym (append_assoc (out ++ place_text t) (codes "ok") (10 ∷ []))
clean_line t (f ∷ fs) out new none wrote = let empty : length (f ∷ fs) ≡ 0 = grind (arith, nat_tests) in absurd (omega (arith, empty))

-- the line of one that has faults
pub faulty_line : (t : RawParts) (faults : List Fault) (out a b c : List ℕ) → (length faults == 0) ≡ false → a ≡ out ++ place_text t ++ codes "rejected"
    → b ≡ a ++ flat_map fault_text faults → c ≡ b ++ 10 ∷ [] → c ≡ out ++ place_text t ++ verdict_text faults ++ 10 ∷ []
faulty_line t [] out a b c some p q r = absurd cc
faulty_line t (f ∷ fs) out a b c some p q r =
    r ∙ ap (λ (xs : List ℕ). xs ++ 10 ∷ []) (q ∙ ap (λ (xs : List ℕ). xs ++ flat_map fault_text (f ∷ fs)) p ∙ append_assoc (out ++ place_text t) (codes "rejected") (flat_map fault_text (f ∷ fs)))

text_more : (submitter text next : List ℕ) (whole : List RawParts) (t : RawParts) (faults : List Fault) → faults ≡ faults_in submitter t → text ≡ flat_map (transaction_line submitter) whole
    → next ≡ text ++ place_text t ++ verdict_text faults ++ 10 ∷ [] → next ≡ flat_map (transaction_line submitter) (whole ++ t ∷ [])
text_more submitter text next whole t faults is so_far wrote =
    let all : flat_map (transaction_line submitter) (t ∷ []) ≡ transaction_line submitter t = append-nil (transaction_line submitter t) in
    let line = transaction_line submitter in
    let place = place_text t in
    let verdict = verdict_text faults in
    wrote ∙ append_assoc (text ++ place) verdict (10 ∷ []) ∙ append_assoc text place (verdict ++ 10 ∷ [])
    ∙ ap (λ (xs : List ℕ). text ++ xs) (sym (append_assoc place verdict (10 ∷ [])))
    ∙ ap (λ (fs : List Fault). text ++ (place ++ verdict_text fs ++ 10 ∷ [])) is
    ∙ ap (λ (xs : List ℕ). xs ++ line t) so_far ∙ ap (λ (xs : List ℕ). flat_map line whole ++ xs) (sym all) ∙ sym (flat_map-append line whole (t ∷ []))

pub none_more : (faults : List Fault) (n : ℕ) → (length faults == 0) ≡ true → n + 0 ≡ n + cond (not (is_none_found faults)) 1 0
none_more [] n e = refl
none_more (f ∷ fs) n e = let none : length (f ∷ fs) ≡ 0 = grind (arith, nat_tests) in absurd (omega (arith, none))

pub one_more : (faults : List Fault) (n : ℕ) → (length faults == 0) ≡ false → n + 1 ≡ n + cond (not (is_none_found faults)) 1 0
one_more [] n e = absurd cc
one_more (f ∷ fs) n e = refl

-- one transaction more, with faults or without
pub told_more : (submitter text next : List ℕ) (transactions faulty now_faulty : ℕ) (whole : List RawParts) (t : RawParts) (faults : List Fault) → faults ≡ faults_in submitter t
    → next ≡ text ++ place_text t ++ verdict_text faults ++ 10 ∷ [] → now_faulty ≡ faulty + cond (not (is_none_found faults)) 1 0
    → IsTold submitter text transactions faulty whole → IsTold submitter next (transactions + 1) now_faulty (whole ++ t ∷ [])
told_more submitter text next transactions faulty now_faulty whole t faults is wrote counted h =
    let one : cond (not (is_none_found faults)) 1 0 ≤ 1 = (elim (not (is_none_found faults)) as (λ b. cond b 1 0 ≤ 1) [ true ↦ omega arith | false ↦ omega arith ]) in
    record {
      text_is = text_more submitter text next whole t faults is h.text_is wrote;
      transactions_are = omega (arith, h.transactions_are, length-append whole (t ∷ []));
      faulty_are =
          counted ∙ ap (λ (n : ℕ). n + cond (not (is_none_found faults)) 1 0) h.faulty_are
          ∙ ap (λ (fs : List Fault). faulty_count submitter whole + cond (not (is_none_found fs)) 1 0) is
          ∙ sym (sum_by_push (λ (x : RawParts). cond (has_faults submitter x) 1 0) whole t);
      few = omega (arith, h.few, counted, one);
    }

-- what is told of a file is its check
pub file_checked : (text : List (List ℕ)) (f : File) (found : List RawParts) (sender told : List ℕ) (clean : Bool) → IsFile text f
    → found ≡ raws_of 1 f.groups → sender ≡ submitter_of f → told ≡ check_lines sender found
    → clean ≡ (faulty_count sender found == 0) → IsCheckOfFile text told clean
file_checked text f found sender told clean formed found_is sender_is wrote counted = record {
  file = f;
  formed = formed;
  lines =
      wrote ∙ ap (λ (s : List ℕ). check_lines s found) sender_is
      ∙ ap (λ (ts : List RawParts). check_lines (submitter_of f) ts) found_is;
  clean_is =
      counted ∙ ap (λ (s : List ℕ). faulty_count s found == 0) sender_is
      ∙ ap (λ (ts : List RawParts). faulty_count (submitter_of f) ts == 0) found_is;
}
