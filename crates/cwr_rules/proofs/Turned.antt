-- What is added up over records is the same in whatever order they are gone over.
use Rattle.std.proofs.Common.{◌≡◌, ℕ, ◌+◌, Bool, true, false, cond, List, [], ◌∷◌, Option, Some, None, refl, sym, ap, ◌∙◌, arith}
use Rattle.std.specs.Prelude.{◌||◌, filter}
use Rattle.std.specs.List.{list_any, cons_option}
use Rattle.std.specs.Str.{bytes_eq}
use Rattle.cwr_rules.specs.declared.record.Record.{Record}
use Rattle.cwr_rules.specs.declared.record.Shares.{Shares}
use Rattle.cwr_rules.specs.declared.totals.Totals.{Totals}
use Rattle.cwr_rules.specs.declared.sums.Sums.{Sums}
use Rattle.cwr_rules.specs.Totals.{valued, total, performing_share, mechanical_share, synchronization_share, shares_of, owns, controls, totals_of, collects_at, collection, is_over, is_over_somewhere}
use Rattle.cwr_rules.specs.Collected.{sums_of}
use Rattle.cwr_rules.specs.Summary.{SummaryValue, IsSummary}
use Rattle.cwr_rules.specs.Rules.{is_writer, publisher_party, publishers, is_party_of}
use Rattle.cwr_rules.proofs.Collecting.{same_totals}
use Rattle.cwr_rules.proofs.TerritoryLaw.{some_code, at_code}

-- the records before others, once these are read too: the newest first
abbrev pub turned : List Record → List Record → List Record
turned [] before = before
turned (r ∷ rest) before = turned rest (r ∷ before)

total_more : (right : Shares → Option ℕ) (p : Record → Bool) (r : Record) (before : List Record)
    → total right (filter p (r ∷ before)) ≡ cond (p r) (total right (filter p before) + valued (right (shares_of r))) (total right (filter p before))
total_more right p r before =
    elim (p r) as (λ b. total right (cond b (r ∷ filter p before) (filter p before)) ≡ cond b (total right (filter p before) + valued (right (shares_of r))) (total right (filter p before))) [ true ↦ refl | false ↦ refl ]

shifted : (b : Bool) (x y v : ℕ) → x + cond b (y + v) y ≡ cond b (x + v) x + y
shifted true x y v = omega arith
shifted false x y v = omega arith

total_turned : (right : Shares → Option ℕ) (p : Record → Bool) (rest before : List Record)
    → total right (filter p (turned rest before)) ≡ total right (filter p rest) + total right (filter p before)
total_turned right p [] before = omega arith
total_turned right p (r ∷ rest) before =
    let one = total_turned right p rest (r ∷ before) in
    let two = total_more right p r before in
    let three = total_more right p r rest in
    let x = total right (filter p rest) in
    let y = total right (filter p before) in
    one ∙ ap (λ (n : ℕ). x + n) two ∙ shifted (p r) x y (valued (right (shares_of r))) ∙ ap (λ (n : ℕ). n + y) (sym three)

totals_turned : (p : Record → Bool) (records : List Record) → totals_of p (turned records []) ≡ totals_of p records
totals_turned p records =
    same_totals (totals_of p (turned records [])) (totals_of p records)
    (omega (arith, total_turned performing_share p records [])) (omega (arith, total_turned mechanical_share p records [])) (omega (arith, total_turned synchronization_share p records []))

or_swapped : (a b c : Bool) → (a || (b || c)) ≡ ((b || a) || c)
or_swapped true true c = refl
or_swapped true false c = refl
or_swapped false true c = refl
or_swapped false false c = refl

or_false : (a : Bool) → (a || false) ≡ a
or_false true = refl
or_false false = refl

writer_turned : (rest before : List Record) → list_any is_writer (turned rest before) ≡ (list_any is_writer rest || list_any is_writer before)
writer_turned [] before = refl
writer_turned (r ∷ rest) before = writer_turned rest (r ∷ before) ∙ or_swapped (list_any is_writer rest) (is_writer r) (list_any is_writer before)

made : Totals → Totals → Bool → Sums
made a b c = record { ownership = a; control = b; has_writer = c }

pub sums_turned : (records : List Record) → sums_of (turned records []) ≡ sums_of records
unfolding made
sums_turned records =
    let a = totals_turned owns records in
    let b = totals_turned controls records in
    let c : list_any is_writer (turned records []) ≡ list_any is_writer records = writer_turned records [] ∙ or_false (list_any is_writer records) in
    ap (λ (t : Totals). made t (totals_of controls (turned records [])) (list_any is_writer (turned records []))) a
    ∙ ap (λ (t : Totals). made (totals_of owns records) t (list_any is_writer (turned records []))) b
    ∙ ap (λ (t : Bool). made (totals_of owns records) (totals_of controls records) t) c

or_assoc_false : (a b : Bool) → (a || b) ≡ ((a || false) || b)
or_assoc_false true b = refl
or_assoc_false false b = refl

pub party_more : (o : Option (List ℕ)) (rest : List (List ℕ)) (q : List ℕ) → is_party_of (cons_option o rest) q ≡ (is_party_of (cons_option o []) q || is_party_of rest q)
party_more None rest q = refl
party_more (Some p) rest q = or_assoc_false (bytes_eq p q) (is_party_of rest q)

party_turned : (rest before : List Record) (q : List ℕ) → is_party_of (publishers (turned rest before)) q ≡ (is_party_of (publishers rest) q || is_party_of (publishers before) q)
party_turned [] before q = refl
party_turned (r ∷ rest) before q =
    let o = is_party_of (cons_option (publisher_party r) []) q in
    party_turned rest (r ∷ before) q
    ∙ ap (λ (b : Bool). is_party_of (publishers rest) q || b) (party_more (publisher_party r) (publishers before) q)
    ∙ or_swapped (is_party_of (publishers rest) q) o (is_party_of (publishers before) q)
    ∙ ap (λ (b : Bool). b || is_party_of (publishers before) q) (sym (party_more (publisher_party r) (publishers rest) q))

pub same_parties : (records : List Record) (q : List ℕ) → is_party_of (publishers (turned records [])) q ≡ is_party_of (publishers records) q
same_parties records q = party_turned records [] q ∙ or_false (is_party_of (publishers records) q)

pub collection_turned : (code : ℕ) (records : List Record) → collection code (turned records []) ≡ collection code records
collection_turned code records = totals_turned (collects_at code) records

same_test : (s t : Bool) → (s ≡ true → t ≡ true) → (t ≡ true → s ≡ true) → s ≡ t
same_test true true to from = refl
same_test false false to from = refl
same_test true false to from = sym (to refl)
same_test false true to from = from refl

pub over_turned : (records : List Record) → is_over_somewhere (turned records []) ≡ is_over_somewhere records
over_turned records =
    same_test (is_over_somewhere (turned records [])) (is_over_somewhere records)
    (λ h. let w = some_code (turned records []) h in at_code records w.0 (ap is_over (sym (collection_turned w.0 records)) ∙ w.1))
    (λ h. let w = some_code records h in at_code (turned records []) w.0 (ap is_over (collection_turned w.0 records) ∙ w.1))

pub summary_turned : (value : SummaryValue) (records : List Record) → IsSummary value (turned records []) → IsSummary value records
summary_turned value records h = record {
  sums_are = h.sums_are ∙ sums_turned records;
  holds = λ q is. h.holds q is ∙ same_parties records q;
  collected = record { values = λ code. h.collected.values code ∙ collection_turned code records; over_is = h.collected.over_is ∙ over_turned records };
}
