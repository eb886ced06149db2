-- One record more whose shares are collected.
use Rattle.std.proofs.Common.{◌≡◌, ℕ, Bool, true, false, cond, eqb, List, [], ◌∷◌, Option, Some, None, refl, sym, ap, subst, ◌∙◌, arith}
use Rattle.std.specs.Prelude.{◌||◌, filter, unwrap_or}
use Rattle.std.specs.List.{list_any, cons_option}
use Rattle.std.proofs.lemmas.Bool.Decides.{nat_tests}
use Rattle.cwr_rules.specs.declared.record.Record.{Record}
use Rattle.cwr_rules.specs.declared.record.Shares.{Shares}
use Rattle.cwr_rules.specs.declared.totals.Totals.{Totals}
use Rattle.cwr_rules.specs.Totals.{total, performing_share, mechanical_share, synchronization_share, shares_of, included, collects_at, collection, is_over, codes_of, is_over_somewhere}
use Rattle.cwr_rules.specs.Collected.{value_at, with_shares, IsCollected}

abbrev made : ℕ → ℕ → ℕ → Totals
made a b c = record { performing = a; mechanical = b; synchronization = c }

abbrev totals_from : Bool → ℕ → Record → List Record → Totals
totals_from b q r rest =
    let kept = cond b (r ∷ filter (collects_at q) rest) (filter (collects_at q) rest) in
    record { performing = total performing_share kept; mechanical = total mechanical_share kept; synchronization = total synchronization_share kept }

collection_more : (q : ℕ) (r : Record) (rest : List Record) → collection q (r ∷ rest) ≡ cond (collects_at q r) (with_shares (collection q rest) (shares_of r)) (collection q rest)
collection_more q r rest =
    elim (collects_at q r) as (λ b. totals_from b q r rest ≡ cond b (with_shares (collection q rest) (shares_of r)) (collection q rest)) [ true ↦ refl | false ↦ refl ]

over_with : (t : Totals) (s : Shares) → is_over (with_shares t s) ≡ false → is_over t ≡ false
over_with t s e = grind (arith, nat_tests)

same_any : (p q : ℕ → Bool) (xs : List ℕ) → ((x : ℕ) → p x ≡ q x) → list_any p xs ≡ list_any q xs
same_any p q [] h = refl
same_any p q (x ∷ xs) h = rw (h x, same_any p q xs h) refl

pub skipped : (q : ℕ) (r : Record) (rest : List Record) → included r ≡ None → collection q (r ∷ rest) ≡ collection q rest
skipped q r rest e = collection_more q r rest ∙ rw e refl

pub collected : (q : ℕ) (r : Record) (rest : List Record) (code : ℕ) → included r ≡ Some code → collection q (r ∷ rest) ≡ cond (eqb code q) (with_shares (collection q rest) (shares_of r)) (collection q rest)
collected q r rest code e = collection_more q r rest ∙ rw e refl

eqb_same : (n : ℕ) → eqb n n ≡ true
eqb_same n = grind (arith, nat_tests)

stays : (q : ℕ) (r : Record) (rest : List Record) (code : ℕ) → included r ≡ Some code → is_over (collection code (r ∷ rest)) ≡ false → is_over (collection q (r ∷ rest)) ≡ is_over (collection q rest)
stays q r rest code e low =
    let P : Bool → Type 0 = λ b. eqb code q ≡ b → is_over (cond b (with_shares (collection q rest) (shares_of r)) (collection q rest)) ≡ is_over (collection q rest) in
    ap is_over (collected q r rest code e) ∙ (elim (eqb code q) as P [
      | true ↦ λ same.
          let at : code ≡ q = grind (arith, nat_tests) in
          let here : collection code (r ∷ rest) ≡ with_shares (collection code rest) (shares_of r) = collected code r rest code e ∙ rw (eqb_same code) refl in
          let high : is_over (with_shares (collection code rest) (shares_of r)) ≡ false = ap is_over (sym here) ∙ low in
          let old = over_with (collection code rest) (shares_of r) high in
          let Q : ℕ → Type 0 = λ k. is_over (with_shares (collection k rest) (shares_of r)) ≡ is_over (collection k rest) in
          subst Q at (high ∙ sym old)
      | false ↦ λ same. refl
    ]) refl

over_more : (r : Record) (rest : List Record) (code : ℕ) → included r ≡ Some code → is_over_somewhere (r ∷ rest) ≡ (is_over (collection code (r ∷ rest)) || is_over_somewhere rest)
over_more r rest code e =
    let P : Bool → Type 0 = λ b. is_over (collection code (r ∷ rest)) ≡ b → (b || list_any (λ c. is_over (collection c (r ∷ rest))) (codes_of rest)) ≡ (b || is_over_somewhere rest) in
    let split : is_over_somewhere (r ∷ rest) ≡ (is_over (collection code (r ∷ rest)) || list_any (λ c. is_over (collection c (r ∷ rest))) (codes_of rest)) = ap (λ (o : Option ℕ). list_any (λ c. is_over (collection c (r ∷ rest))) (cons_option o (codes_of rest))) e in
    split ∙ (elim (is_over (collection code (r ∷ rest))) as P [
      | true ↦ λ h. refl
      | false ↦ λ h. same_any (λ c. is_over (collection c (r ∷ rest))) (λ c. is_over (collection c rest)) (codes_of rest) (λ c. stays c r rest code e h)
    ]) refl

pub same_totals : (a b : Totals) → a.performing ≡ b.performing → a.mechanical ≡ b.mechanical → a.synchronization ≡ b.synchronization → a ≡ b
same_totals a b p m s =
    let one : a ≡ record { performing = b.performing; mechanical = a.mechanical; synchronization = a.synchronization } = ap (λ (x : ℕ). made x a.mechanical a.synchronization) p in
    let two : made b.performing a.mechanical a.synchronization ≡ made b.performing b.mechanical a.synchronization = ap (λ (x : ℕ). made b.performing x a.synchronization) m in
    one ∙ two ∙ ap (λ (x : ℕ). made b.performing b.mechanical x) s

value_more : (found : ℕ → Option Totals) (rest : List Record) (r : Record) (code c : ℕ) (t : Totals)
    → included r ≡ Some code → t ≡ with_shares (collection code rest) (shares_of r) → value_at found c ≡ collection c rest
    → unwrap_or (cond (eqb code c) (Some t) (found c)) (made 0 0 0) ≡ collection c (r ∷ rest)
value_more found rest r code c t e t_is old =
    let P : Bool → Type 0 = λ b. eqb code c ≡ b → unwrap_or (cond b (Some t) (found c)) (made 0 0 0) ≡ cond b (with_shares (collection c rest) (shares_of r)) (collection c rest) in
    (elim (eqb code c) as P [
      | true ↦ λ same. let at : code ≡ c = grind (arith, nat_tests) in t_is ∙ ap (λ (k : ℕ). with_shares (collection k rest) (shares_of r)) at
      | false ↦ λ same. old
    ]) refl
    ∙ sym (collected c r rest code e)

pub collect_more : (found new : ℕ → Option Totals) (over now : Bool) (rest : List Record) (r : Record) (code : ℕ) (t : Totals) (shares : Shares)
    → included r ≡ Some code → shares_of r ≡ shares
    → t ≡ with_shares (value_at found code) shares
    → ((q : ℕ) → new q ≡ cond (eqb code q) (Some t) (found q))
    → now ≡ (is_over t || over)
    → IsCollected found over rest → IsCollected new now (r ∷ rest)
collect_more found new over now rest r code t shares e s by_map put flag so_far =
    let old = so_far.values code in
    let t_is : t ≡ with_shares (collection code rest) (shares_of r) = by_map ∙ ap (λ (x : Totals). with_shares x shares) old ∙ ap (λ (x : Shares). with_shares (collection code rest) x) (sym s) in
    let here : t ≡ collection code (r ∷ rest) = t_is ∙ sym (collected code r rest code e ∙ rw (eqb_same code) refl) in
    let over_is : now ≡ is_over_somewhere (r ∷ rest) = flag ∙ ap (λ (x : Totals). is_over x || over) here ∙ ap (λ (b : Bool). is_over (collection code (r ∷ rest)) || b) so_far.over_is ∙ sym (over_more r rest code e) in
    record {
      values = λ c. ap (λ (o : Option Totals). unwrap_or o (made 0 0 0)) (put c) ∙ value_more found rest r code c t e t_is (so_far.values c);
      over_is = over_is;
    }
