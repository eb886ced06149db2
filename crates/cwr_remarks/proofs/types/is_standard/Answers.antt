use Rattle.std.proofs.Common.{◌≡◌, ◌∙◌, Bool, false, ◌||◌, List, [], ◌∷◌, ℕ, ap₂, codes, refl}
use Rattle.std.proofs.Math.Bool.{or_assoc, or-false}
use Rattle.std.proofs.lemmas.Cmp.{nat_list_eq_equiv}
use Rattle.std.specs.List.{list_any}
use Rattle.std.specs.Str.{bytes_eq}
use Rattle.cwr_remarks.specs.Types.{is_standard}
use Rattle.cwr_remarks.proofs.types.is_standard.Goals as goal

-- it is the same which of the two names is compared with the other
turned : (name : List ℕ) (names : List (List ℕ)) → list_any (λ y. bytes_eq y name) names ≡ list_any (λ y. bytes_eq name y) names
turned name [] = refl
turned name (first ∷ rest) = ap₂ (λ (a b : Bool). a || b) (nat_list_eq_equiv.symm first name) (turned name rest)

-- those of agreements, of other alphabets and of works, in a row
in_a_row : (a b c d e f g h i j k l m n o p q r s t u v w : Bool)
    → (a || (b || (c || (d || (e || (f || (g || (h || (i || (j || (k || (l || (m || (n || (o || (p || (q || (r || (s || (t || (u || (v || (w || false)))))))))))))))))))))))
    ≡ ((a || b || c) || (d || e || f || g || h || i || j || k) || (l || m || n || o || p || q || r || s || t || u || v || w))
in_a_row a b c d e f g h i j k l m n o p q r s t u v w = simp (or_assoc, or-false)

abbrev names : List (List ℕ)
names =
    codes "TER" ∷ codes "IPA" ∷ codes "NPA" ∷ codes "NPN" ∷ codes "NWN" ∷ codes "NOW" ∷ codes "NPR" ∷ codes "NAT" ∷
    codes "NET" ∷ codes "NCT" ∷ codes "NVT" ∷ codes "OPT" ∷ codes "OWT" ∷ codes "EWT" ∷ codes "VER" ∷ codes "PER" ∷
    codes "REC" ∷ codes "ORN" ∷ codes "INS" ∷ codes "IND" ∷ codes "COM" ∷ codes "ARI" ∷ codes "MSG" ∷
    []

among_them : (name : List ℕ) → list_any (λ y. bytes_eq y name) names ≡ is_standard name
among_them name =
    turned name names
    ∙ in_a_row
    (bytes_eq name (codes "TER")) (bytes_eq name (codes "IPA")) (bytes_eq name (codes "NPA")) (bytes_eq name (codes "NPN"))
    (bytes_eq name (codes "NWN")) (bytes_eq name (codes "NOW")) (bytes_eq name (codes "NPR")) (bytes_eq name (codes "NAT"))
    (bytes_eq name (codes "NET")) (bytes_eq name (codes "NCT")) (bytes_eq name (codes "NVT")) (bytes_eq name (codes "OPT"))
    (bytes_eq name (codes "OWT")) (bytes_eq name (codes "EWT")) (bytes_eq name (codes "VER")) (bytes_eq name (codes "PER"))
    (bytes_eq name (codes "REC")) (bytes_eq name (codes "ORN")) (bytes_eq name (codes "INS")) (bytes_eq name (codes "IND"))
    (bytes_eq name (codes "COM")) (bytes_eq name (codes "ARI")) (bytes_eq name (codes "MSG"))

pub returns : goal.returns
returns c = c.contains.ensures.value ∙ among_them c.args.name
