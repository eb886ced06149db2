-- What is written of an object, piece after piece, is the tokens of its value.
use Rattle.std.proofs.Common.{◌≡◌, ◌∙◌, ℕ, List, [], ◌∷◌, ◌++◌, refl, sym, ap, ap₂, append_assoc, append-nil}
use Rattle.std.specs.List.{flat_map}
use Rattle.std.proofs.lemmas.Grind.{flat_map-append}
use Rattle.json.specs.Token.{Token, begin_object, end_object, key}
use Rattle.json.specs.Print.{print}
use Rattle.json.specs.Tree.{members_tokens}
use Rattle.json.specs.Written.{Written}
use Rattle.serde_json.specs.Data.{Data}
use Rattle.serde_json.specs.Written.{members_outline}
use Rattle.serde_json.proofs.Texts.{print-outline}
use Rattle.register_tables.specs.JsonValues.{json_line, member_tokens, members_of, object_data, value_tokens, Adds}

-- a piece behind a piece
pub adds_then : (old mid new : Written) (xs ys : List Token) → Adds old mid xs → Adds mid new ys → Adds old new (xs ++ ys)
adds_then old mid new xs ys a b = record {
  tokens = b.tokens ∙ ap (λ (ts : List Token). ts ++ ys) a.tokens ∙ append_assoc old.tokens xs ys;
  before = b.before ∙ a.before;
}

-- the same tokens
pub adds_same : (old new : Written) (xs ys : List Token) → xs ≡ ys → Adds old new xs → Adds old new ys
adds_same old new xs ys same a = record { tokens = a.tokens ∙ ap (λ (ts : List Token). old.tokens ++ ts) same; before = a.before }

-- members, and the end of their object
members_ended : (ps : List (List ℕ × Data)) → flat_map member_tokens ps ++ (end_object ∷ []) ≡ members_tokens (members_outline (members_of ps))
members_ended [] = refl
members_ended (p ∷ ps) =
    append_assoc (member_tokens p) (flat_map member_tokens ps) (end_object ∷ [])
    ∙ ap (λ (ts : List Token). member_tokens p ++ ts) (members_ended ps)

-- members behind members
pub groups : (a b c : Written) (ps qs : List (List ℕ × Data)) → Adds a b (flat_map member_tokens ps) → Adds b c (flat_map member_tokens qs)
    → Adds a c (flat_map member_tokens (ps ++ qs))
groups a b c ps qs x y = adds_same a c (flat_map member_tokens ps ++ flat_map member_tokens qs) (flat_map member_tokens (ps ++ qs)) (sym (flat_map-append member_tokens ps qs)) (adds_then a b c _ _ x y)

-- one member, whose value is written behind its name
pub named : (a b c : Written) (name : List ℕ) (value : Data) → Adds a b (key name ∷ []) → Adds b c (value_tokens value)
    → Adds a c (flat_map member_tokens ((name, value) ∷ []))
named a b c name value x y = adds_same a c (key name ∷ value_tokens value) (flat_map member_tokens ((name, value) ∷ [])) (sym (append-nil (key name ∷ value_tokens value))) (adds_then a b c (key name ∷ []) (value_tokens value) x y)

-- members between braces
pub object_of : (old a b new : Written) (ps : List (List ℕ × Data)) → Adds old a (begin_object ∷ []) → Adds a b (flat_map member_tokens ps) → Adds b new (end_object ∷ [])
    → Adds old new (value_tokens (object_data ps))
object_of old a b new ps begin members end =
    adds_same old new (((begin_object ∷ []) ++ flat_map member_tokens ps) ++ (end_object ∷ [])) (value_tokens (object_data ps))
    (ap (λ (ts : List Token). begin_object ∷ ts) (members_ended ps))
    (adds_then old b new ((begin_object ∷ []) ++ flat_map member_tokens ps) (end_object ∷ []) (adds_then old a b (begin_object ∷ []) (flat_map member_tokens ps) begin members) end)

-- one token
pub written : {old new : Written} {t : Token} → new.tokens ≡ old.tokens ++ t ∷ [] → new.before ≡ old.before → Adds old new (t ∷ [])
written tokens before = record { tokens = tokens; before = before }

-- what is written of one value, and LF, is the value's line
pub line_is : (old out : Written) (value : Data) (line : List ℕ) → old.before ≡ [] → old.tokens ≡ [] → Adds old out (value_tokens value)
    → line ≡ out.before ++ print out.tokens ++ 10 ∷ [] → line ≡ json_line value
line_is old out value line before tokens adds is =
    is
    ∙ ap₂ (λ (front : List ℕ) (ts : List Token). front ++ print ts ++ 10 ∷ []) (adds.before ∙ before) (adds.tokens ∙ ap (λ (ts : List Token). ts ++ value_tokens value) tokens)
    ∙ ap (λ (text : List ℕ). text ++ 10 ∷ []) (print-outline value)
