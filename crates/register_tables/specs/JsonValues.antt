-- Values of JSON, and their texts.
use Rattle.std.specs.Prelude.{◌≡◌, ℕ, List, [], ◌∷◌, ◌++◌, Option, Some, None}
use Rattle.std.specs.Str.{encode_utf8_all}
use Rattle.json.specs.Token.{Token, key}
use Rattle.json.specs.Tree.{json_tokens}
use Rattle.json.specs.Written.{Written}
use Rattle.serde_json.specs.Data.{Data, Members, null, number, unsigned, string, object, no_members, member}
use Rattle.serde_json.specs.Written.{compact_text, outline}
use Rattle.register_tables.specs.declared.json_values.Shown.{Shown}
use Rattle.register_tables.specs.declared.json_values.Shown.TheVariants as shown

-- bytes as a JSON string: each byte is the character with its number
abbrev pub text_data : List ℕ → Data
text_data bytes = string (encode_utf8_all bytes)

-- a number as a JSON value
abbrev pub count_data : ℕ → Data
count_data n = number (unsigned n)

-- a number, and null for `None`
abbrev pub option_data : Option ℕ → Data
option_data None = null
option_data (Some n) = count_data n

-- the members of an object, in this order
abbrev pub members_of : List (List ℕ × Data) → Members
members_of [] = no_members
members_of (m ∷ ms) = member m.0 m.1 (members_of ms)

-- an object with these members
abbrev pub object_data : List (List ℕ × Data) → Data
object_data ms = object (members_of ms)

-- a value as a text without blanks between its parts, and LF
abbrev pub json_line : Data → List ℕ
json_line value = compact_text value ++ 10 ∷ []

-- What is written of a value.

-- the JSON value of what is to be written
abbrev pub shown_data : Shown → Data
shown_data shown.Null = null
shown_data (shown.Number n) = count_data n
shown_data (shown.Text bytes) = text_data bytes.now

-- the tokens of a value
abbrev pub value_tokens : Data → List Token
value_tokens value = json_tokens (outline value)

-- the tokens of a member
abbrev pub member_tokens : List ℕ × Data → List Token
member_tokens m = key m.0 ∷ value_tokens m.1

-- these tokens are written behind those that were there
pub record Adds (old new : Written) (added : List Token) : Type 0 where
  pub tokens : new.tokens ≡ old.tokens ++ added
  pub before : new.before ≡ old.before
