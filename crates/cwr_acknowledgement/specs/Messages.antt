-- The texts that report faults.
use Rattle.std.specs.Prelude.{ℕ, ◌-◌, List, [], ◌∷◌, codes, slice_index_or}

-- the texts of the MSG records, of J1 first, J15 last
abbrev pub message_texts : List (List ℕ)
message_texts =
    codes "RECORD OUT OF ORDER"  -- 1
    ∷ codes "TITLE IS BLANK"  -- 2
    ∷ codes "SUBMITTER WORK NUMBER IS BLANK"  -- 3
    ∷ codes "ISWC IS NOT VALID"  -- 4
    ∷ codes "DATE OR DURATION IS NOT VALID"  -- 5
    ∷ codes "SHARE IS NOT VALID"  -- 6
    ∷ codes "INTERESTED PARTY NUMBER IS BLANK"  -- 7
    ∷ codes "TERRITORY RECORD OF ANOTHER PARTY"  -- 8
    ∷ codes "PUBLISHER OF WRITER IS NOT IN THE TRANSACTION"  -- 9
    ∷ codes "NO WRITER"  -- 10
    ∷ codes "PR OWNERSHIP TOTAL IS NOT VALID"  -- 11
    ∷ codes "MR OWNERSHIP TOTAL IS NOT VALID"  -- 12
    ∷ codes "SR OWNERSHIP TOTAL IS NOT VALID"  -- 13
    ∷ codes "INDICATOR OR TERRITORY IS NOT VALID"  -- 14
    ∷ codes "COLLECTION TOTAL IS ABOVE 100.06"  -- 15
    ∷ []

-- the text for faults with this number, from 1 to 15
abbrev pub message_text : ℕ → List ℕ
message_text number = slice_index_or message_texts (number - 1) []
