-- Names that are one, or one of which is another with an end behind it, over whole lists of them.
use Rattle.std.proofs.Common.{◌≡◌, ◌∙◌, ℕ, zero, suc, ◌+◌, ◌-◌, ◌<◌, ◌≤◌, Bool, true, false, List, [], ◌∷◌, ◌++◌, length, get_or, drop, map, Bor, refl, sym, ap, bytes_eq, codes, arith}
use Rattle.std.specs.Prelude.{◌||◌, Option, Some, None, if◌then◌else◌}
use Rattle.std.specs.List.{list_any}
use Rattle.std.proofs.lemmas.Bool.Decides.{same_from_decides}
use Rattle.std.proofs.lemmas.Slice.Eq.{bytes_eq-Decides}
use Rattle.std.proofs.lemmas.List.{length-append, drop_more}
use Rattle.indexmap.specs.IndexSet.{insert_key}
use Rattle.std.proofs.lemmas.List.Folds.{list_any-append}
use Rattle.run_options.specs.RunFault.{is_acknowledgement, is_same_file, is_named_twice}
use Rattle.run_options.specs.WordsFault.{is_acknowledgement_draft, is_written_for, is_file_lost, is_read_lost, is_kept_over, is_read_taken}
use Rattle.run_options.specs.declared.words.RunFault.TheVariants.{Twice}
use Rattle.run_options.specs.declared.words.WordsFault.TheVariants.{Run, UsedTwice}
use Rattle.run_options.specs.ListFault.{is_repeated, has_one_with, files_fault, HasSame}
use Rattle.run_options.proofs.FileWords.{named_with, named_without}

-- ---- lists of tests

-- tests that agree find one in the same lists
pub same_any : {X : Type 0} (test other : X → Bool) (xs : List X) → ((x : X) → test x ≡ other x) → list_any test xs ≡ list_any other xs
same_any test other xs same = λ i. list_any (λ x. same x i) xs

pub none_any : {X : Type 0} (xs : List X) → list_any (λ _. false) xs ≡ false
none_any [] = refl
none_any (x ∷ xs) = none_any xs

swapped : (a b c d : Bool) → ((a || b) || (c || d)) ≡ ((a || c) || (b || d))
swapped true b c d = refl
swapped false true true d = refl
swapped false true false d = refl
swapped false false c d = refl

pub any_or : {X : Type 0} (test other : X → Bool) (xs : List X) → list_any (λ x. test x || other x) xs ≡ (list_any test xs || list_any other xs)
any_or test other [] = refl
any_or test other (x ∷ xs) = rw (any_or test other xs) (swapped (test x) (other x) (list_any test xs) (list_any other xs))

-- ---- a name with an end behind it

pub any_with : (end word front : List ℕ) (keys : List (Bor (List ℕ))) → word ≡ front ++ end
    → list_any (λ key. bytes_eq front key.now) keys ≡ list_any (λ key. bytes_eq word (key.now ++ end)) keys
any_with end word front keys e = same_any (λ key. bytes_eq front key.now) (λ key. bytes_eq word (key.now ++ end)) keys (λ key. named_with end key.now word front e)

pub any_without : (end word : List ℕ) (keys : List (Bor (List ℕ))) → ((front : List ℕ) → word ≡ front ++ end → ⊥)
    → list_any (λ key. bytes_eq word (key.now ++ end)) keys ≡ false
any_without end word keys none = same_any (λ key. bytes_eq word (key.now ++ end)) (λ _. false) keys (λ key. named_without end key.now word none) ∙ none_any keys

-- ---- two names that are one

or_true : (a : Bool) → (a || true) ≡ true
or_true true = refl
or_true false = refl

or_false : (a : Bool) → (a || false) ≡ a
or_false true = refl
or_false false = refl

-- two that are one among the last files are so among all
pub repeated_in : (files : List (Bor (List ℕ))) (n : ℕ) → is_repeated (map (λ file. file.now) (drop n files)) ≡ true → is_repeated (map (λ file. file.now) files) ≡ true
repeated_in files zero e = e
repeated_in [] (suc n) e = e
repeated_in (file ∷ files) (suc n) e = rw (repeated_in files n e) (or_true (list_any (bytes_eq file.now) (map (λ other. other.now) files)))

-- the names from the place before begin with the one there
pub names_before : (files : List (Bor (List ℕ))) (i : ℕ) (d : Bor (List ℕ)) → 0 < i → i ≤ length files
    → map (λ file. file.now) (drop (i - 1) files) ≡ (get_or files (i - 1) d).now ∷ map (λ file. file.now) (drop i files)
names_before files i d some within =
    let lt : i - 1 < length files = omega (arith, some, within) in
    let same : i - 1 + 1 ≡ i = omega (arith, some) in
    rw (drop_more files (i - 1) d lt, same) refl

-- a new key goes last
pub insert_new : (keys : List (Bor (List ℕ))) (key : Bor (List ℕ)) → list_any (λ other. bytes_eq key.now other.now) keys ≡ false
    → insert_key (λ one other. bytes_eq one.now other.now) keys key ≡ keys ++ key ∷ []
insert_new keys key e = rw e refl

turned : (a b : Bool) → (a || (b || false)) ≡ (b || a)
turned true true = refl
turned true false = refl
turned false true = refl
turned false false = refl

-- with one key more for a name, the keys have this name too
pub known_more : (keys : List (Bor (List ℕ))) (key : Bor (List ℕ)) (names : List (List ℕ)) → HasSame keys names → HasSame (keys ++ key ∷ []) (key.now ∷ names)
known_more keys key names same = λ test.
    list_any-append (λ other. test other.now) keys (key ∷ []) ∙ ap (λ (b : Bool). b || (test key.now || false)) (same test) ∙ turned (list_any test names) (test key.now)

-- ---- a loop over files that looks for one

pub past : (test : List ℕ → Bool) (files : List (Bor (List ℕ))) (i : ℕ) (d : Bor (List ℕ)) → i < length files → test (get_or files i d).now ≡ false
    → list_any test (map (λ file. file.now) (drop (i + 1) files)) ≡ list_any test (map (λ file. file.now) (drop i files))
past test files i d lt e = rw (drop_more files i d lt, e) refl

-- ---- two names that are one, or one of which is the acknowledgement of the other

eq-comm : (file other : List ℕ) → bytes_eq file other ≡ bytes_eq other file
eq-comm file other =
    let one = bytes_eq-Decides file other in
    let two = bytes_eq-Decides other file in
    same_from_decides (bytes_eq file other) (bytes_eq other file) one (λ h. sym (two.0 h), λ h. two.1 (sym h))

-- no name is its own acknowledgement
not_its_own : (file : List ℕ) → is_acknowledgement file file ≡ false
not_its_own file = by (is_acknowledgement file file) refl
  where
    by : (b : Bool) → is_acknowledgement file file ≡ b → is_acknowledgement file file ≡ false
    by true h =
        let longer : length file ≡ length (file ++ codes ".ack") = ap (λ (bytes : List ℕ). length bytes) ((bytes_eq-Decides file (file ++ codes ".ack")).0 h) in
        let sum : length (file ++ codes ".ack") ≡ length file + 4 = length-append file (codes ".ack") in
        absurd (omega (arith, longer, sum))
    by false h = h

-- the bits of one step: `e` that the file is one of those behind it, `r` that two of these are, `a` and `b` that it is
-- the acknowledgement of one of them or one of them its own, `c` that one of them is another's
step : (e r a b c : Bool) → (((e || a) || b) || (r || c)) ≡ ((e || r) || ((false || b) || (a || c)))
step true r a b c = refl
step false true true b c = refl
step false true false true c = refl
step false true false false c = refl
step false false true true c = refl
step false false true false c = refl
step false false false true c = refl
step false false false false c = refl

pub named_twice : (files : List (List ℕ)) → is_named_twice files ≡ (is_repeated files || has_one_with (codes ".ack") files)
unfolding is_same_file
named_twice [] = refl
named_twice (file ∷ files) =
    let of_file : list_any (is_same_file file) files
    ≡ ((list_any (bytes_eq file) files || list_any (is_acknowledgement file) files) || list_any (λ other. is_acknowledgement other file) files) =
    any_or (λ other. bytes_eq file other || is_acknowledgement file other) (λ other. is_acknowledgement other file) files
    ∙ ap (λ (b : Bool). b || list_any (λ other. is_acknowledgement other file) files) (any_or (bytes_eq file) (is_acknowledgement file) files) in
    let of_others : list_any (λ word. is_acknowledgement file word || list_any (λ other. is_acknowledgement other word) files) files
    ≡ (list_any (is_acknowledgement file) files || has_one_with (codes ".ack") files) =
    any_or (is_acknowledgement file) (λ word. list_any (λ other. is_acknowledgement other word) files) files in
    rw (of_file, named_twice files, of_others, not_its_own file) (step (list_any (bytes_eq file) files) (is_repeated files) (list_any (is_acknowledgement file) files)
    (list_any (λ other. is_acknowledgement other file) files) (has_one_with (codes ".ack") files))

-- ---- names that are written for another

pub file_lost : (files : List (List ℕ)) → is_file_lost files ≡ (has_one_with (codes ".ack") files || has_one_with (codes ".ack.new") files)
unfolding is_written_for
file_lost files =
    same_any (λ word. list_any (λ file. is_written_for file word) files)
    (λ word. list_any (λ file. is_acknowledgement file word) files || list_any (λ file. is_acknowledgement_draft file word) files) files
    (λ word. any_or (λ file. is_acknowledgement file word) (λ file. is_acknowledgement_draft file word) files)
    ∙ any_or (λ word. list_any (λ file. is_acknowledgement file word) files) (λ word. list_any (λ file. is_acknowledgement_draft file word) files) files

-- ---- the first fault of the files

module _ (files : List (List ℕ)) (from to : Option (List ℕ)) where
  pub fault-repeated : is_repeated files ≡ true → files_fault files from to ≡ Some (Run Twice)
  fault-repeated e = rw (named_twice files, e) refl

  pub fault-answered : is_repeated files ≡ false → has_one_with (codes ".ack") files ≡ true → files_fault files from to ≡ Some (Run Twice)
  fault-answered e h = rw (named_twice files, e, h) refl

  -- what a file or a register is used for twice
  abbrev pub is_used : Bool
  is_used = has_one_with (codes ".ack.new") files || is_read_lost from files || is_kept_over to files || is_read_taken from to

  pub fault-used : (used : Bool) → is_repeated files ≡ false → has_one_with (codes ".ack") files ≡ false → used ≡ is_used
      → files_fault files from to ≡ (if used then Some UsedTwice else None)
  fault-used used e h u = rw (named_twice files, file_lost files, e, h, u) refl
