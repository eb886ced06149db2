-- The entries of each submitter, noted one by one from the end, and ranked.
use Rattle.std.proofs.Common.{◌≡◌, ◌∙◌, ◌+◌, ◌-◌, ◌^◌, ◌<◌, ◌≤◌, ◌||◌, ℕ, suc, Bool, true, false, List, [], ◌∷◌, ◌++◌, cond, drop, not, length, filter, get_or, map, set, take, reverse, if◌then◌else◌, refl, sym, ap, arith, subst, true≢false}
use Rattle.std.specs.List.{fold, list_any, position_or_len}
use Rattle.std.specs.Str.{bytes_eq}
use Rattle.std.proofs.lemmas.Grind.{reverse_onto}
use Rattle.std.proofs.lemmas.List.{drop_all, get_or_read_under, map-append}
use Rattle.std.proofs.lemmas.List.Folds.{list_any-append}
use Rattle.std.proofs.lemmas.List.Sorted.{list_any-IsPermutation, IsPermutation-reverse}
use Rattle.std.proofs.lemmas.List.Sums.{fold-append, count_by-le-length, length-filter}
use Rattle.std.proofs.lemmas.Slice.Eq.{bytes_eq-Decides}
use Rattle.work_registry.specs.EntryValue.{EntryValue}
use Rattle.register_tables.specs.declared.submitters.SubmitterEntries.{SubmitterEntries}
use Rattle.register_tables.specs.Counting.{counted, submitter_noted, submitters_noted}
use Rattle.register_tables.specs.Summary.{count, different, entries_ahead, entries_of, most_entries, placed, ranked, submitters}
use Rattle.register_tables.proofs.Counts.{placed_among}

-- a text is equal to itself
itself : (a : List ℕ) → bytes_eq a a ≡ true
itself a = (bytes_eq-Decides a a).1 refl

-- two texts that are equal are so the other way round, too
turned : (a b : List ℕ) → bytes_eq a b ≡ true → bytes_eq b a ≡ true
turned a b holds = (bytes_eq-Decides b a).1 (sym ((bytes_eq-Decides a b).0 holds))

differ : (a b : List ℕ) → bytes_eq a b ≡ false → bytes_eq b a ≡ false
differ a b fails = by (bytes_eq b a) refl
  where
    by : (c : Bool) → bytes_eq b a ≡ c → c ≡ false
    by true e = absurd (true≢false (sym (turned b a e) ∙ fails))
    by false e = refl

-- no text is equal to one behind it
abbrev Apart : List (List ℕ) → Type 0
Apart [] = Unit {0}
Apart (k ∷ ks) = (list_any (bytes_eq k) ks ≡ false) × Apart ks

-- the texts with one more, last, unless it is among them
abbrev put_in : List (List ℕ) → List ℕ → List (List ℕ)
put_in [] t = t ∷ []
put_in (k ∷ ks) t = if bytes_eq t k then k ∷ ks else k ∷ put_in ks t

put_in-known : (ks : List (List ℕ)) (t : List ℕ) → list_any (bytes_eq t) ks ≡ true → put_in ks t ≡ ks
put_in-known [] t known = absurd (true≢false (sym known))
put_in-known (k ∷ ks) t known = by (bytes_eq t k) (put_in-known ks t) known
  where
    by : (b : Bool) → (list_any (bytes_eq t) ks ≡ true → put_in ks t ≡ ks) → (b || list_any (bytes_eq t) ks) ≡ true → (if b then k ∷ ks else k ∷ put_in ks t) ≡ k ∷ ks
    by true more holds = refl
    by false more rest = ap (λ (ls : List (List ℕ)). k ∷ ls) (more rest)

put_in-new : (ks : List (List ℕ)) (t : List ℕ) → list_any (bytes_eq t) ks ≡ false → put_in ks t ≡ ks ++ t ∷ []
put_in-new [] t new = refl
put_in-new (k ∷ ks) t new = by (bytes_eq t k) (put_in-new ks t) new
  where
    by : (b : Bool) → (list_any (bytes_eq t) ks ≡ false → put_in ks t ≡ ks ++ t ∷ []) → (b || list_any (bytes_eq t) ks) ≡ false
        → (if b then k ∷ ks else k ∷ put_in ks t) ≡ k ∷ (ks ++ t ∷ [])
    by true more fails = absurd (true≢false fails)
    by false more rest = ap (λ (ls : List (List ℕ)). k ∷ ls) (more rest)

any_different : (q : List ℕ) (texts : List (List ℕ)) → list_any (bytes_eq q) (different texts) ≡ list_any (bytes_eq q) texts
any_different q [] = refl
any_different q (t ∷ ts) = by (any_different q ts) (list_any (bytes_eq t) ts) refl (bytes_eq q t) refl
  where
    by : list_any (bytes_eq q) (different ts) ≡ list_any (bytes_eq q) ts → (b : Bool) → list_any (bytes_eq t) ts ≡ b → (c : Bool) → bytes_eq q t ≡ c
        → list_any (bytes_eq q) (if b then different ts else t ∷ different ts) ≡ (c || list_any (bytes_eq q) ts)
    by more true f true g = more ∙ subst (λ (u : List ℕ). list_any (bytes_eq u) ts ≡ true) (sym ((bytes_eq-Decides q t).0 g)) f
    by more true f false g = more
    by more false f true g = rw g refl
    by more false f false g = rw g more

any_known : (q : List ℕ) (texts : List (List ℕ)) → list_any (bytes_eq q) (reverse (different texts)) ≡ list_any (bytes_eq q) texts
any_known q texts = sym (list_any-IsPermutation (bytes_eq q) (different texts) (reverse (different texts)) (IsPermutation-reverse (different texts))) ∙ any_different q texts

apart_more : (ks : List (List ℕ)) (t : List ℕ) → Apart ks → list_any (bytes_eq t) ks ≡ false → Apart (ks ++ t ∷ [])
apart_more [] t apart new = (refl, tt)
apart_more (k ∷ ks) t apart new = by (apart_more ks t apart.1) (bytes_eq t k) refl new
  where
    by : (list_any (bytes_eq t) ks ≡ false → Apart (ks ++ t ∷ [])) → (b : Bool) → bytes_eq t k ≡ b → (b || list_any (bytes_eq t) ks) ≡ false → Apart (k ∷ (ks ++ t ∷ []))
    by more true f fails = absurd (true≢false fails)
    by more false f rest = (list_any-append (bytes_eq k) ks (t ∷ []) ∙ (rw (apart.0, differ t k f) refl), more rest)

-- the different texts, from the last to the first, are apart
apart_known : (texts : List (List ℕ)) → Apart (reverse (different texts))
apart_known [] = tt
apart_known (t ∷ ts) = by (apart_known ts) (list_any (bytes_eq t) ts) refl
  where
    by : Apart (reverse (different ts)) → (b : Bool) → list_any (bytes_eq t) ts ≡ b → Apart (reverse (if b then different ts else t ∷ different ts))
    by more true f = more
    by more false f =
        subst (λ (ls : List (List ℕ)). Apart ls) (sym (reverse_onto (different ts) t [])) (apart_more (reverse (different ts)) t more (any_known t ts ∙ f))

-- one text more among the different ones
known_before : (t : List ℕ) (ts : List (List ℕ)) → put_in (reverse (different ts)) t ≡ reverse (different (t ∷ ts))
known_before t ts = by (list_any (bytes_eq t) ts) refl
  where
    by : (b : Bool) → list_any (bytes_eq t) ts ≡ b → put_in (reverse (different ts)) t ≡ reverse (if b then different ts else t ∷ different ts)
    by true f = put_in-known (reverse (different ts)) t (any_known t ts ∙ f)
    by false f = put_in-new (reverse (different ts)) t (any_known t ts ∙ f) ∙ sym (reverse_onto (different ts) t [])

none_of : (t : List ℕ) (es : List EntryValue) → list_any (bytes_eq t) (submitters es) ≡ false → count (λ (x : EntryValue). bytes_eq t x.call.submitter) es ≡ 0
none_of t [] none = refl
none_of t (e ∷ es) none = by (none_of t es) (bytes_eq t e.call.submitter) none
  where
    rest : List EntryValue
    rest = filter (λ (x : EntryValue). bytes_eq t x.call.submitter) es

    by : (list_any (bytes_eq t) (submitters es) ≡ false → length rest ≡ 0) → (b : Bool) → (b || list_any (bytes_eq t) (submitters es)) ≡ false → length (if b then e ∷ rest else rest) ≡ 0
    by before true fails = absurd (true≢false fails)
    by before false more = before more

other : (e : EntryValue) (es : List EntryValue) (k : List ℕ) → bytes_eq e.call.submitter k ≡ false → entries_of es k ≡ entries_of (e ∷ es) k
other e es k fails = rw (differ e.call.submitter k fails) refl

others : (e : EntryValue) (es : List EntryValue) (ks : List (List ℕ)) → list_any (bytes_eq e.call.submitter) ks ≡ false → map (entries_of es) ks ≡ map (entries_of (e ∷ es)) ks
others e es [] none = refl
others e es (k ∷ ks) none = by (others e es ks) (bytes_eq e.call.submitter k) refl none
  where
    by : (list_any (bytes_eq e.call.submitter) ks ≡ false → map (entries_of es) ks ≡ map (entries_of (e ∷ es)) ks) → (b : Bool) → bytes_eq e.call.submitter k ≡ b
        → (b || list_any (bytes_eq e.call.submitter) ks) ≡ false
        → entries_of es k ∷ map (entries_of es) ks ≡ entries_of (e ∷ es) k ∷ map (entries_of (e ∷ es)) ks
    by more true f fails = absurd (true≢false fails)
    by more false f rest =
        ap (λ (c : SubmitterEntries). c ∷ map (entries_of es) ks) (other e es k f)
        ∙ ap (λ (cs : List SubmitterEntries). entries_of (e ∷ es) k ∷ cs) (more rest)

abbrev one_entry : EntryValue → List EntryValue → List ℕ → ℕ → SubmitterEntries
one_entry e es k n = record { submitter = k; entries = n }

same : (e : EntryValue) (es : List EntryValue) (k : List ℕ) → length es < 2 ^ 64 - 1 → bytes_eq e.call.submitter k ≡ true
    → one_entry e es k (counted (entries_of es k).entries true) ≡ entries_of (e ∷ es) k
same e es k few holds = rw (turned e.call.submitter k holds) (ap (one_entry e es k) more)
  where
    test : EntryValue → Bool
    test x = bytes_eq k x.call.submitter

    more : counted (count test es) true ≡ suc (count test es)
    more = let as_many = length-filter test es in let less = count_by-le-length test es in omega (arith, few, as_many, less)

noted : (e : EntryValue) (es : List EntryValue) (ks : List (List ℕ)) → length es < 2 ^ 64 - 1 → Apart ks
    → (list_any (bytes_eq e.call.submitter) ks ≡ false → count (λ (x : EntryValue). bytes_eq e.call.submitter x.call.submitter) es ≡ 0)
    → submitter_noted (map (entries_of es) ks) e.call.submitter ≡ map (entries_of (e ∷ es)) (put_in ks e.call.submitter)
noted e es [] few apart none = rw (itself e.call.submitter, none refl) refl
noted e es (k ∷ ks) few apart none = by (noted e es ks few apart.1) (bytes_eq e.call.submitter k) refl
  where
    t : List ℕ
    t = e.call.submitter

    by : ((list_any (bytes_eq t) ks ≡ false → count (λ (x : EntryValue). bytes_eq t x.call.submitter) es ≡ 0)
        → submitter_noted (map (entries_of es) ks) t ≡ map (entries_of (e ∷ es)) (put_in ks t))
        → (b : Bool) → bytes_eq t k ≡ b
        → (if b then one_entry e es k (counted (entries_of es k).entries true) ∷ map (entries_of es) ks else entries_of es k ∷ submitter_noted (map (entries_of es) ks) t)
        ≡ map (entries_of (e ∷ es)) (if b then k ∷ ks else k ∷ put_in ks t)
    by more true f =
        ap (λ (c : SubmitterEntries). c ∷ map (entries_of es) ks) (same e es k few f)
        ∙ ap (λ (cs : List SubmitterEntries). entries_of (e ∷ es) k ∷ cs)
        (others e es ks (subst (λ (u : List ℕ). list_any (bytes_eq u) ks ≡ false) (sym ((bytes_eq-Decides t k).0 f)) apart.0))
    by more false f =
        ap (λ (c : SubmitterEntries). c ∷ submitter_noted (map (entries_of es) ks) t) (other e es k f)
        ∙ ap (λ (cs : List SubmitterEntries). entries_of (e ∷ es) k ∷ cs) (more (λ rest. none (rw f rest)))

pub is_false : (n b : Bool) → n ≡ not b → n ≡ true → b ≡ false
is_false n true f g = absurd (true≢false (sym g ∙ f))
is_false n false f g = refl

pub is_true : (n b : Bool) → n ≡ not b → n ≡ false → b ≡ true
is_true n true f g = refl
is_true n false f g = absurd (true≢false (sym f ∙ g))

-- a submitter that is not among them is put last
pub noted-new : (cs : List SubmitterEntries) (s : List ℕ) → list_any (bytes_eq s) (map (λ (c : SubmitterEntries). c.submitter) cs) ≡ false
    → cs ++ record { submitter = s; entries = 1 } ∷ [] ≡ submitter_noted cs s
noted-new [] s new = refl
noted-new (c ∷ cs) s new = by (noted-new cs s) (bytes_eq s c.submitter) new
  where
    by : (list_any (bytes_eq s) (map (λ (c : SubmitterEntries). c.submitter) cs) ≡ false → cs ++ record { submitter = s; entries = 1 } ∷ [] ≡ submitter_noted cs s) → (b : Bool)
        → (b || list_any (bytes_eq s) (map (λ (c : SubmitterEntries). c.submitter) cs)) ≡ false
        → c ∷ (cs ++ record { submitter = s; entries = 1 } ∷ [])
        ≡ (if b then record { submitter = c.submitter; entries = counted c.entries true } ∷ cs else c ∷ submitter_noted cs s)
    by more true fails = absurd (true≢false fails)
    by more false rest = ap (λ (ds : List SubmitterEntries). c ∷ ds) (more rest)

-- one that is among them gets one entry more at its place
pub noted-known : (cs : List SubmitterEntries) (s : List ℕ) (d : SubmitterEntries) → list_any (bytes_eq s) (map (λ (c : SubmitterEntries). c.submitter) cs) ≡ true
    → d ≡ get_or cs (position_or_len (bytes_eq s) (map (λ (c : SubmitterEntries). c.submitter) cs)) d
    → set cs (position_or_len (bytes_eq s) (map (λ (c : SubmitterEntries). c.submitter) cs)) (record { submitter = d.submitter; entries = counted d.entries true }) ≡ submitter_noted cs s
noted-known [] s d known is = absurd (true≢false (sym known))
noted-known (c ∷ cs) s d known is = by (noted-known cs s d) (bytes_eq s c.submitter) known is
  where
    first : ℕ
    first = position_or_len (bytes_eq s) (map (λ (c : SubmitterEntries). c.submitter) cs)

    by : (list_any (bytes_eq s) (map (λ (c : SubmitterEntries). c.submitter) cs) ≡ true → d ≡ get_or cs first d
        → set cs first (record { submitter = d.submitter; entries = counted d.entries true }) ≡ submitter_noted cs s)
        → (b : Bool) → (b || list_any (bytes_eq s) (map (λ (c : SubmitterEntries). c.submitter) cs)) ≡ true
        → d ≡ get_or (c ∷ cs) (cond (not b) (1 + first) 0) d
        → set (c ∷ cs) (cond (not b) (1 + first) 0) (record { submitter = d.submitter; entries = counted d.entries true })
        ≡ (if b then record { submitter = c.submitter; entries = counted c.entries true } ∷ cs else c ∷ submitter_noted cs s)
    by more true holds here = rw here refl
    by more false rest there =
        let next : 1 + first ≡ suc first = omega arith in
        rw next (ap (λ (ds : List SubmitterEntries). c ∷ ds) (more rest (subst (λ (n : ℕ). d ≡ get_or (c ∷ cs) n d) next there)))

first_known : (cs : List SubmitterEntries) (s : List ℕ) → list_any (bytes_eq s) (map (λ (c : SubmitterEntries). c.submitter) cs) ≡ true
    → position_or_len (bytes_eq s) (map (λ (c : SubmitterEntries). c.submitter) cs) < length cs
first_known [] s known = absurd (true≢false (sym known))
first_known (c ∷ cs) s known = by (first_known cs s) (bytes_eq s c.submitter) known
  where
    first : ℕ
    first = position_or_len (bytes_eq s) (map (λ (c : SubmitterEntries). c.submitter) cs)

    by : (list_any (bytes_eq s) (map (λ (c : SubmitterEntries). c.submitter) cs) ≡ true → first < length cs) → (b : Bool)
        → (b || list_any (bytes_eq s) (map (λ (c : SubmitterEntries). c.submitter) cs)) ≡ true → cond (not b) (1 + first) 0 < suc (length cs)
    by more true holds = omega arith
    by more false rest = let lt = more rest in omega (arith, lt)

-- and the submitters stay
pub same_submitters : (cs : List SubmitterEntries) (s : List ℕ) → list_any (bytes_eq s) (map (λ (c : SubmitterEntries). c.submitter) cs) ≡ true
    → map (λ (c : SubmitterEntries). c.submitter) (submitter_noted cs s) ≡ map (λ (c : SubmitterEntries). c.submitter) cs
same_submitters [] s known = absurd (true≢false (sym known))
same_submitters (c ∷ cs) s known = by (same_submitters cs s) (bytes_eq s c.submitter) known
  where
    by : (list_any (bytes_eq s) (map (λ (c : SubmitterEntries). c.submitter) cs) ≡ true → map (λ (c : SubmitterEntries). c.submitter) (submitter_noted cs s) ≡ map (λ (c : SubmitterEntries). c.submitter) cs)
        → (b : Bool) → (b || list_any (bytes_eq s) (map (λ (c : SubmitterEntries). c.submitter) cs)) ≡ true
        → map (λ (c : SubmitterEntries). c.submitter) (if b then record { submitter = c.submitter; entries = counted c.entries true } ∷ cs else c ∷ submitter_noted cs s)
        ≡ c.submitter ∷ map (λ (c : SubmitterEntries). c.submitter) cs
    by more true holds = refl
    by more false rest = ap (λ (ks : List (List ℕ)). c.submitter ∷ ks) (more rest)

-- what is read at a place, whatever stands for none
at_place : (cs : List SubmitterEntries) (p : ℕ) (c d : SubmitterEntries) → p < length cs → c ≡ get_or cs p c → d ≡ get_or cs p d → c ≡ d
at_place cs p c d lt f g = get_or_read_under cs p (length cs) c d f lt refl ∙ sym g

-- the same of the code's own values: those that it read at the place, and the sum that it wrote there
pub at_known : (cs : List SubmitterEntries) (ks : List (List ℕ)) (s : List ℕ) (p : ℕ) (c d : SubmitterEntries) (n : ℕ)
    → ks ≡ map (λ (c : SubmitterEntries). c.submitter) cs → list_any (bytes_eq s) ks ≡ true → p ≡ position_or_len (bytes_eq s) ks
    → c ≡ get_or cs p c → d ≡ get_or cs p d → n ≡ counted c.entries true
    → set cs p (record { submitter = d.submitter; entries = n }) ≡ submitter_noted cs s
at_known cs ks s p c d n keys known at here there more =
    let found = first_known cs s (subst (λ (ls : List (List ℕ)). list_any (bytes_eq s) ls ≡ true) keys known) in
    let place : p ≡ position_or_len (bytes_eq s) (map (λ (c : SubmitterEntries). c.submitter) cs) = at ∙ ap (λ (ls : List (List ℕ)). position_or_len (bytes_eq s) ls) keys in
    let lt : p < length cs = rw place found in
    rw (more, at_place cs p c d lt here there, place)
    (noted-known cs s d (subst (λ (ls : List (List ℕ)). list_any (bytes_eq s) ls ≡ true) keys known) (subst (λ (i : ℕ). d ≡ get_or cs i d) place there))

pub kept_keys : (cs : List SubmitterEntries) (ks ls : List (List ℕ)) (s : List ℕ) (p : ℕ) (c d : SubmitterEntries) (n : ℕ)
    → ks ≡ map (λ (c : SubmitterEntries). c.submitter) cs → list_any (bytes_eq s) ks ≡ true → ls ≡ (if list_any (bytes_eq s) ks then ks else ks ++ s ∷ [])
    → p ≡ position_or_len (bytes_eq s) ks → c ≡ get_or cs p c → d ≡ get_or cs p d → n ≡ counted c.entries true
    → ls ≡ map (λ (c : SubmitterEntries). c.submitter) (set cs p (record { submitter = d.submitter; entries = n }))
kept_keys cs ks ls s p c d n keys known stay at here there more =
    stay ∙ ap (λ (b : Bool). if b then ks else ks ++ s ∷ []) known ∙ keys
    ∙ sym (same_submitters cs s (subst (λ (ms : List (List ℕ)). list_any (bytes_eq s) ms ≡ true) keys known))
    ∙ ap (λ (ds : List SubmitterEntries). map (λ (c : SubmitterEntries). c.submitter) ds) (sym (at_known cs ks s p c d n keys known at here there more))

-- the entries of each submitter are those of the definition, in the order in which they are found from the end
pub all_noted : (es : List EntryValue) → length es < 2 ^ 64 → submitters_noted es ≡ map (entries_of es) (reverse (different (submitters es)))
all_noted [] few = refl
all_noted (e ∷ es) few =
    let ks : List (List ℕ) = reverse (different (submitters es)) in
    let fewer : length es < 2 ^ 64 = omega (arith, few) in
    let few_more : length es < 2 ^ 64 - 1 = omega (arith, few) in
    ap (λ (cs : List SubmitterEntries). submitter_noted cs e.call.submitter) (all_noted es fewer)
    ∙ noted e es ks few_more (apart_known (submitters es)) (λ new. none_of e.call.submitter es (sym (any_known e.call.submitter (submitters es)) ∙ new))
    ∙ ap (λ (ls : List (List ℕ)). map (entries_of (e ∷ es)) ls) (known_before e.call.submitter (submitters es))

-- those that are placed from the last to the first are ranked
pub placed_from_last : {X Y : Type 0} (ahead : X → X → Bool) (f : Y → X) (ys : List Y)
    → fold (λ top one. take 10 (placed ahead one top)) [] (map f (reverse ys)) ≡ take 10 (ranked ahead (map f ys))
placed_from_last ahead f [] = refl
placed_from_last {X} {Y} ahead f (y ∷ ys) =
    let step : List X → X → List X = λ top one. take 10 (placed ahead one top) in
    ap (λ (zs : List Y). fold step [] (map f zs)) (reverse_onto ys y [])
    ∙ ap (λ (xs : List X). fold step [] xs) (map-append f (reverse ys) (y ∷ []))
    ∙ fold-append step [] (map f (reverse ys)) (f y ∷ [])
    ∙ ap (λ (top : List X). take 10 (placed ahead (f y) top)) (placed_from_last ahead f ys)
    ∙ placed_among ahead 10 (f y) (ranked ahead (map f ys))

-- the submitters of a history, counted from the end and then placed one by one
pub all_placed : (history entries : List EntryValue) (counts top : List SubmitterEntries) (i : ℕ)
    → entries ≡ history → counts ≡ map (entries_of entries) (reverse (different (submitters entries))) → length counts ≤ i
    → fold (λ top one. take 10 (placed entries_ahead one top)) top (drop i counts) ≡ fold (λ top one. take 10 (placed entries_ahead one top)) [] counts
    → top ≡ most_entries history
all_placed history entries counts top i are found end whole =
    let step : List SubmitterEntries → SubmitterEntries → List SubmitterEntries = λ top one. take 10 (placed entries_ahead one top) in
    sym (ap (λ (cs : List SubmitterEntries). fold step top cs) (drop_all i counts end))
    ∙ whole
    ∙ ap (λ (cs : List SubmitterEntries). fold step [] cs) found
    ∙ placed_from_last entries_ahead (entries_of entries) (different (submitters entries))
    ∙ ap (λ (es : List EntryValue). most_entries es) are
