-- Counts, with one more in front.
use Rattle.std.proofs.Common.{◌≡◌, ◌∙◌, ◌+◌, ◌-◌, ◌^◌, ◌<◌, ◌≤◌, ◌≢◌, ◌==◌, ◌&&◌, ◌||◌, ℕ, zero, suc, Bool, true, false, List, [], ◌∷◌, ◌++◌, length, drop, filter, map, nat_le, nat_lt, get_or, set, take, if◌then◌else◌, refl, sym, ap, append_assoc, arith, eqb-true, subst, true≢false, length-append, length-drop}
use Rattle.std.specs.List.{list_any, range_with_len}
use Rattle.std.specs.Str.{bytes_eq}
use Rattle.std.proofs.lemmas.Grind.{common_steps}
use Rattle.std.proofs.lemmas.List.{drop_more, get_or-set_same, get_or-set_other, length-set}
use Rattle.std.proofs.lemmas.List.FromFn.{length-map-range_with_len}
use Rattle.std.proofs.lemmas.Slice.Eq.{bytes_eq-Decides}
use Rattle.std.proofs.lemmas.List.Sums.{count_by-le-length, length-filter}
use Rattle.work_registry.specs.declared.reply.Reply.{Reply}
use Rattle.work_registry.specs.declared.reply.Reply.TheVariants.{Accepted, Duplicate, Conflict, Rejected}
use Rattle.work_registry.specs.EntryValue.{EntryValue}
use Rattle.work_registry.specs.History.{IsHistory}
use Rattle.work_registry.specs.Rows.{rows_of}
use Rattle.work_registry.specs.ReplyParts.{status_in}
use Rattle.register_tables.specs.declared.tally.Tally.{Tally}
use Rattle.register_tables.specs.declared.shares.Bands.{Bands}
use Rattle.register_tables.specs.declared.conflicts.Conflicted.{Conflicted}
use Rattle.register_tables.specs.Counting.{banded, conflict_noted, counted, is_first, tallied, tallied_all, AreCounted}
use Rattle.register_tables.specs.Summary.{bands_of, conflicts_ahead, count, different, has_conflicts, is_all, is_answered, is_conflict_on, is_half, is_more, is_none, is_quarter, placed, ranked, tally_of}
use Rattle.register_tables.proofs.Firsts.{as_many_in_all}
use Rattle.cwr_record.specs.declared.status.Status.TheVariants as status

count-le : {X : Type 0} (test : X → Bool) (xs : List X) → count test xs ≤ length xs
count-le test xs = let same = length-filter test xs in let less = count_by-le-length test xs in omega (arith, same, less)

pub counted_more : {X : Type 0} (test : X → Bool) (x : X) (xs : List X) → length xs < 2 ^ 64 - 1 → counted (count test xs) (test x) ≡ count test (x ∷ xs)
counted_more {X} test x xs few = by (test x)
  where
    by : (b : Bool) → counted (count test xs) b ≡ length (if b then x ∷ filter test xs else filter test xs)
    by true = let less = count-le test xs in omega (arith, few, less)
    by false = refl

pub tally_more : (e : EntryValue) (es : List EntryValue) → length es < 2 ^ 64 - 1
    → tallied (tallied_all es) (status_in e.reply) (is_first e.reply) ≡ tallied_all (e ∷ es)
tally_more e es few =
    rw (
      counted_more (is_answered status.Accepted) e es few,
      counted_more (is_answered status.Duplicate) e es few,
      counted_more (is_answered status.Conflict) e es few,
      counted_more (is_answered status.Rejected) e es few,
      counted_more (λ (x : EntryValue). is_first x.reply) e es few,
    )
    refl

pub bands_more : (left : ℕ) (lefts : List ℕ) → length lefts < 2 ^ 64 - 1 → banded (bands_of lefts) left ≡ bands_of (left ∷ lefts)
bands_more left lefts few =
    rw (
      counted_more is_none left lefts few,
      counted_more is_quarter left lefts few,
      counted_more is_half left lefts few,
      counted_more is_more left lefts few,
      counted_more is_all left lefts few,
    )
    refl

-- what is left from the place before begins with the element there
pub one_before : {X : Type 0} (xs : List X) (i : ℕ) (x : X) → 0 < i → i ≤ length xs → x ≡ get_or xs (i - 1) x → drop (i - 1) xs ≡ x ∷ drop i xs
one_before {X} xs i x some within is =
    let lt : i - 1 < length xs = omega (arith, some, within) in
    let same : i - 1 + 1 ≡ i = omega (arith, some) in
    subst (λ (n : ℕ). drop (i - 1) xs ≡ x ∷ drop n xs) same (subst (λ (y : X). drop (i - 1) xs ≡ y ∷ drop (i - 1 + 1) xs) (sym is) (drop_more xs (i - 1) x lt))

short : {X : Type 0} (xs : List X) (i n : ℕ) → length xs < n → length (drop i xs) < n
short xs i n few = let left = length-drop i xs in omega (arith, few, left)

-- in a history the first versions are as many as the claims in force
pub tally_all : (history : List EntryValue) → IsHistory history → tallied_all history ≡ tally_of (rows_of history) history
tally_all history is = rw (as_many_in_all history is) refl

pub tally_step : (entries : List EntryValue) (i : ℕ) (e : EntryValue) (tally : Tally) → 0 < i → i ≤ length entries → length entries < 2 ^ 64 - 1
    → e ≡ get_or entries (i - 1) e → tally ≡ tallied_all (drop i entries) → tallied tally (status_in e.reply) (is_first e.reply) ≡ tallied_all (drop (i - 1) entries)
tally_step entries i e tally some within few is so_far =
    rw (one_before entries i e some within is, so_far) (tally_more e (drop i entries) (short entries i (2 ^ 64 - 1) few))

-- the texts that are known are these, each once
pub record AreKnown (known texts : List (List ℕ)) : Type 0 where
  pub same : (text : List ℕ) → list_any (bytes_eq text) known ≡ list_any (bytes_eq text) texts
  pub size : length known ≡ length (different texts)

any_last : {X : Type 0} (test : X → Bool) (xs : List X) (x : X) → list_any test (xs ++ x ∷ []) ≡ (test x || list_any test xs)
any_last test [] x = refl
any_last test (y ∷ ys) x = rw (any_last test ys x) (by (test y) (test x))
  where
    by : (a b : Bool) → (a || (b || list_any test ys)) ≡ (b || (a || list_any test ys))
    by true true = refl
    by true false = refl
    by false b = refl

pub known_more : (known texts : List (List ℕ)) (text : List ℕ) → AreKnown known texts
    → AreKnown (if list_any (bytes_eq text) known then known else known ++ text ∷ []) (text ∷ texts)
known_more known texts text so_far = by (list_any (bytes_eq text) known) refl (list_any (bytes_eq text) texts) refl
  where
    found : (q : List ℕ) (b : Bool) → bytes_eq q text ≡ b → list_any (bytes_eq text) texts ≡ true → list_any (bytes_eq q) known ≡ (b || list_any (bytes_eq q) texts)
    found q true e there = so_far.same q ∙ (rw ((bytes_eq-Decides q text).0 e) there)
    found q false e there = so_far.same q

    by : (b : Bool) → list_any (bytes_eq text) known ≡ b → (c : Bool) → list_any (bytes_eq text) texts ≡ c
        → AreKnown (if b then known else known ++ text ∷ []) (text ∷ texts)
    by true f true g = record { same = λ q. found q (bytes_eq q text) refl g; size = rw g so_far.size }
    by false f false g =
        let longer = length-append known (text ∷ []) in
        record {
          same = λ q. any_last (bytes_eq q) known text ∙ ap (λ (b : Bool). bytes_eq q text || b) (so_far.same q);
          size = rw g (omega (arith, longer, so_far.size));
        }
    by true f false g = absurd (true≢false (sym f ∙ so_far.same text ∙ g))
    by false f true g = absurd (true≢false (sym g ∙ sym (so_far.same text) ∙ f))

-- n numbers from a on begin with a
pub range_before : (i n : ℕ) → 0 < i → i ≤ n → range_with_len (i - 1 + 1) (n - (i - 1)) ≡ (i - 1 + 1) ∷ range_with_len (i + 1) (n - i)
range_before i n some within =
    let one : n - (i - 1) ≡ suc (n - i) = omega (arith, some, within) in
    let same : i - 1 + 1 ≡ i = omega (arith, some) in
    rw (one, same) refl

pub bands_step : (f : ℕ → ℕ) (i n : ℕ) (bands : Bands) → 0 < i → i ≤ n → n < 2 ^ 64 - 1 → bands ≡ bands_of (map f (range_with_len (i + 1) (n - i)))
    → banded bands (f (i - 1 + 1)) ≡ bands_of (map f (range_with_len (i - 1 + 1) (n - (i - 1))))
bands_step f i n bands some within few so_far =
    let many = length-map-range_with_len f (i + 1) (n - i) in
    let small : length (map f (range_with_len (i + 1) (n - i))) < 2 ^ 64 - 1 = omega (arith, few, many) in
    rw (range_before i n some within, so_far) (bands_more (f (i - 1 + 1)) (map f (range_with_len (i + 1) (n - i))) small)

length_noted : (counts : List ℕ) (reply : Reply) → length (conflict_noted counts reply) ≡ length counts
length_noted counts (Accepted w v) = refl
length_noted counts (Duplicate w) = refl
length_noted counts (Conflict w) = by (nat_lt 0 w && nat_le w (length counts))
  where
    by : (guard : Bool) → length (if guard then set counts (w - 1) (counted (get_or counts (w - 1) 0) true) else counts) ≡ length counts
    by true = length-set counts (w - 1) (counted (get_or counts (w - 1) 0) true)
    by false = refl
length_noted counts Rejected = refl

-- what is noted at a place
noted_at : {X : Type 0} (counts : List ℕ) (reply : Reply) (x : X) (xs : List X) (k d : ℕ) → k < length counts → length xs < 2 ^ 64 - 1
    → ((o : ℕ) → get_or counts k o ≡ length xs) → get_or (conflict_noted counts reply) k d ≡ length (if is_conflict_on (k + 1) reply then x ∷ xs else xs)
noted_at counts (Accepted w v) x xs k d lt few held = held d
noted_at counts (Duplicate w) x xs k d lt few held = held d
noted_at counts (Conflict w) x xs k d lt few held = by (nat_lt 0 w && nat_le w (length counts)) refl (w == k + 1) refl
  where
    one : ℕ
    one = counted (get_or counts (w - 1) 0) true

    by : (guard : Bool) → (nat_lt 0 w && nat_le w (length counts)) ≡ guard → (same : Bool) → (w == k + 1) ≡ same
        → get_or (if guard then set counts (w - 1) one else counts) k d ≡ length (if same then x ∷ xs else xs)
    by true g true s =
        let e : w ≡ k + 1 = eqb-true w (k + 1) s in
        let p : w - 1 ≡ k = omega (arith, e) in
        let here : get_or counts k 0 ≡ length xs = held 0 in
        let more : counted (get_or counts k 0) true ≡ suc (length xs) = omega (arith, here, few) in
        rw p (get_or-set_same counts k (counted (get_or counts k 0) true) d lt ∙ more)
    by true g false s =
        let n : k ≢ w - 1 = grind (arith, common_steps) in
        get_or-set_other counts (w - 1) k one d n ∙ held d
    by false g true s = absurd (grind (arith, common_steps))
    by false g false s = held d
noted_at counts Rejected x xs k d lt few held = held d

pub conflicts_more : (works : ℕ) (e : EntryValue) (es : List EntryValue) (counts : List ℕ) → length es < 2 ^ 64 - 1 → AreCounted works es counts
    → AreCounted works (e ∷ es) (conflict_noted counts e.reply)
conflicts_more works e es counts few so_far =
    let size : length (conflict_noted counts e.reply) ≡ length counts = length_noted counts e.reply in
    record {
      size = size ∙ so_far.size;
      each = λ k d lt.
          let on : EntryValue → Bool = λ e. is_conflict_on (k + 1) e.reply in
          let less = count-le on es in
          let small : length (filter on es) < 2 ^ 64 - 1 = omega (arith, less, few) in
          noted_at counts e.reply e (filter on es) k d (rw size at lt) small (λ o. so_far.each k o (rw size at lt));
    }

pub conflicts_step : (works : ℕ) (entries : List EntryValue) (i : ℕ) (e : EntryValue) (counts : List ℕ) → 0 < i → i ≤ length entries → length entries < 2 ^ 64 - 1
    → e ≡ get_or entries (i - 1) e → AreCounted works (drop i entries) counts → AreCounted works (drop (i - 1) entries) (conflict_noted counts e.reply)
conflicts_step works entries i e counts some within few is so_far =
    rw (one_before entries i e some within is) (conflicts_more works e (drop i entries) counts (short entries i (2 ^ 64 - 1) few) so_far)

take_of_more : {X : Type 0} (n : ℕ) (xs : List X) → take n (take (suc n) xs) ≡ take n xs
take_of_more zero xs = refl
take_of_more (suc n) [] = refl
take_of_more {X} (suc n) (x ∷ xs) = ap (λ (ys : List X). x ∷ ys) (take_of_more n xs)

first_of : {X : Type 0} (n : ℕ) (y : X) (ys : List X) → take n (y ∷ take n ys) ≡ take n (y ∷ ys)
first_of zero y ys = refl
first_of {X} (suc n) y ys = ap (λ (zs : List X). y ∷ zs) (take_of_more n ys)

-- the first ones of a list in which one more is placed depend on the first ones alone
pub placed_among : {X : Type 0} (ahead : X → X → Bool) (n : ℕ) (x : X) (xs : List X) → take n (placed ahead x (take n xs)) ≡ take n (placed ahead x xs)
placed_among ahead zero x xs = refl
placed_among ahead (suc n) x [] = refl
placed_among {X} ahead (suc n) x (y ∷ ys) = by (placed_among ahead n x ys) (ahead x y)
  where
    by : take n (placed ahead x (take n ys)) ≡ take n (placed ahead x ys) → (b : Bool)
        → take (suc n) (if b then x ∷ y ∷ take n ys else y ∷ placed ahead x (take n ys)) ≡ take (suc n) (if b then x ∷ y ∷ ys else y ∷ placed ahead x ys)
    by rest true = ap (λ (zs : List X). x ∷ zs) (first_of n y ys)
    by rest false = ap (λ (zs : List X). y ∷ zs) rest

largest_more : (c : Conflicted) (cs tops : List Conflicted) → tops ≡ take 10 (ranked conflicts_ahead (filter has_conflicts cs))
    → (if has_conflicts c then take 10 (placed conflicts_ahead c tops) else tops) ≡ take 10 (ranked conflicts_ahead (filter has_conflicts (c ∷ cs)))
largest_more c cs tops so_far = by (has_conflicts c)
  where
    by : (b : Bool) → (if b then take 10 (placed conflicts_ahead c tops) else tops)
        ≡ take 10 (ranked conflicts_ahead (if b then c ∷ filter has_conflicts cs else filter has_conflicts cs))
    by true = rw so_far (placed_among conflicts_ahead 10 c (ranked conflicts_ahead (filter has_conflicts cs)))
    by false = so_far

pub largest_step : (f : ℕ → Conflicted) (i n : ℕ) (c : Conflicted) (tops : List Conflicted) → 0 < i → i ≤ n → c ≡ f (i - 1 + 1)
    → tops ≡ take 10 (ranked conflicts_ahead (filter has_conflicts (map f (range_with_len (i + 1) (n - i)))))
    → (if has_conflicts c then take 10 (placed conflicts_ahead c tops) else tops) ≡ take 10 (ranked conflicts_ahead (filter has_conflicts (map f (range_with_len (i - 1 + 1) (n - (i - 1))))))
largest_step f i n c tops some within is so_far =
    rw (range_before i n some within, is) (largest_more (f (i - 1 + 1)) (map f (range_with_len (i + 1) (n - i))) tops so_far)

-- two pieces behind one another
pub joined : (old mid new a b : List ℕ) → mid ≡ old ++ a → new ≡ mid ++ b → new ≡ old ++ (a ++ b)
joined old mid new a b f g = g ∙ ap (λ (text : List ℕ). text ++ b) f ∙ append_assoc old a b

pub joined_six : (old m n o p q new a b c d e f : List ℕ) → m ≡ old ++ a → n ≡ m ++ b → o ≡ n ++ c → p ≡ o ++ d → q ≡ p ++ e → new ≡ q ++ f
    → new ≡ old ++ (a ++ b ++ c ++ d ++ e ++ f)
joined_six old m n o p q new a b c d e f u v w x y z =
    joined old q new (a ++ b ++ c ++ d ++ e) f
    (joined old p q (a ++ b ++ c ++ d) e
    (joined old o p (a ++ b ++ c) d
    (joined old n o (a ++ b) c
    (joined old m n a b u v) w) x) y) z
