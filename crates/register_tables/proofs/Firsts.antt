-- In every history the claims in force are as many as the first versions, on each work and over all.
use Rattle.std.proofs.Common.{◌≡◌, ◌∙◌, ◌+◌, ◌≤◌, ◌==◌, ◌&&◌, ℕ, Bool, true, false, true≢false, List, [], ◌∷◌, ◌++◌, Option, Some, None, MatchOption, count_by, length, if◌then◌else◌, refl, sym, ap, subst, arith, add-zero, zero-add, append-nil, append_assoc, eq-eqb}
use Rattle.std.specs.List.{filter}
use Rattle.std.specs.Option.{option_map_or}
use Rattle.std.proofs.lemmas.Grind.{common_steps}
use Rattle.std.proofs.lemmas.List.Sums.{length-filter, sum_by-append, sum_by-cons}
use Rattle.cwr_call.specs.CallValue.{CallValue}
use Rattle.work_registry.specs.declared.key.Key.{Key}
use Rattle.work_registry.specs.declared.claim.Claim.{Claim}
use Rattle.work_registry.specs.declared.reply.Reply.{Reply}
use Rattle.work_registry.specs.declared.reply.Reply.TheVariants.{Accepted, Duplicate, Conflict, Rejected}
use Rattle.work_registry.specs.EntryValue.{EntryValue, entry_of}
use Rattle.work_registry.specs.Rows.{Row, key_of, last_of_key, or_else, row_of, rows_of, rows_of_entry, same_key}
use Rattle.work_registry.specs.Claims.{claim_from, claim_of, versions_of}
use Rattle.work_registry.specs.History.{IsHistory}
use Rattle.work_registry.specs.Reply.{reply_to}
use Rattle.work_registry.specs.ReplyParts.{version_in, work_in}
use Rattle.work_registry.proofs.Keys.{same_key-refl, same_key-sym, same_key-true}
use Rattle.work_registry.proofs.OneMoreRow.{last_such-push}
use Rattle.work_registry.proofs.SoundRows.{IsSound, Takes, takes-from}
use Rattle.work_registry.proofs.SoundHistories.{Follows, follows-first, follows-rest, sound-none, sound-step}
use Rattle.register_tables.specs.ClaimsTable.{is_current, is_version_of}
use Rattle.register_tables.specs.Counting.{is_first}

abbrev weight : Bool → ℕ
weight b = if b then 1 else 0

-- an entry on such a work made a claim in force
abbrev in_force : (Option ℕ → Bool) → List Row → EntryValue → Bool
in_force on rows e = on (work_in e.reply) && is_current rows e

-- an entry on such a work is a first version
abbrev first : (Option ℕ → Bool) → EntryValue → Bool
first on e = on (work_in e.reply) && is_first e.reply

abbrev of_key : Key → EntryValue → Bool
of_key k e = same_key k (key_of e.call)

-- its version is at most how often its key was accepted
abbrev IsLow : List Row → EntryValue → Type 0
IsLow rows e = (v : ℕ) → version_in e.reply ≡ Some v → v ≤ versions_of (key_of e.call) rows

abbrev AreLow : List Row → List EntryValue → Type 0
AreLow rows [] = Unit
AreLow rows (e ∷ es) = IsLow rows e × AreLow rows es

-- of each key one entry made the claim in force, where there is one, on the work of its last row; and there are as many as first versions
record Holds (rows : List Row) (es : List EntryValue) : Type 0 where
  pub low : AreLow rows es
  pub own : (on : Option ℕ → Bool) (k : Key) → count_by (λ e. of_key k e && in_force on rows e) es ≡ option_map_or (λ r. weight (on (Some r.work))) (last_of_key k rows) 0
  pub all : (on : Option ℕ → Bool) → count_by (in_force on rows) es ≡ count_by (first on) es

count-more : {X : Type 0} (p : X → Bool) (xs : List X) (x : X) → count_by p (xs ++ x ∷ []) ≡ count_by p xs + weight (p x)
count-more p xs x = sum_by-append (λ y. weight (p y)) xs (x ∷ []) ∙ ap (λ n. count_by p xs + n) (zero-add (weight (p x)))

count-first : {X : Type 0} (p : X → Bool) (x : X) (xs : List X) → count_by p (x ∷ xs) ≡ weight (p x) + count_by p xs
count-first p x xs = sum_by-cons (λ y. weight (p y)) x xs

versions-more : (k : Key) (rows : List Row) (r : Row) → versions_of k (rows ++ r ∷ []) ≡ versions_of k rows + weight (same_key r.key k)
versions-more k rows r = count-more (λ x. same_key x.key k) rows r

claim_of-more : (k : Key) (rows : List Row) (r : Row) → claim_of k (rows ++ r ∷ []) ≡ (if same_key r.key k then Some (claim_from (versions_of k rows + 1) r) else claim_of k rows)
claim_of-more k rows r = by (same_key r.key k) (last_such-push (λ x. same_key x.key k) rows r) (versions-more k rows r)
  where
    by : (b : Bool) → last_of_key k (rows ++ r ∷ []) ≡ (if b then Some r else last_of_key k rows) → versions_of k (rows ++ r ∷ []) ≡ versions_of k rows + weight b
        → claim_of k (rows ++ r ∷ []) ≡ (if b then Some (claim_from (versions_of k rows + 1) r) else claim_of k rows)
    by true p q = rw (p, q) refl
    by false p q = rw (p, q, add-zero) refl

-- a row puts the earlier claims of its key out of force
current-more : (rows : List Row) (r : Row) (e : EntryValue) → IsLow rows e → is_current (rows ++ r ∷ []) e ≡ (if same_key r.key (key_of e.call) then false else is_current rows e)
current-more rows r e low = rw (claim_of-more (key_of e.call) rows r) (by (same_key r.key (key_of e.call)) (version_in e.reply) low)
  where
    by : (b : Bool) (o : Option ℕ) → ((v : ℕ) → o ≡ Some v → v ≤ versions_of (key_of e.call) rows)
        → is_version_of (if b then Some (claim_from (versions_of (key_of e.call) rows + 1) r) else claim_of (key_of e.call) rows) o
        ≡ (if b then false else is_version_of (claim_of (key_of e.call) rows) o)
    by true None low = refl
    by true (Some v) low = let le = low v refl in above (versions_of (key_of e.call) rows) v le
      where
        above : (n v : ℕ) → v ≤ n → (n + 1 == v) ≡ false
        above n v le = grind (arith, common_steps)
    by false o low = refl

-- those of the row's key that are out of force with it make up the difference
aged : (on : Option ℕ → Bool) (rows : List Row) (r : Row) (es : List EntryValue) → AreLow rows es
    → count_by (in_force on (rows ++ r ∷ [])) es + count_by (λ e. of_key r.key e && in_force on rows e) es ≡ count_by (in_force on rows) es
aged on rows r [] low = refl
aged on rows r (e ∷ es) low =
    let rest = aged on rows r es low.1 in
    let a = count-first (in_force on (rows ++ r ∷ [])) e es in
    let b = count-first (λ e. of_key r.key e && in_force on rows e) e es in
    let c = count-first (in_force on rows) e es in
    let here : weight (in_force on (rows ++ r ∷ []) e) + weight (of_key r.key e && in_force on rows e) ≡ weight (in_force on rows e) =
    rw (current-more rows r e low.0) (one (same_key r.key (key_of e.call)) (on (work_in e.reply)) (is_current rows e)) in
    omega (arith, rest, a, b, c, here)
  where
    one : (s such current : Bool) → weight (such && (if s then false else current)) + weight (s && (such && current)) ≡ weight (such && current)
    one true true true = refl
    one true true false = refl
    one true false current = refl
    one false true true = refl
    one false true false = refl
    one false false current = refl

-- the claims in force of a key, with a row more
own-aged : (on : Option ℕ → Bool) (k : Key) (rows : List Row) (r : Row) (es : List EntryValue) → AreLow rows es
    → count_by (λ e. of_key k e && in_force on (rows ++ r ∷ []) e) es ≡ (if same_key r.key k then 0 else count_by (λ e. of_key k e && in_force on rows e) es)
own-aged on k rows r [] low = by (same_key r.key k) 0
  where
    by : (b : Bool) (n : ℕ) → n ≡ (if b then n else n)
    by true n = refl
    by false n = refl
own-aged on k rows r (e ∷ es) low =
    let rest = own-aged on k rows r es low.1 in
    let a = count-first (λ e. of_key k e && in_force on (rows ++ r ∷ []) e) e es in
    let b = count-first (λ e. of_key k e && in_force on rows e) e es in
    let here : weight (of_key k e && in_force on (rows ++ r ∷ []) e) ≡ (if same_key r.key k then 0 else weight (of_key k e && in_force on rows e)) =
    rw (current-more rows r e low.0) (one (same_key k (key_of e.call)) refl (same_key r.key k) refl (same_key r.key (key_of e.call)) refl) in
    added (same_key r.key k) _ _ _ _ _ _ a b here rest
  where
    both : (such : Bool) → weight (such && false) ≡ 0
    both true = refl
    both false = refl

    one : (s : Bool) → same_key k (key_of e.call) ≡ s → (t : Bool) → same_key r.key k ≡ t → (u : Bool) → same_key r.key (key_of e.call) ≡ u
        → weight (s && (on (work_in e.reply) && (if u then false else is_current rows e))) ≡ (if t then 0 else weight (s && (on (work_in e.reply) && is_current rows e)))
    one false p true q u f = refl
    one false p false q u f = refl
    one true p true q true f = both (on (work_in e.reply))
    one true p false q false f = refl
    one true p true q false f = absurd (true≢false (sym q ∙ ap (λ n. same_key r.key n) (same_key-true _ _ p) ∙ f))
    one true p false q true f = absurd (true≢false (sym f ∙ ap (λ n. same_key r.key n) (sym (same_key-true _ _ p)) ∙ q))

    added : (t : Bool) (x y n m p q : ℕ) → x ≡ n + m → y ≡ p + q → n ≡ (if t then 0 else p) → m ≡ (if t then 0 else q) → x ≡ (if t then 0 else y)
    added true x y n m p q a b c d = omega arith
    added false x y n m p q a b c d = omega arith

-- a key has a last row where it was accepted
last-versions : (k : Key) (rows : List Row) → MatchOption (last_of_key k rows) (versions_of k rows ≡ 0) (λ q. 1 ≤ versions_of k rows)
last-versions k [] = refl
last-versions k (r ∷ rs) = by (last_of_key k rs) (same_key r.key k) (last-versions k rs) (count-first (λ x. same_key x.key k) r rs)
  where
    by : (o : Option Row) (b : Bool) → MatchOption o (versions_of k rs ≡ 0) (λ q. 1 ≤ versions_of k rs) → versions_of k (r ∷ rs) ≡ weight b + versions_of k rs
        → MatchOption (or_else o (if b then Some r else None)) (versions_of k (r ∷ rs) ≡ 0) (λ q. 1 ≤ versions_of k (r ∷ rs))
    by None true h e = omega (arith, e)
    by None false h e = omega (arith, h, e)
    by (Some q) b h e = omega (arith, h, e)

low-older : (rows : List Row) (r : Row) (es : List EntryValue) → AreLow rows es → AreLow (rows ++ r ∷ []) es
low-older rows r [] low = tt
low-older rows r (e ∷ es) low = (λ v is. (let le = low.0 v is in let more = versions-more (key_of e.call) rows r in omega (arith, le, more)), low-older rows r es low.1)

low-more : (rows : List Row) (es : List EntryValue) (e : EntryValue) → AreLow rows es → IsLow rows e → AreLow rows (es ++ e ∷ [])
low-more rows [] e low one = (one, tt)
low-more rows (x ∷ es) e low one = (low.0, low-more rows es e low.1 one)

and_true : (b : Bool) → weight (b && true) ≡ weight b
and_true true = refl
and_true false = refl

and_false : (b : Bool) → weight (b && false) ≡ 0
and_false true = refl
and_false false = refl

accepted : (rows : List Row) (es : List EntryValue) (session : ℕ) (call : CallValue) (w v : ℕ) → Takes rows (row_of call w) → v ≡ versions_of (key_of call) rows + 1 → Holds rows es
    → Holds (rows ++ row_of call w ∷ []) (es ++ entry_of session call (Accepted w v) ∷ [])
accepted rows es session call w v takes next held = record {
  low = low-more rows' es e (low-older rows r es held.low) (λ u is. (let same : v ≡ u = cc in let more = versions-more k rows r in omega (arith, next, same, rw (same_key-refl k) at more)));
  own = own;
  all = all;
}
  where
    k : Key
    k = key_of call

    r : Row
    r = row_of call w

    rows' : List Row
    rows' = rows ++ r ∷ []

    e : EntryValue
    e = entry_of session call (Accepted w v)

    current : is_current rows' e ≡ true
    current = rw (claim_of-more k rows r, same_key-refl k) (eq-eqb (versions_of k rows + 1) v (sym next))

    own : (on : Option ℕ → Bool) (l : Key) → count_by (λ x. of_key l x && in_force on rows' x) (es ++ e ∷ []) ≡ option_map_or (λ r. weight (on (Some r.work))) (last_of_key l rows') 0
    own on l =
        let last : last_of_key l rows' ≡ (if same_key k l then Some r else last_of_key l rows) = last_such-push (λ x. same_key x.key l) rows r in
        let old : count_by (λ x. of_key l x && in_force on rows' x) es ≡ (if same_key k l then 0 else count_by (λ x. of_key l x && in_force on rows x) es) = own-aged on l rows r es held.low in
        count-more (λ x. of_key l x && in_force on rows' x) es e ∙ rw (old, last, current, same_key-sym l k) (by (same_key k l))
      where
        by : (b : Bool) → (if b then 0 else count_by (λ x. of_key l x && in_force on rows x) es) + weight (b && (on (Some w) && true))
            ≡ option_map_or (λ r. weight (on (Some r.work))) (if b then Some r else last_of_key l rows) 0
        by true = zero-add (weight (on (Some w) && true)) ∙ and_true (on (Some w))
        by false = add-zero (count_by (λ x. of_key l x && in_force on rows x) es) ∙ held.own on l

    all : (on : Option ℕ → Bool) → count_by (in_force on rows') (es ++ e ∷ []) ≡ count_by (first on) (es ++ e ∷ [])
    all on =
        let older = aged on rows r es held.low in
        let one : weight (in_force on rows' e) ≡ weight (on (Some w)) = rw current (and_true (on (Some w))) in
        let new = count-more (in_force on rows') es e in
        let firsts = count-more (first on) es e in
        let same = held.all on in
        by (last_of_key k rows) refl (last-versions k rows) older one new firsts same (held.own on k)
      where
        by : (o : Option Row) → last_of_key k rows ≡ o → MatchOption o (versions_of k rows ≡ 0) (λ q. 1 ≤ versions_of k rows)
            → count_by (in_force on rows') es + count_by (λ x. of_key k x && in_force on rows x) es ≡ count_by (in_force on rows) es
            → weight (in_force on rows' e) ≡ weight (on (Some w))
            → count_by (in_force on rows') (es ++ e ∷ []) ≡ count_by (in_force on rows') es + weight (in_force on rows' e)
            → count_by (first on) (es ++ e ∷ []) ≡ count_by (first on) es + weight (first on e)
            → count_by (in_force on rows) es ≡ count_by (first on) es
            → count_by (λ x. of_key k x && in_force on rows x) es ≡ option_map_or (λ r. weight (on (Some r.work))) o 0
            → count_by (in_force on rows') (es ++ e ∷ []) ≡ count_by (first on) (es ++ e ∷ [])
        by None last none older one new firsts same own =
            let is : v ≡ 1 = omega (arith, next, none) in
            let test : (v == 1) ≡ true = eq-eqb v 1 is in
            let more : weight (first on e) ≡ weight (on (Some w)) = rw test (and_true (on (Some w))) in
            omega (arith, older, one, new, firsts, same, own, more)
        by (Some q) last some older one new firsts same own =
            let test : (v == 1) ≡ false = later v (versions_of k rows) next some in
            let more : weight (first on e) ≡ 0 = rw test (and_false (on (Some w))) in
            let there : weight (on (Some q.work)) ≡ weight (on (Some w)) = ap (λ n. weight (on (Some n))) (takes.mine q last) in
            omega (arith, older, one, new, firsts, same, own, more, there)
          where
            later : (v n : ℕ) → v ≡ n + 1 → 1 ≤ n → (v == 1) ≡ false
            later v n is some = grind (arith, common_steps)

no_version : (claim : Option Claim) → is_version_of claim None ≡ false
no_version None = refl
no_version (Some claim) = refl

not_accepted : (rows : List Row) (es : List EntryValue) (session : ℕ) (call : CallValue) (reply : Reply) → version_in reply ≡ None → is_first reply ≡ false → Holds rows es
    → Holds rows (es ++ entry_of session call reply ∷ [])
not_accepted rows es session call reply unversioned later held = record {
  low = low-more rows es e held.low (λ v is. absurd (cc));
  own = λ on k. (let none : weight (of_key k e && in_force on rows e) ≡ 0 = rw stale (both (of_key k e) (on (work_in reply))) in
      count-more (λ x. of_key k x && in_force on rows x) es e ∙ rw (none, add-zero (count_by (λ x. of_key k x && in_force on rows x) es)) (held.own on k));
  all = λ on. (let a : weight (in_force on rows e) ≡ 0 = rw stale (and_false (on (work_in reply))) in
      let b : weight (first on e) ≡ 0 = rw later (and_false (on (work_in reply))) in
      let new = count-more (in_force on rows) es e in
      let firsts = count-more (first on) es e in
      let same = held.all on in
      omega (arith, a, b, new, firsts, same));
}
  where
    e : EntryValue
    e = entry_of session call reply

    stale : is_current rows e ≡ false
    stale = rw unversioned (no_version (claim_of (key_of call) rows))

    both : (s such : Bool) → weight (s && (such && false)) ≡ 0
    both true such = and_false such
    both false such = refl

step : (rows : List Row) (es : List EntryValue) (session : ℕ) (call : CallValue) (reply : Reply) → IsSound rows → reply ≡ reply_to rows call → Holds rows es
    → Holds (rows ++ rows_of_entry call reply) (es ++ entry_of session call reply ∷ [])
step rows es session call (Accepted w v) sound is held = let t = takes-from rows call w v sound (sym is) in accepted rows es session call w v t.0 t.1 held
step rows es session call (Duplicate w) sound is held = rw (append-nil rows) (not_accepted rows es session call (Duplicate w) refl refl held)
step rows es session call (Conflict w) sound is held = rw (append-nil rows) (not_accepted rows es session call (Conflict w) refl refl held)
step rows es session call Rejected sound is held = rw (append-nil rows) (not_accepted rows es session call Rejected refl refl held)

from : (h : List EntryValue) (rows : List Row) (es : List EntryValue) → IsSound rows → Follows rows h → Holds rows es → Holds (rows ++ rows_of h) (es ++ h)
from [] rows es sound follows held = rw (append-nil rows, append-nil es) held
from (e ∷ h) rows es sound follows held =
    let is = follows-first rows e h follows in
    let more : List Row = rows ++ rows_of_entry e.call e.reply in
    let all : Holds (more ++ rows_of h) ((es ++ e ∷ []) ++ h) = from h more (es ++ e ∷ []) (sound-step rows e.call e.reply sound is) (follows-rest rows e h follows) (step rows es e.session e.call e.reply sound is held) in
    subst (λ (rs : List Row). Holds rs (es ++ e ∷ h)) (append_assoc rows (rows_of_entry e.call e.reply) (rows_of h))
    (subst (λ (xs : List EntryValue). Holds (more ++ rows_of h) xs) (append_assoc es (e ∷ []) h) all)

-- the claims in force on such works are as many as the first versions
pub as_many : (h : List EntryValue) → IsHistory h → (on : Option ℕ → Bool)
    → count_by (λ e. on (work_in e.reply) && is_current (rows_of h) e) h ≡ count_by (λ e. on (work_in e.reply) && is_first e.reply) h
as_many h is on = (from h [] [] sound-none is (record { low = tt; own = λ on k. refl; all = λ on. refl })).all on

-- and all of them
pub as_many_in_all : (h : List EntryValue) → IsHistory h → length (filter (λ e. is_first e.reply) h) ≡ length (filter (is_current (rows_of h)) h)
as_many_in_all h is = length-filter (λ e. is_first e.reply) h ∙ sym (as_many h is (λ o. true)) ∙ sym (length-filter (is_current (rows_of h)) h)
