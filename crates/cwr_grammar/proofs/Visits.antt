-- What a visitor was given, one line further.
use Rattle.std.proofs.Common.{◌≡◌, ℕ, ◌+◌, ◌≤◌, ◌<◌, ◌^◌, Bool, true, false, ◌&&◌, List, [], ◌∷◌, ◌++◌, length, map, drop, Option, Some, None, option_map, is_some, arith, refl, sym, ap, ◌∙◌, subst, append_assoc, length-append}
use Rattle.std.specs.Prelude.{IfSome}
use Rattle.std.specs.Str.Lines.{lines}
use Rattle.std.proofs.lemmas.List.{append-nil}
use Rattle.std.proofs.Math.Bool.{and-false}
use Rattle.cwr_field.specs.Number.{max_count}
use Rattle.cwr_record.specs.declared.works.WorkKind.{WorkKind}
use Rattle.cwr_grammar.specs.declared.role.Role.{Role}
use Rattle.cwr_grammar.specs.declared.role.Role.TheVariants.{FileHeader, GroupHeader, TransactionHeader, Detail, GroupTrailer, FileTrailer, Unnamed}
use Rattle.cwr_grammar.specs.declared.file_counts.FileCounts.{FileCounts}
use Rattle.cwr_grammar.specs.Before.{in_group, in_transaction, groups, transactions, is_file_trailer, is_nil}
use Rattle.cwr_grammar.specs.Counted.{counts_of, FitsHeader}
use Rattle.cwr_grammar.specs.FirstFault.{role_fault, line_fault}
use Rattle.cwr_grammar.specs.RawParts.{RawParts}
use Rattle.cwr_grammar.specs.Roles.{role_of}
use Rattle.cwr_grammar.specs.Visiting.{is_detail, leaves_open, closed, whole_after, open_after, with_line, HasAtMost, MayBeGiven}
use Rattle.cwr_grammar.proofs.Accepted.{detail_is, head_is, head_named, file_head_is, unnamed_is, file_end_is}
use Rattle.cwr_grammar.specs.Collected.{details, raws, raws_after}
use Rattle.cwr_grammar.proofs.Numbers.{HasSmallNumbers, clear_role, small_role}
use Rattle.cwr_grammar.proofs.OneLineFurther.{IsReadTo, OneLine, going_begins, goes_on, no_trailer, trailer, ends_on}
use Rattle.cwr_grammar.specs.ReadUpTo.{Progress, ReaderState, IsOpen, going_on, IsGiven, Visiting}

-- ---- what is open

small_place : (o : Option ℕ) (n : ℕ) → o ≡ Some n → IfSome o (λ m. m < 10 ^ 8) → n ≤ max_count
small_place None n e h = absurd cc
small_place (Some m) n e h = let same : m ≡ n = cc in omega (arith, same, h)

-- nothing is open after a line that ends all
nothing : (s : FileCounts) (p : Progress) → (s.in_group && s.in_transaction) ≡ false → IsOpen (record p { counts = s; is_open = false; current = None })
nothing s p e = record { open_is = refl; counted = sym e; long = tt; few = tt }

one_line_more : (line : List ℕ) (current : Option RawParts) (n : ℕ) → IfSome current (λ t. length t.lines ≡ n) → IfSome (option_map (with_line line) current) (λ t. length t.lines ≡ n + 1)
one_line_more line None n h = tt
one_line_more line (Some t) n h = omega (arith, h, length-append t.lines (line ∷ []))

at_most : (current : Option RawParts) (n m : ℕ) → IfSome current (λ t. length t.lines ≡ n) → n ≤ m → HasAtMost m current
at_most None n m h le = tt
at_most (Some t) n m h le = omega (arith, h, le)

some_mapped : (line : List ℕ) (current : Option RawParts) → is_some (option_map (with_line line) current) ≡ is_some current
some_mapped line None = refl
some_mapped line (Some t) = refl

-- a line without a fault may be given
may_be_given : (role : Role) (before : List Role) (p : Progress) → role_fault before role ≡ None → HasSmallNumbers role
    → IsOpen (record p { counts = counts_of before }) → MayBeGiven role p.is_open p.current
may_be_given (Detail j d) before p clear small h =
    let is = detail_is before j d clear in
    let place = small_place d _ is.5 small in
    record {
      open_is = h.open_is;
      detail = λ e. h.counted ∙ ap (λ (b : Bool). b && in_transaction before) is.0 ∙ is.1;
      room = λ e. at_most p.current _ max_count h.long (omega (arith, place));
      few = h.few;
    }
may_be_given (FileHeader valid) before p clear small h = record { open_is = h.open_is; detail = λ e. absurd cc; room = λ e. absurd cc; few = h.few }
may_be_given (GroupHeader k i) before p clear small h = record { open_is = h.open_is; detail = λ e. absurd cc; room = λ e. absurd cc; few = h.few }
may_be_given (TransactionHeader k j d) before p clear small h = record { open_is = h.open_is; detail = λ e. absurd cc; room = λ e. absurd cc; few = h.few }
may_be_given (GroupTrailer i t r) before p clear small h = record { open_is = h.open_is; detail = λ e. absurd cc; room = λ e. absurd cc; few = h.few }
may_be_given (FileTrailer g t r) before p clear small h = record { open_is = h.open_is; detail = λ e. absurd cc; room = λ e. absurd cc; few = h.few }
may_be_given Unnamed before p clear small h = record { open_is = h.open_is; detail = λ e. absurd cc; room = λ e. absurd cc; few = h.few }

in_no_group : (a b : Bool) → a ≡ false → (a && b) ≡ false
in_no_group a b e = rw e refl

no_lines : (before : List Role) → is_nil before ≡ true → in_group before ≡ false
no_lines [] e = refl
no_lines (b ∷ before) e = absurd cc

-- what is open after it
open_goes : (role : Role) (before : List Role) (line : List ℕ) (p q : Progress) → role_fault before role ≡ None → HasSmallNumbers role → IsOpen (record p { counts = counts_of before })
    → IsOpen (record q { counts = counts_of (role ∷ before); is_open = leaves_open role; current = open_after role line (groups before) (transactions before) p.current })
open_goes (Detail j d) before line p q clear small h =
    let is = detail_is before j d clear in
    let place = small_place d _ is.5 small in
    let here : p.is_open ≡ true = h.counted ∙ ap (λ (b : Bool). b && in_transaction before) is.0 ∙ is.1 in
    let longer = one_line_more line p.current _ h.long in
    record {
      open_is = some_mapped line p.current ∙ h.open_is ∙ here;
      counted = sym (ap (λ (b : Bool). b && in_transaction before) is.0 ∙ is.1);
      long = subst (λ (n : ℕ). IfSome (option_map (with_line line) p.current) (λ t. length t.lines ≡ n)) (omega arith) longer;
      few = at_most (option_map (with_line line) p.current) _ (max_count + 1) longer (omega (arith, place));
    }
open_goes (TransactionHeader (Some k) j d) before line p q clear small h =
    let is = head_is before (Some k) j d clear in
    record { open_is = refl; counted = sym (ap (λ (b : Bool). b && true) is.0); long = refl; few = omega arith }
open_goes (TransactionHeader None j d) before line p q clear small h = absurd (head_named before j d clear)
open_goes (FileHeader valid) before line p q clear small h = nothing _ q (in_no_group (in_group before) (in_transaction before) (no_lines before (file_head_is before valid clear)))
open_goes (GroupHeader k i) before line p q clear small h = nothing _ q refl
open_goes (GroupTrailer i t r) before line p q clear small h = nothing _ q (in_no_group _ (in_transaction before) (and-false _))
open_goes (FileTrailer g t r) before line p q clear small h = nothing _ q (in_no_group (in_group before) (in_transaction before) (file_end_is before g t r clear).0)
open_goes Unnamed before line p q clear small h = absurd (unnamed_is before clear)

-- ---- what was found

-- IsGiven for parts that no Progress holds together: the whole transactions, the open one, and the numbers of groups
-- and of transactions
abbrev AreAll : List RawParts → List RawParts → Option RawParts → (g t : ℕ) → List (List ℕ) → Type 0
AreAll all whole current g t rest = whole ++ going_on current rest ++ raws rest g t ≡ all

ends : (whole : List RawParts) (current : Option RawParts) (line : List ℕ) (rest : List (List ℕ)) → is_detail (role_of line) ≡ false → whole ++ going_on current (line ∷ rest) ≡ closed whole current
ends whole None line rest e = append-nil whole
ends whole (Some t) line rest e = rw (e, append-nil t.lines) refl

-- after a line that ends the open transaction
ended : (all whole : List RawParts) (current : Option RawParts) (g t : ℕ) (line : List ℕ) (rest : List (List ℕ)) → is_detail (role_of line) ≡ false → AreAll all whole current g t (line ∷ rest)
    → closed whole current ++ raws_after (role_of line) line (details rest) (raws rest) g t ≡ all
ended all whole current g t line rest e h = ap (λ (xs : List RawParts). xs ++ raws (line ∷ rest) g t) (sym (ends whole current line rest e)) ∙ h

between : (all whole : List RawParts) (current : Option RawParts) (g t g' t' : ℕ) (line : List ℕ) (rest : List (List ℕ)) → is_detail (role_of line) ≡ false
    → raws_after (role_of line) line (details rest) (raws rest) g t ≡ raws rest g' t' → AreAll all whole current g t (line ∷ rest) → AreAll all (closed whole current) None g' t' rest
between all whole current g t g' t' line rest e more h =
    ap (λ (xs : List RawParts). xs ++ raws rest g' t') (append-nil (closed whole current)) ∙ ap (λ (xs : List RawParts). closed whole current ++ xs) (sym more) ∙ ended all whole current g t line rest e h

goes : (all whole : List RawParts) (current : Option RawParts) (g t : ℕ) (line : List ℕ) (rest : List (List ℕ)) → is_detail (role_of line) ≡ true
    → raws_after (role_of line) line (details rest) (raws rest) g t ≡ raws rest g t → AreAll all whole current g t (line ∷ rest) → AreAll all whole (option_map (with_line line) current) g t rest
goes all whole None g t line rest e more h = ap (λ (xs : List RawParts). whole ++ [] ++ xs) (sym more) ∙ h
goes all whole (Some r) g t line rest e more h =
    let longer : r.lines ++ details (line ∷ rest) ≡ (r.lines ++ line ∷ []) ++ details rest = rw e (sym (append_assoc r.lines (line ∷ []) (details rest))) in
    ap (λ (xs : List (List ℕ)). whole ++ record r { lines = xs } ∷ [] ++ raws rest g t) (sym longer)
    ∙ ap (λ (xs : List RawParts). whole ++ record r { lines = r.lines ++ details (line ∷ rest) } ∷ [] ++ xs) (sym more) ∙ h

given_at : (all whole : List RawParts) (current : Option RawParts) (g t g' t' : ℕ) (rest : List (List ℕ)) → g ≡ g' → t ≡ t' → AreAll all whole current g t rest → AreAll all whole current g' t' rest
given_at all whole current g t g' t' rest p q h = rw (← p, ← q) h

given_goes : (kind : Role) (before : List Role) (all whole : List RawParts) (current : Option RawParts) (line : List ℕ) (rest : List (List ℕ)) → role_of line ≡ kind → is_file_trailer kind ≡ false
    → AreAll all whole current (groups before) (transactions before) (line ∷ rest)
    → AreAll all (whole_after kind whole current) (open_after kind line (groups before) (transactions before) current) (groups (kind ∷ before)) (transactions (kind ∷ before)) rest
given_goes (FileHeader valid) before all whole current line rest p e h = between all whole current (groups before) (transactions before) (groups before) (transactions before) line rest (ap is_detail p) (rw p refl) h
given_goes Unnamed before all whole current line rest p e h = between all whole current (groups before) (transactions before) (groups before) (transactions before) line rest (ap is_detail p) (rw p refl) h
given_goes (GroupTrailer i t r) before all whole current line rest p e h = between all whole current (groups before) (transactions before) (groups before) (transactions before) line rest (ap is_detail p) (rw p refl) h
given_goes (GroupHeader kind i) before all whole current line rest p e h =
    given_at all (closed whole current) None (groups before + 1) 0 (groups (GroupHeader kind i ∷ before)) (transactions (GroupHeader kind i ∷ before)) rest (omega arith) refl
    (between all whole current (groups before) (transactions before) (groups before + 1) 0 line rest (ap is_detail p) (rw p refl) h)
given_goes (TransactionHeader None j d) before all whole current line rest p e h =
    given_at all (closed whole current) None (groups before) (transactions before + 1) (groups (TransactionHeader None j d ∷ before)) (transactions (TransactionHeader None j d ∷ before)) rest refl (omega arith)
    (between all whole current (groups before) (transactions before) (groups before) (transactions before + 1) line rest (ap is_detail p) (rw p refl) h)
given_goes (TransactionHeader (Some kind) j d) before all whole current line rest p e h =
    given_at all (closed whole current) (Some (record { group = groups before; sequence = transactions before; kind = kind; lines = line ∷ [] })) (groups before) (transactions before + 1) (groups (TransactionHeader (Some kind) j d ∷ before)) (transactions (TransactionHeader (Some kind) j d ∷ before)) rest refl (omega arith)
    (let is : raws_after (role_of line) line (details rest) (raws rest) (groups before) (transactions before) ≡ record { group = groups before; sequence = transactions before; kind = kind; lines = line ∷ details rest } ∷ raws rest (groups before) (transactions before + 1) = rw p refl in
    append_assoc (closed whole current) (record { group = groups before; sequence = transactions before; kind = kind; lines = line ∷ details rest } ∷ []) (raws rest (groups before) (transactions before + 1))
    ∙ ap (λ (xs : List RawParts). closed whole current ++ xs) (sym is) ∙ ended all whole current (groups before) (transactions before) line rest (ap is_detail p) h)
given_goes (Detail j d) before all whole current line rest p e h = goes all whole current (groups before) (transactions before) line rest (ap is_detail p) (rw p refl) h
given_goes (FileTrailer g t r) before all whole current line rest p e h = absurd cc

-- all of them, once the file ended
given_whole : (kind : Role) (all whole : List RawParts) (current : Option RawParts) (g t : ℕ) (line : List ℕ) (rest : List (List ℕ)) → role_of line ≡ kind → is_file_trailer kind ≡ true
    → AreAll all whole current g t (line ∷ rest) → whole_after kind whole current ≡ all
given_whole (FileTrailer a b c) all whole current g t line rest p e h =
    let none : raws_after (role_of line) line (details rest) (raws rest) g t ≡ [] = rw p refl in
    sym (append-nil (closed whole current)) ∙ ap (λ (xs : List RawParts). closed whole current ++ xs) (sym none) ∙ ended all whole current g t line rest (ap is_detail p) h
given_whole (FileHeader valid) all whole current g t line rest p e h = absurd cc
given_whole Unnamed all whole current g t line rest p e h = absurd cc
given_whole (GroupTrailer i a b) all whole current g t line rest p e h = absurd cc
given_whole (GroupHeader kind i) all whole current g t line rest p e h = absurd cc
given_whole (TransactionHeader k j d) all whole current g t line rest p e h = absurd cc
given_whole (Detail j d) all whole current g t line rest p e h = absurd cc

-- ---- what a visitor keeps, before a line is given

abbrev pub Kept : (List RawParts → Option RawParts → Type 0) → Role → Bool → Type 0
Kept K role is_open = (whole : List RawParts) × (current : Option RawParts) × K whole current × MayBeGiven role is_open current × (length whole < 2 ^ 63)

pub kept_detail : (K : List RawParts → Option RawParts → Type 0) (role : Role) (is_open : Bool) → Kept K role is_open → is_detail role ≡ true → (whole : List RawParts) × (t : RawParts) × K whole (Some t) × (length t.lines ≤ max_count)
kept_detail K role is_open (whole, Some t, kept, may, few) e = (whole, t, kept, may.room e)
kept_detail K role is_open (whole, None, kept, may, few) e = absurd (let h : false ≡ true = may.open_is ∙ may.detail e in cc)

pub kept_open : (K : List RawParts → Option RawParts → Type 0) (role : Role) (is_open : Bool) → Kept K role is_open → is_open ≡ true → (whole : List RawParts) × (t : RawParts) × K whole (Some t) × (length t.lines ≤ max_count + 1) × (length whole < 2 ^ 63)
kept_open K role is_open (whole, Some t, kept, may, few) e = (whole, t, kept, may.few, few)
kept_open K role is_open (whole, None, kept, may, few) e = absurd (let h : false ≡ true = may.open_is ∙ e in cc)

pub kept_between : (K : List RawParts → Option RawParts → Type 0) (role : Role) (is_open : Bool) → Kept K role is_open → is_open ≡ false → (whole : List RawParts) × K whole None
kept_between K role is_open (whole, Some t, kept, may, few) e = absurd (let h : true ≡ false = may.open_is ∙ e in cc)
kept_between K role is_open (whole, None, kept, may, few) e = (whole, kept)

pub kept_ended : (K L : List RawParts → Option RawParts → Type 0) (role : Role) (is_open : Bool) → Kept K role is_open → is_open ≡ true
    → ((whole : List RawParts) (t : RawParts) → K whole (Some t) → L (whole ++ t ∷ []) None) → (whole : List RawParts) × L whole None
kept_ended K L role is_open kept e ends = let h = kept_open K role is_open kept e in (h.0 ++ h.1 ∷ [], ends h.0 h.1 h.2)

pub fits_is : (role : Role) (kind : Option WorkKind) (t d : Option ℕ) (s : FileCounts) → role ≡ TransactionHeader kind t d → FitsHeader role s → (s.groups < 10 ^ 5) × (s.transactions < 10 ^ 8)
fits_is role kind t d s is fits = rw is at fits

-- ---- and after it

pub gave_detail : (K L : List RawParts → Option RawParts → Type 0) (line : List ℕ) → ((whole : List RawParts) (t : RawParts) → K whole (Some t) → L whole (Some (with_line line t)))
    → (whole : List RawParts) (current : Option RawParts) → is_some current ≡ true → K whole current → L whole (option_map (with_line line) current)
gave_detail K L line gives whole (Some t) e kept = gives whole t kept
gave_detail K L line gives whole None e kept = absurd cc

closed_few : (whole : List RawParts) (current : Option RawParts) (n : ℕ) → length whole ≤ n → length (closed whole current) ≤ n + 1
closed_few whole None n le = omega (arith, le)
closed_few whole (Some t) n le = omega (arith, le, length-append whole (t ∷ []))

-- a line makes one more transaction whole at most
whole_few : (role : Role) (whole : List RawParts) (current : Option RawParts) (n : ℕ) → length whole ≤ n → length (whole_after role whole current) ≤ n + 1
whole_few (Detail j d) whole current n le = omega (arith, le)
whole_few (FileHeader valid) whole current n le = closed_few whole current n le
whole_few (GroupHeader k i) whole current n le = closed_few whole current n le
whole_few (TransactionHeader k j d) whole current n le = closed_few whole current n le
whole_few (GroupTrailer i t r) whole current n le = closed_few whole current n le
whole_few (FileTrailer g t r) whole current n le = closed_few whole current n le
whole_few Unnamed whole current n le = closed_few whole current n le

-- ---- all that holds before a line

-- before the first line
abbrev nothing_read : Progress
nothing_read = record { counts = counts_of []; before = []; is_open = false; whole = []; current = None }

pub visiting_begins : (K : List RawParts → Option RawParts → Type 0) (text : List ℕ) → K [] None → Visiting K text 0 nothing_read
visiting_begins K text kept = record { going = going_begins text (counts_of []) refl; kept = kept; is = nothing (counts_of []) nothing_read refl; few = omega arith; given = refl }

-- a line without a fault may be given
pub visiting_gives : (K : List RawParts → Option RawParts → Type 0) (text : List ℕ) (at : ℕ) (p : Progress) (line : List ℕ) (role : Role)
    → Visiting K text at p → role ≡ role_of line → None ≡ line_fault p.before line → at < 2 ^ 63 → Kept K role p.is_open
visiting_gives K text at p line role v read clear small =
    let none = ap (role_fault (map role_of p.before)) read ∙ clear_role p.before line v.going.goes clear in
    let is = subst (λ (x : FileCounts). IsOpen (record p { counts = x })) v.going.counted v.is in
    (p.whole, p.current, v.kept, may_be_given role (map role_of p.before) p none (small_role line role (sym read)) is, omega (arith, v.few, v.going.few, small))

-- what was read with one line more, which has this role
abbrev further : Progress → Role → List ℕ → ReaderState → Progress
further p role line next = record {
  counts = next.counts;
  before = line ∷ p.before;
  is_open = next.is_open;
  whole = whole_after role p.whole p.current;
  current = open_after role line p.counts.groups p.counts.transactions p.current;
}

-- and then all holds before the next line
pub visiting_goes : (K L : List RawParts → Option RawParts → Type 0) (text : List ℕ) (at n : ℕ) (p : Progress) (next : ReaderState) (line : List ℕ) (role : Role)
    → Visiting K text at p → OneLine text p.before at n line role next.counts → next.counts.is_ended ≡ false → next.is_open ≡ leaves_open role
    → L (whole_after role p.whole p.current) (open_after role line p.counts.groups p.counts.transactions p.current) → Visiting L text (at + n) (further p role line next)
visiting_goes K L text at n p next line role v one goes next_is gave =
    let roles = map role_of p.before in
    let all = raws (lines text) 0 0 in
    let rest = lines (drop (at + n) text) in
    let q : Progress = further p role line next in
    let more = no_trailer text p.counts next.counts at n p.before line role v.going one goes in
    let none = ap (role_fault roles) one.read ∙ clear_role p.before line v.going.goes one.clear in
    let is = subst (λ (x : FileCounts). IsOpen (record p { counts = x })) v.going.counted v.is in
    let P : FileCounts → Type 0 = λ x. IsOpen (record q { counts = x }) in
    let Q : FileCounts → Type 0 = λ x. IsOpen (record q { counts = counts_of (role ∷ roles); is_open = leaves_open role; current = open_after role line x.groups x.transactions p.current }) in
    let opened = subst Q (sym v.going.counted) (open_goes role roles line p q none (small_role line role (sym one.read)) is) in
    let given = subst (IsGiven all p) one.split v.given in
    let R : FileCounts → Type 0 = λ x. IsGiven all (record p { counts = x }) (line ∷ rest) in
    let S : FileCounts → Type 0 = λ x. IsGiven all (record q { counts = counts_of (role ∷ roles); current = open_after role line x.groups x.transactions p.current }) rest in
    let T : FileCounts → Type 0 = λ x. IsGiven all (record q { counts = x }) rest in
    record {
      going = goes_on text p.counts next.counts at n p.before line role v.going one goes;
      kept = gave;
      is = subst P (sym one.counted) (rw next_is opened);
      few = omega (arith, whole_few role p.whole p.current _ v.few);
      given = subst T (sym one.counted) (subst S (sym v.going.counted) (given_goes role roles all p.whole p.current line rest (sym one.read) more (subst R v.going.counted given)));
    }

-- the file ended
pub visiting_ends : (K : List RawParts → Option RawParts → Type 0) (text : List ℕ) (at n : ℕ) (p : Progress) (next : FileCounts) (line : List ℕ) (role : Role)
    → Visiting K text at p → OneLine text p.before at n line role next → next.is_ended ≡ true → IsReadTo text (whole_after role p.whole p.current) next (at + n)
visiting_ends K text at n p next line role v one ended =
    let all = raws (lines text) 0 0 in
    let rest = lines (drop (at + n) text) in
    let last = trailer text p.counts next at n p.before line role v.going one ended in
    let given = subst (IsGiven all p) one.split v.given in
    ends_on text (whole_after role p.whole p.current) p.counts next at n p.before line role v.going one (given_whole role all p.whole p.current p.counts.groups p.counts.transactions line rest (sym one.read) last given) ended

-- after TRL nothing is open
pub none_after : (role : Role) (line : List ℕ) (g t : ℕ) (current : Option RawParts) → is_file_trailer role ≡ true → open_after role line g t current ≡ None
none_after (FileTrailer a b c) line g t current e = refl
none_after (FileHeader valid) line g t current e = absurd cc
none_after Unnamed line g t current e = absurd cc
none_after (GroupTrailer i a b) line g t current e = absurd cc
none_after (GroupHeader kind i) line g t current e = absurd cc
none_after (TransactionHeader k j d) line g t current e = absurd cc
none_after (Detail j d) line g t current e = absurd cc

pub visiting_kept : (K L : List RawParts → Option RawParts → Type 0) (text : List ℕ) (at n : ℕ) (p : Progress) (next : FileCounts) (line : List ℕ) (role : Role)
    → Visiting K text at p → OneLine text p.before at n line role next → next.is_ended ≡ true
    → L (whole_after role p.whole p.current) (open_after role line p.counts.groups p.counts.transactions p.current) → L (whole_after role p.whole p.current) None
visiting_kept K L text at n p next line role v one ended gave =
    subst (L (whole_after role p.whole p.current))
    (none_after role line p.counts.groups p.counts.transactions p.current (trailer text p.counts next at n p.before line role v.going one ended)) gave

nothing_before : (before : List (List ℕ)) (whole : List RawParts) (current : Option RawParts) → length before ≡ 0 → length whole ≤ length before
    → is_some current ≡ (in_group (map role_of before) && in_transaction (map role_of before)) → (whole ≡ []) × (current ≡ None)
nothing_before (b ∷ before) whole current none few is = absurd (omega (arith, none))
nothing_before [] (t ∷ whole) current none few is = absurd (omega (arith, few))
nothing_before [] [] None none few is = (refl, refl)
nothing_before [] [] (Some t) none few is = absurd cc

-- before the first line nothing was given
pub none_given : (K : List RawParts → Option RawParts → Type 0) (text : List ℕ) (at : ℕ) (p : Progress) → Visiting K text at p → length p.before ≡ 0 → (p.whole ≡ []) × (p.current ≡ None)
none_given K text at p v none =
    nothing_before p.before p.whole p.current none v.few (v.is.open_is ∙ v.is.counted ∙ ap (λ (x : FileCounts). x.in_group && x.in_transaction) v.going.counted)
