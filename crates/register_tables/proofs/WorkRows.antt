-- What is kept of the works, with one entry more.
use Rattle.std.proofs.Common.{◌≡◌, ◌≢◌, ◌∙◌, ◌+◌, ◌-◌, ◌^◌, ◌<◌, ◌≤◌, ◌==◌, ◌&&◌, ℕ, suc, Bool, true, false, IsTrue, List, [], ◌∷◌, ◌++◌, Option, Some, None, count_by, length, min, nat_le, nat_lt, get_or, set, if◌then◌else◌, refl, sym, ap, arith, add-zero, zero-add, append-nil, append_assoc, eqb-true}
use Rattle.std.specs.Option.{is_some}
use Rattle.std.specs.List.{filter, flat_map, range_with_len}
use Rattle.std.proofs.lemmas.Grind.{common_steps}
use Rattle.std.proofs.lemmas.List.{get_or-set_same, get_or-set_other, length-set}
use Rattle.std.proofs.lemmas.List.Sums.{sum_by-append, count_by-le-length}
use Rattle.cwr_call.specs.CallValue.{CallValue}
use Rattle.cwr_call.specs.Lawful.{is_iswc}
use Rattle.work_registry.specs.declared.reply.Reply.{Reply}
use Rattle.work_registry.specs.declared.reply.Reply.TheVariants.{Accepted, Duplicate, Conflict, Rejected}
use Rattle.work_registry.specs.EntryValue.{EntryValue, entry_of}
use Rattle.work_registry.specs.Rows.{Row, last_such, or_else, row_of, rows_of, rows_of_entry}
use Rattle.work_registry.specs.History.{IsHistory}
use Rattle.work_registry.specs.Works.{control_of, iswc_in, iswc_of}
use Rattle.work_registry.specs.ReplyParts.{work_in}
use Rattle.work_registry.specs.Indexes.{newer}
use Rattle.register_tables.specs.declared.works.WorkTotals.{WorkTotals}
use Rattle.register_tables.specs.declared.form.Form.{Form}
use Rattle.register_tables.specs.declared.wanted.Wanted.{Wanted}
use Rattle.register_tables.specs.Summary.{count}
use Rattle.register_tables.specs.WorksTable.{is_on, is_wanted_work, kept_of, wanted_line, work_line}
use Rattle.register_tables.specs.WorkTotals.{AreTotals, AreKept, blank_work, totals_of_work, grown, is_first_on, noted}
use Rattle.register_tables.specs.Counting.{is_first}
use Rattle.register_tables.proofs.Firsts.{as_many}

pub rows_of-more : (entries : List EntryValue) (e : EntryValue) → rows_of (entries ++ e ∷ []) ≡ rows_of entries ++ rows_of_entry e.call e.reply
rows_of-more [] e = append-nil (rows_of_entry e.call e.reply)
rows_of-more (x ∷ xs) e = rw (rows_of-more xs e) (sym (append_assoc (rows_of_entry x.call x.reply) (rows_of xs) (rows_of_entry e.call e.reply)))

last_such-more : (p : Row → Bool) (rows : List Row) (r : Row) → last_such p (rows ++ r ∷ []) ≡ (if p r then Some r else last_such p rows)
last_such-more p [] r = refl
last_such-more p (x ∷ xs) r = rw (last_such-more p xs r) (by (p r))
  where
    by : (b : Bool) → or_else (if b then Some r else last_such p xs) (if p x then Some x else None) ≡ (if b then Some r else or_else (last_such p xs) (if p x then Some x else None))
    by true = refl
    by false = refl

-- the ISWC of a work with one row more
pub iswc_of-more : (w : ℕ) (rows : List Row) (r : Row) → iswc_of w (rows ++ r ∷ []) ≡ (if r.work == w then newer r.iswc (iswc_of w rows) else iswc_of w rows)
iswc_of-more w rows r = rw (last_such-more (λ x. (x.work == w) && is_some x.iswc) rows r) (by (r.work == w) r.iswc)
  where
    by : (b : Bool) (i : Option ℕ) → iswc_in (if b && is_some i then Some (record r { iswc = i }) else last_such (λ x. (x.work == w) && is_some x.iswc) rows) ≡ (if b then newer i (iswc_of w rows) else iswc_of w rows)
    by true None = refl
    by true (Some i) = refl
    by false None = refl
    by false (Some i) = refl

-- the first versions on a work with one entry more
pub firsts-more : (w : ℕ) (entries : List EntryValue) (e : EntryValue) → count_by (is_first_on w) (entries ++ e ∷ []) ≡ count_by (is_first_on w) entries + (if is_first_on w e then 1 else 0)
firsts-more w entries e =
    sum_by-append (λ x. if is_first_on w x then 1 else 0) entries (e ∷ [])
    ∙ ap (λ n. count_by (is_first_on w) entries + n) (zero-add (if is_first_on w e then 1 else 0))

-- an entry that is not accepted changes nothing of a work
untouched : (w : ℕ) (entries : List EntryValue) (e : EntryValue) → rows_of_entry e.call e.reply ≡ [] → is_first_on w e ≡ false
    → totals_of_work w (entries ++ e ∷ []) ≡ totals_of_work w entries
untouched w entries e none off = rw (rows_of-more entries e, none, append-nil (rows_of entries), firsts-more w entries e, off, add-zero (count_by (is_first_on w) entries)) refl

and_not : (b : Bool) → (b && false) ≡ false
and_not true = refl
and_not false = refl

not_accepted : (w : ℕ) (e : EntryValue) → is_first e.reply ≡ false → is_first_on w e ≡ false
not_accepted w e none = rw none (and_not (is_on w (work_in e.reply)))

-- nor does one on another work
elsewhere : (k : ℕ) (entries : List EntryValue) (session : ℕ) (call : CallValue) (w v : ℕ) → (w == k) ≡ false
    → totals_of_work k (entries ++ entry_of session call (Accepted w v) ∷ []) ≡ totals_of_work k entries
elsewhere k entries session call w v other =
    let e : EntryValue = entry_of session call (Accepted w v) in
    rw (rows_of-more entries e, iswc_of-more k (rows_of entries) (row_of call w), firsts-more k entries e, other, add-zero (count_by (is_first_on k) entries)) refl

most : (n : ℕ) → n < 2 ^ 64 - 1 → (first : Bool) → (if first then min (n + 1) (2 ^ 64 - 1) else n) ≡ n + (if first then 1 else 0)
most n few true = omega (arith, few)
most n few false = sym (add-zero n)

-- one on it is noted
there : (k : ℕ) (entries : List EntryValue) (session : ℕ) (call : CallValue) (w v : ℕ) → (w == k) ≡ true → length entries < 2 ^ 64 - 1
    → grown (totals_of_work k entries) call.iswc v ≡ totals_of_work k (entries ++ entry_of session call (Accepted w v) ∷ [])
there k entries session call w v same few =
    let e : EntryValue = entry_of session call (Accepted w v) in
    let count : ℕ = count_by (is_first_on k) entries in
    let less : count ≤ length entries = count_by-le-length (is_first_on k) entries in
    let small : count < 2 ^ 64 - 1 = omega (arith, few, less) in
    rw (rows_of-more entries e, iswc_of-more k (rows_of entries) (row_of call w), firsts-more k entries e, same, most count small (v == 1)) refl

-- what is noted at a place
pub noted_at : (works : List WorkTotals) (iswc : Option ℕ) (w v k : ℕ) (d : WorkTotals) → k < length works
    → get_or (noted works iswc (Accepted w v)) k d ≡ (if w == k + 1 then grown (get_or works k blank_work) iswc v else get_or works k d)
noted_at works iswc w v k d lt = by (nat_lt 0 w && nat_le w (length works)) refl (w == k + 1) refl
  where
    x : WorkTotals
    x = grown (get_or works (w - 1) blank_work) iswc v

    by : (guard : Bool) → (nat_lt 0 w && nat_le w (length works)) ≡ guard → (same : Bool) → (w == k + 1) ≡ same
        → get_or (if guard then set works (w - 1) x else works) k d ≡ (if same then grown (get_or works k blank_work) iswc v else get_or works k d)
    by true g true s =
        let e : w ≡ k + 1 = eqb-true w (k + 1) s in
        let p : w - 1 ≡ k = omega (arith, e) in
        rw p (get_or-set_same works k (grown (get_or works k blank_work) iswc v) d lt)
    by true g false s =
        let n : k ≢ w - 1 = grind (arith, common_steps) in
        get_or-set_other works (w - 1) k x d n
    by false g true s = absurd (grind (arith, common_steps))
    by false g false s = refl

length_noted : (works : List WorkTotals) (iswc : Option ℕ) (reply : Reply) → length (noted works iswc reply) ≡ length works
length_noted works iswc (Accepted w v) = by (nat_lt 0 w && nat_le w (length works))
  where
    by : (guard : Bool) → length (if guard then set works (w - 1) (grown (get_or works (w - 1) blank_work) iswc v) else works) ≡ length works
    by true = length-set works (w - 1) (grown (get_or works (w - 1) blank_work) iswc v)
    by false = refl
length_noted works iswc (Duplicate w) = refl
length_noted works iswc (Conflict w) = refl
length_noted works iswc Rejected = refl

newer_code : (iswc older : Option ℕ) → IsTrue (is_iswc iswc) → IsTrue (is_iswc older) → IsTrue (is_iswc (newer iswc older))
newer_code None older p q = q
newer_code (Some i) older p q = p

-- the works are gathered with one entry more
pub gathered_more : (n : ℕ) (entries : List EntryValue) (works : List WorkTotals) (e : EntryValue) → length entries < 2 ^ 64 - 1 → IsTrue (is_iswc e.call.iswc)
    → AreTotals n entries works → AreTotals n (entries ++ e ∷ []) (noted works e.call.iswc e.reply)
gathered_more n entries works e few code gathered = more e.session e.call e.reply code
  where
    still : (session : ℕ) (call : CallValue) (reply : Reply) → rows_of_entry call reply ≡ [] → is_first reply ≡ false → AreTotals n (entries ++ entry_of session call reply ∷ []) works
    still session call reply none later =
        let e' : EntryValue = entry_of session call reply in
        record {
          size = gathered.size;
          each = λ w d lt. gathered.each w d lt ∙ sym (untouched (w + 1) entries e' none (not_accepted (w + 1) e' later));
          codes = gathered.codes;
        }

    more : (session : ℕ) (call : CallValue) (reply : Reply) → IsTrue (is_iswc call.iswc) → AreTotals n (entries ++ entry_of session call reply ∷ []) (noted works call.iswc reply)
    more session call (Accepted w v) c =
        let size : length (noted works call.iswc (Accepted w v)) ≡ length works = length_noted works call.iswc (Accepted w v) in
        record {
          size = size ∙ gathered.size;
          each = λ k d lt. noted_at works call.iswc w v k d (rw size at lt) ∙ value k d (rw size at lt) (w == k + 1) refl;
          codes = λ k d lt. rw (noted_at works call.iswc w v k d (rw size at lt)) (spelled k d (rw size at lt) (w == k + 1));
        }
      where
        value : (k : ℕ) (d : WorkTotals) → k < length works → (same : Bool) → (w == k + 1) ≡ same
            → (if same then grown (get_or works k blank_work) call.iswc v else get_or works k d) ≡ totals_of_work (k + 1) (entries ++ entry_of session call (Accepted w v) ∷ [])
        value k d lt true s = rw (gathered.each k blank_work lt) (there (k + 1) entries session call w v s few)
        value k d lt false s = gathered.each k d lt ∙ sym (elsewhere (k + 1) entries session call w v s)

        spelled : (k : ℕ) (d : WorkTotals) → k < length works → (same : Bool) → IsTrue (is_iswc (if same then grown (get_or works k blank_work) call.iswc v else get_or works k d).iswc)
        spelled k d lt true = newer_code call.iswc (get_or works k blank_work).iswc c (gathered.codes k blank_work lt)
        spelled k d lt false = gathered.codes k d lt
    more session call (Duplicate w) c = still session call (Duplicate w) refl refl
    more session call (Conflict w) c = still session call (Conflict w) refl refl
    more session call Rejected c = still session call Rejected refl refl

-- what is gathered of a history is what its rows say
pub kept_all : (n : ℕ) (history : List EntryValue) (works : List WorkTotals) → IsHistory history → AreTotals n history works → AreKept (rows_of history) n history works
kept_all n history works is gathered = record {
  size = gathered.size;
  each = λ w d lt. gathered.each w d lt ∙ ap (λ (claims : ℕ). record { iswc = iswc_of (w + 1) (rows_of history); claims = claims }) (sym (as_many history is (is_on (w + 1))));
  codes = gathered.codes;
}

-- what is left begins with the line of the next work, where it is wanted
pub next_work : (form : Form) (wanted : Wanted) (history : List EntryValue) (i n : ℕ) → i < n
    → flat_map (work_line form history) (filter (is_wanted_work wanted) (range_with_len (i + 1) (n - i)))
    ≡ wanted_line form wanted (i + 1) (kept_of (rows_of history) (i + 1) history) (control_of (i + 1) (rows_of history))
    ++ flat_map (work_line form history) (filter (is_wanted_work wanted) (range_with_len (i + 1 + 1) (n - (i + 1))))
next_work form wanted history i n lt =
    let one : n - i ≡ suc (n - (i + 1)) = omega (arith, lt) in
    rw one (by (is_wanted_work wanted (i + 1)))
  where
    left : List ℕ
    left = range_with_len (i + 1 + 1) (n - (i + 1))

    by : (b : Bool) → flat_map (work_line form history) (if b then (i + 1) ∷ filter (is_wanted_work wanted) left else filter (is_wanted_work wanted) left)
        ≡ (if b then work_line form history (i + 1) else []) ++ flat_map (work_line form history) (filter (is_wanted_work wanted) left)
    by true = refl
    by false = refl

-- of the works that are left, the next is one where it is wanted
pub next_work_count : (wanted : Wanted) (i n : ℕ) → i < n
    → count (is_wanted_work wanted) (range_with_len (i + 1) (n - i))
    ≡ (if is_wanted_work wanted (i + 1) then 1 else 0) + count (is_wanted_work wanted) (range_with_len (i + 1 + 1) (n - (i + 1)))
next_work_count wanted i n lt =
    let one : n - i ≡ suc (n - (i + 1)) = omega (arith, lt) in
    rw one (by (is_wanted_work wanted (i + 1)))
  where
    left : List ℕ
    left = range_with_len (i + 1 + 1) (n - (i + 1))

    by : (b : Bool) → length (if b then (i + 1) ∷ filter (is_wanted_work wanted) left else filter (is_wanted_work wanted) left)
        ≡ (if b then 1 else 0) + length (filter (is_wanted_work wanted) left)
    by true = omega arith
    by false = omega arith
