-- The line after those that were read: its faults, and what follows where it has none.
use Rattle.std.proofs.Common.{◌≡◌, ◌∙◌, ℕ, ◌+◌, ◌<◌, ◌≤◌, Bool, true, false, List, [], ◌∷◌, ◌++◌, length, Option, Some, None, arith, ap, sym, subst, refl, append_assoc, inl, inr, eq-eqb}
use Rattle.std.specs.Prelude.{◌⊎◌, ◌↔◌, ◌==◌, ◌&&◌, IsTrue, if◌then◌else◌}
use Rattle.cwr_call.specs.CallValue.{CallValue}
use Rattle.std.specs.List.{flat_map, AllByRecursion}
use Rattle.std.proofs.lemmas.List.{length_push, append-nil}
use Rattle.std.proofs.lemmas.List.Folds.{list_all-append}
use Rattle.cwr_record.specs.FaultOrder.{IsNoLater}
use Rattle.cwr_record.specs.Lines.{line_of}
use Rattle.cwr_record.specs.declared.status.Status.{Status}
use Rattle.cwr_record.specs.declared.status.Status.TheVariants as status
use Rattle.work_registry.specs.declared.reply.Reply.{Reply}
use Rattle.work_registry.specs.declared.reply.Reply.TheVariants.{Accepted, Duplicate, Conflict, Rejected}
use Rattle.work_registry.specs.EntryValue.{EntryValue, entry_of}
use Rattle.work_registry.specs.Rows.{rows_of}
use Rattle.work_registry.specs.Reply.{reply_to}
use Rattle.work_registry.specs.Replay.{is_opening}
use Rattle.work_registry.specs.RegisterLine.{EntryLine, IsEntryLine, head, head_of, fault}
use Rattle.work_registry.specs.ReplyParts.{status_in}
use Rattle.work_registry.specs.Register.{work_of, version_of, line_for, entry_line, entry_lines, count_line, register_text, IsWholeEntry}
use Rattle.work_registry.specs.RegisterFaults.{in_front, lines, has_end, IsNoEntry, Tells, HasNumber, HasFaultAfter, IsFault, IsLeastFault, IsRefusal}
use Rattle.work_registry.specs.RegisterReading.{IsReadTo}
use Rattle.std.proofs.lemmas.Bool.Decides.{nat_tests}
use Rattle.cwr_field.proofs.lemmas.Tests.{both}
use Rattle.work_registry.specs.declared.register.refusal.RegisterRefusal.{RegisterRefusal}
use Rattle.work_registry.specs.declared.register.refusal.RegisterRefusal.TheVariants.{Fault}
use Rattle.work_registry.proofs.RegisterLines.{lines_last}
use Rattle.work_registry.proofs.RegisterFirstLine.{later, has_last, no_line, no_count, unended_count}

-- a line without LF says nothing
pub unended_entry : (line : List ℕ) → has_end line ≡ false → IsNoEntry line
unended_entry line none x h =
    let no : true ≡ false = sym (has_last (line_of head (head_of x) ++ flat_map (line_of fault) x.call.faults)) ∙ ap has_end (sym h.text) ∙ none in
    cc

-- ---- the fault of the next line is the least

after_line : (limit count : ℕ) (text rest line : List ℕ) (h : List EntryValue) (more : List (List ℕ)) (j m : ℕ) → IsReadTo limit text count h rest → lines rest ≡ line ∷ more
    → IsFault limit text j m → HasFaultAfter count h (line ∷ more) j m
after_line limit count text rest line h more j m r e f = let P : List (List ℕ) → Type 0 = λ ls. HasFaultAfter count h ls j m in subst P e (r.after j m f)

before_line : (limit count : ℕ) (text rest line : List ℕ) (h : List EntryValue) (more : List (List ℕ)) (j m : ℕ) → IsReadTo limit text count h rest → lines rest ≡ line ∷ more
    → HasFaultAfter count h (line ∷ more) j m → IsFault limit text j m
before_line limit count text rest line h more j m r e f = r.before j m (let P : List (List ℕ) → Type 0 = λ ls. HasFaultAfter count h ls j m in subst P (sym e) f)

pub line_fault : (limit count n : ℕ) (text rest line : List ℕ) (h : List EntryValue) (more : List (List ℕ)) → IsReadTo limit text count h rest → lines rest ≡ line ∷ more
    → HasNumber count h line n → ((m : ℕ) → HasNumber count h line m → n ≤ m) → IsLeastFault limit text (length h + 2) n
line_fault limit count n text rest line h more r e has least =
    record {
      has = before_line limit count text rest line h more (length h + 2) n r e (inl (refl, has));
      least = λ j m f. by j m (after_line limit count text rest line h more j m r e f);
    }
  where
    by : (j m : ℕ) → HasFaultAfter count h (line ∷ more) j m → IsNoLater (length h + 2) n j m
    by j m (inl f) = inr (sym f.0, least m f.1)
    by j m (inr f) = inl (let le = later count (h ++ f.1.0 ∷ []) more j m f.1.2 in omega (arith, le, length_push h f.1.0))

pub end_fault : (limit count : ℕ) (text rest : List ℕ) (h : List EntryValue) → IsReadTo limit text count h rest → rest ≡ [] → length h < count → IsLeastFault limit text (length h + 2) 2
end_fault limit count text rest h r e lt =
    let none : lines rest ≡ [] = ap lines e in
    record {
      has = r.before (length h + 2) 2 (let P : List (List ℕ) → Type 0 = λ ls. HasFaultAfter count h ls (length h + 2) 2 in subst P (sym none) (refl, refl, lt));
      least = λ j m f. by j m (let P : List (List ℕ) → Type 0 = λ ls. HasFaultAfter count h ls j m in subst P none (r.after j m f));
    }
  where
    by : (j m : ℕ) → HasFaultAfter count h [] j m → IsNoLater (length h + 2) 2 j m
    by j m f = inr (sym f.0, let n = f.1 in omega (arith, n))

-- ---- the numbers that a line can have

one_first : (count : ℕ) (h : List EntryValue) (line : List ℕ) (m : ℕ) → HasNumber count h line m → 1 ≤ m
one_first count h line m (inl (lt, inl f)) = let n = f.0 in omega (arith, n)
one_first count h line m (inl (lt, inr (inl f))) = let n = f.0 in omega (arith, n)
one_first count h line m (inl (lt, inr (inr f))) = let n = f.0 in omega (arith, n)
one_first count h line m (inr f) = let n = f.1 in omega (arith, n)

two_first : (count : ℕ) (h : List EntryValue) (line : List ℕ) (x : EntryLine) (m : ℕ) → IsEntryLine line x → HasNumber count h line m → 2 ≤ m
two_first count h line x m says (inl (lt, inl f)) = absurd (f.1 x says)
two_first count h line x m says (inl (lt, inr (inl f))) = let n = f.0 in omega (arith, n)
two_first count h line x m says (inl (lt, inr (inr f))) = let n = f.0 in omega (arith, n)
two_first count h line x m says (inr f) = let n = f.1 in omega (arith, n)

three_first : (count : ℕ) (h : List EntryValue) (line : List ℕ) (x : EntryLine) (m : ℕ) → length h < count → IsEntryLine line x → ((y : EntryLine) → IsEntryLine line y → y ≡ x) → x.index ≡ length h + 1
    → HasNumber count h line m → 3 ≤ m
three_first count h line x m counted says only place (inl (lt, inl f)) = absurd (f.1 x says)
three_first count h line x m counted says only place (inl (lt, inr (inl f))) = absurd (f.1.2 (ap (λ (y : EntryLine). y.index) (only f.1.0 f.1.1) ∙ place))
three_first count h line x m counted says only place (inl (lt, inr (inr f))) = let n = f.0 in omega (arith, n)
three_first count h line x m counted says only place (inr f) = absurd (let le = f.0 in omega (arith, le, counted))

no_number : (count : ℕ) (h : List EntryValue) (line : List ℕ) (x : EntryLine) (m : ℕ) → length h < count → IsEntryLine line x → ((y : EntryLine) → IsEntryLine line y → y ≡ x) → x.index ≡ length h + 1
    → Tells x (reply_to (rows_of h) x.call) → HasNumber count h line m → ⊥
no_number count h line x m counted says only place tells (inl (lt, inl f)) = f.1 x says
no_number count h line x m counted says only place tells (inl (lt, inr (inl f))) = f.1.2 (ap (λ (y : EntryLine). y.index) (only f.1.0 f.1.1) ∙ place)
no_number count h line x m counted says only place tells (inl (lt, inr (inr f))) =
    let P : EntryLine → Type 0 = λ y. Tells y (reply_to (rows_of h) y.call) in
    f.1.2 (subst P (sym (only f.1.0 f.1.1)) tells)
no_number count h line x m counted says only place tells (inr f) = let le = f.0 in absurd (omega (arith, le, counted))

pub one_fault : (limit count : ℕ) (text rest line : List ℕ) (h : List EntryValue) (more : List (List ℕ)) → IsReadTo limit text count h rest → lines rest ≡ line ∷ more → length h < count
    → IsNoEntry line → IsLeastFault limit text (length h + 2) 1
one_fault limit count text rest line h more r e counted none =
    line_fault limit count 1 text rest line h more r e (inl (counted, inl (refl, none))) (λ m f. one_first count h line m f)

pub two_fault : (limit count : ℕ) (text rest line : List ℕ) (h : List EntryValue) (more : List (List ℕ)) (x : EntryLine) → IsReadTo limit text count h rest → lines rest ≡ line ∷ more → length h < count
    → IsEntryLine line x → (x.index ≡ length h + 1 → ⊥) → IsLeastFault limit text (length h + 2) 2
two_fault limit count text rest line h more x r e counted says wrong =
    line_fault limit count 2 text rest line h more r e (inl (counted, inr (inl (refl, (x, says, wrong))))) (λ m f. two_first count h line x m says f)

pub three_fault : (limit count : ℕ) (text rest line : List ℕ) (h : List EntryValue) (more : List (List ℕ)) (x : EntryLine) → IsReadTo limit text count h rest → lines rest ≡ line ∷ more → length h < count
    → IsEntryLine line x → ((y : EntryLine) → IsEntryLine line y → y ≡ x) → x.index ≡ length h + 1 → (Tells x (reply_to (rows_of h) x.call) → ⊥) → IsLeastFault limit text (length h + 2) 3
three_fault limit count text rest line h more x r e counted says only place wrong =
    line_fault limit count 3 text rest line h more r e (inl (counted, inr (inr (refl, (x, says, wrong))))) (λ m f. three_first count h line x m counted says only place f)

past : (count : ℕ) (h : List EntryValue) (line : List ℕ) (m : ℕ) → count ≤ length h → HasNumber count h line m → 2 ≤ m
past count h line m full (inl f) = absurd (let lt = f.0 in omega (arith, lt, full))
past count h line m full (inr f) = let n = f.1 in omega (arith, n)

first_line : (text : List ℕ) → 0 < length text → (line : List ℕ) × (more : List (List ℕ)) × (lines text ≡ line ∷ more)
first_line [] some = absurd (omega arith)
first_line (b ∷ text) some = by (b == 10) refl
  where
    front : (ls : List (List ℕ)) → (line : List ℕ) × (more : List (List ℕ)) × (in_front b ls ≡ line ∷ more)
    front [] = (b ∷ [], [], refl)
    front (l ∷ ls) = (b ∷ l, ls, refl)

    by : (t : Bool) → (b == 10) ≡ t → (line : List ℕ) × (more : List (List ℕ)) × (lines (b ∷ text) ≡ line ∷ more)
    by true is = (10 ∷ [], lines text, ap (λ (u : Bool). if u then (10 ∷ []) ∷ lines text else in_front b (lines text)) is)
    by false is = let f = front (lines text) in (f.0, f.1, ap (λ (u : Bool). if u then (10 ∷ []) ∷ lines text else in_front b (lines text)) is ∙ f.2)

-- bytes after the last entry
pub tail_fault : (limit count : ℕ) (text rest : List ℕ) (h : List EntryValue) → IsReadTo limit text count h rest → 0 < length rest → count ≡ length h → IsLeastFault limit text (length h + 2) 2
tail_fault limit count text rest h r some full =
    let f = first_line rest some in
    line_fault limit count 2 text rest f.0 h f.1 r f.2 (inr (let e = full in omega (arith, e), refl)) (λ m g. past count h f.0 m (let e = full in omega (arith, e)) g)

-- ---- one entry more

-- a status, a work and a version are those of one reply at most
reply_from : Status → ℕ → ℕ → Reply
reply_from status.Accepted work version = Accepted work version
reply_from status.Duplicate work version = Duplicate work
reply_from status.Conflict work version = Conflict work
reply_from status.Rejected work version = Rejected

reply_again : (r : Reply) → reply_from (status_in r) (work_of r) (version_of r) ≡ r
unfolding reply_from
reply_again (Accepted work version) = refl
reply_again (Duplicate work) = refl
reply_again (Conflict work) = refl
reply_again Rejected = refl

-- what a line tells of an entry is the entry, but for its session
pub entry_again : (index : ℕ) (a b : EntryValue) → line_for index a.call a.reply ≡ line_for index b.call b.reply → a.session ≡ b.session → a ≡ b
entry_again index a b e s =
    let call = ap (λ (x : EntryLine). x.call) e in
    let reply : a.reply ≡ b.reply = sym (reply_again a.reply) ∙ ap (λ (x : EntryLine). reply_from x.status x.work x.version) e ∙ reply_again b.reply in
    entry_is a.session b.session a.call b.call a.reply b.reply s call reply
  where
    entry_is : (s s' : ℕ) (c c' : CallValue) (r r' : Reply) → s ≡ s' → c ≡ c' → r ≡ r'
        → let x : EntryValue = entry_of s c r in
        let y : EntryValue = entry_of s' c' r' in x ≡ y
    entry_is s s' c c' r r' p q t = rw (p, q, t) refl

told_line : (index : ℕ) (x : EntryLine) (r : Reply) → x.index ≡ index → Tells x r → line_for index x.call r ≡ x
told_line index x r place tells =
    line_is index x.index (status_in r) x.status (work_of r) x.work (version_of r) x.version (sym place) (sym tells.status) (sym tells.work) (sym tells.version)
  where
    line_is : (i i' : ℕ) (s s' : Status) (w w' v v' : ℕ) → i ≡ i' → s ≡ s' → w ≡ w' → v ≡ v'
        → let a : EntryLine = record { index = i; call = x.call; status = s; work = w; version = v } in
        let b : EntryLine = record { index = i'; call = x.call; status = s'; work = w'; version = v' } in a ≡ b
    line_is i i' s s' w w' v v' p q t u = rw (p, q, t, u) refl

entry_lines-push : (index : ℕ) (es : List EntryValue) (e : EntryValue) → entry_lines index (es ++ e ∷ []) ≡ entry_lines index es ++ entry_line (index + length es) e.call e.reply
entry_lines-push index [] e = ap (λ (i : ℕ). entry_line i e.call e.reply ++ []) (let z : index ≡ index + 0 = omega arith in z) ∙ append-nil (entry_line (index + 0) e.call e.reply)
entry_lines-push index (d ∷ es) e =
    let n : index + 1 + length es ≡ index + length (d ∷ es) = omega arith in
    ap (λ (text : List ℕ). entry_line index d.call d.reply ++ text) (entry_lines-push (index + 1) es e ∙ ap (λ (i : ℕ). entry_lines (index + 1) es ++ entry_line i e.call e.reply) n)
    ∙ sym (append_assoc (entry_line index d.call d.reply) (entry_lines (index + 1) es) (entry_line (index + length (d ∷ es)) e.call e.reply))

pub opening_push : (es : List EntryValue) (e : EntryValue) → is_opening es ≡ true → e.session ≡ 0 → is_opening (es ++ e ∷ []) ≡ true
opening_push es e h s =
    list_all-append (λ (x : EntryValue). x.session == 0) es (e ∷ [])
    ∙ both (is_opening es) ((e.session == 0) && true) h (both (e.session == 0) true (eq-eqb e.session 0 s) refl)

whole_push : (es : List EntryValue) (e : EntryValue) → AllByRecursion IsWholeEntry es → IsWholeEntry e → AllByRecursion IsWholeEntry (es ++ e ∷ [])
whole_push [] e p q = (q, tt)
whole_push (d ∷ es) e p q = (p.0, whole_push es e p.1 q)

whole_of : (line : List ℕ) (index : ℕ) (e : EntryValue) → IsEntryLine line (line_for index e.call e.reply) → IsWholeEntry e
whole_of line index e is =
    record {
      fits = record { work = is.work; version = is.version };
      call = is.call;
    }

-- the text of one entry more
one_more : (text start rest line more : List ℕ) (h : List EntryValue) (e : EntryValue) → text ≡ start ++ (entry_lines 1 h ++ rest) → rest ≡ line ++ 10 ∷ more
    → line ++ 10 ∷ [] ≡ entry_line (length h + 1) e.call e.reply → text ≡ start ++ (entry_lines 1 (h ++ e ∷ []) ++ more)
one_more text start rest line more h e so_far split is =
    let n : length h + 1 ≡ 1 + length h = omega arith in
    let lines_are : entry_lines 1 (h ++ e ∷ []) ≡ entry_lines 1 h ++ (line ++ 10 ∷ []) =
    entry_lines-push 1 h e ∙ ap (λ (i : ℕ). entry_lines 1 h ++ entry_line i e.call e.reply) (sym n) ∙ ap (λ (xs : List ℕ). entry_lines 1 h ++ xs) (sym is) in
    let whole : entry_lines 1 (h ++ e ∷ []) ++ more ≡ entry_lines 1 h ++ rest =
    ap (λ (xs : List ℕ). xs ++ more) lines_are ∙ append_assoc (entry_lines 1 h) (line ++ 10 ∷ []) more
    ∙ ap (λ (xs : List ℕ). entry_lines 1 h ++ xs) (append_assoc line (10 ∷ []) more ∙ sym split) in
    so_far ∙ ap (λ (xs : List ℕ). start ++ xs) (sym whole)

pub next_read : (limit count : ℕ) (text rest line more : List ℕ) (h : List EntryValue) (x : EntryLine) → IsReadTo limit text count h rest
    → rest ≡ line ++ 10 ∷ more → lines rest ≡ (line ++ 10 ∷ []) ∷ lines more → length h < count
    → IsEntryLine (line ++ 10 ∷ []) x → ((y : EntryLine) → IsEntryLine (line ++ 10 ∷ []) y → y ≡ x) → x.index ≡ length h + 1 → Tells x (reply_to (rows_of h) x.call)
    → IsReadTo limit text count (h ++ entry_of 0 x.call (reply_to (rows_of h) x.call) ∷ []) more
next_read limit count text rest line more h x r split e counted says only place tells =
    let d : EntryValue = entry_of 0 x.call (reply_to (rows_of h) x.call) in
    let same = told_line (length h + 1) x (reply_to (rows_of h) x.call) place tells in
    let P : EntryLine → Type 0 = λ y. IsEntryLine (line ++ 10 ∷ []) y in
    let is : IsEntryLine (line ++ 10 ∷ []) (line_for (length h + 1) x.call (reply_to (rows_of h) x.call)) = subst P (sym same) says in
    record {
      small = r.small;
      bytes = one_more text (count_line count) rest line more h d r.bytes split is.text;
      opening = opening_push h d r.opening refl;
      whole = whole_push h d r.whole (whole_of (line ++ 10 ∷ []) (length h + 1) d is);
      after = λ k n f. by k n same (after_line limit count text rest (line ++ 10 ∷ []) h (lines more) k n r e f);
      before = λ k n f. before_line limit count text rest (line ++ 10 ∷ []) h (lines more) k n r e (inr (counted, (d, record { says = is; session = refl }, f)));
    }
  where
    by : (k n : ℕ) → line_for (length h + 1) x.call (reply_to (rows_of h) x.call) ≡ x → HasFaultAfter count h ((line ++ 10 ∷ []) ∷ lines more) k n
        → HasFaultAfter count (h ++ entry_of 0 x.call (reply_to (rows_of h) x.call) ∷ []) (lines more) k n
    by k n same (inl f) = absurd (no_number count h (line ++ 10 ∷ []) x n counted says only place tells f.1)
    by k n same (inr f) =
        let d : EntryValue = entry_of 0 x.call (reply_to (rows_of h) x.call) in
        let g = f.1.0 in
        let is = f.1.1 in
        let equal : g ≡ d = entry_again (length h + 1) g d (only (line_for (length h + 1) g.call g.reply) is.says ∙ sym same) is.session in
        let P : EntryValue → Type 0 = λ y. HasFaultAfter count (h ++ y ∷ []) (lines more) k n in
        subst P equal f.1.2

-- ---- what the reader answers, by the number of the line

numbered : (limit number n : ℕ) (text : List ℕ) (h : List EntryValue) → number ≡ length h + 2 → IsLeastFault limit text (length h + 2) n → IsLeastFault limit text number n
numbered limit number n text h e f = let P : ℕ → Type 0 = λ k. IsLeastFault limit text k n in subst P (sym e) f

pub missing_line : (limit count number : ℕ) (text rest : List ℕ) (h : List EntryValue) → number ≡ length h + 2 → rest ≡ [] → length h < count → IsReadTo limit text count h rest → IsLeastFault limit text number 2
missing_line limit count number text rest h e none counted r = numbered limit number 2 text h e (end_fault limit count text rest h r none counted)

pub unended_line : (limit count number : ℕ) (text rest : List ℕ) (h : List EntryValue) → number ≡ length h + 2 → (rest ≡ []) ⊎ (lines rest ≡ rest ∷ []) → has_end rest ≡ false → 0 < length rest
    → length h < count → IsReadTo limit text count h rest → IsLeastFault limit text number 1
unended_line limit count number text rest h e (inl none) ends some counted r = absurd (let l = ap length none in omega (arith, l, some))
unended_line limit count number text rest h e (inr one) ends some counted r = numbered limit number 1 text h e (one_fault limit count text rest rest h [] r one counted (unended_entry rest ends))

-- where no LF ends a line, why there is none more
pub absent_line : (limit count number : ℕ) (text rest : List ℕ) (h : List EntryValue) (r : RegisterRefusal) → number ≡ length h + 2 → has_end rest ≡ false
    → (length rest ≡ 0 → r ≡ Fault 2 number) → (0 < length rest → r ≡ Fault 1 number) → length h < count → IsReadTo limit text count h rest → IsRefusal limit text r
absent_line limit count number text [] h r e ends missing unended counted read =
    rw (missing refl) (missing_line limit count number text [] h e refl counted read)
absent_line limit count number text (b ∷ rest) h r e ends missing unended counted read =
    rw (unended (omega arith)) (unended_line limit count number text (b ∷ rest) h e (inr (lines_last b rest ends)) ends (omega arith) counted read)

pub absent_first : (limit : ℕ) (text : List ℕ) (r : RegisterRefusal) → has_end text ≡ false → (length text ≡ 0 → r ≡ Fault 2 1) → (0 < length text → r ≡ Fault 1 1) → IsRefusal limit text r
absent_first limit [] r ends missing unended = rw (missing refl) (no_line limit [] refl)
absent_first limit (b ∷ text) r ends missing unended =
    rw (unended (omega arith)) (no_count limit (b ∷ text) (b ∷ text) [] (lines_last b text ends) (unended_count (b ∷ text) ends))

pub silent_line : (limit count number : ℕ) (text rest line : List ℕ) (more : List (List ℕ)) (h : List EntryValue) (o : Option EntryLine) → number ≡ length h + 2 → lines rest ≡ line ∷ more → o ≡ None
    → ((x : EntryLine) → IsEntryLine line x → o ≡ Some x) → length h < count → IsReadTo limit text count h rest → IsLeastFault limit text number 1
silent_line limit count number text rest line more h o e first none only counted r =
    numbered limit number 1 text h e (one_fault limit count text rest line h more r first counted (λ x says. let no : None ≡ Some x = sym none ∙ only x says in cc))

only_one : (line : List ℕ) (o : Option EntryLine) (x : EntryLine) → o ≡ Some x → ((y : EntryLine) → IsEntryLine line y → o ≡ Some y) → (y : EntryLine) → IsEntryLine line y → y ≡ x
only_one line o x is only y says = let same : Some y ≡ Some x = sym (only y says) ∙ is in cc

pub misplaced_line : (limit count number : ℕ) (text rest line : List ℕ) (more : List (List ℕ)) (h : List EntryValue) (x : EntryLine) → number ≡ length h + 2 → lines rest ≡ line ∷ more
    → IsEntryLine line x → (x.index + 1 ≡ number → ⊥) → length h < count → IsReadTo limit text count h rest → IsLeastFault limit text number 2
misplaced_line limit count number text rest line more h x e first says wrong counted r =
    numbered limit number 2 text h e (two_fault limit count text rest line h more x r first counted says (λ place. wrong (omega (arith, place, e))))

pub unlawful_line : (limit count number : ℕ) (text rest line : List ℕ) (more : List (List ℕ)) (h : List EntryValue) (o : Option EntryLine) (x : EntryLine) → number ≡ length h + 2 → lines rest ≡ line ∷ more
    → IsEntryLine line x → o ≡ Some x → ((y : EntryLine) → IsEntryLine line y → o ≡ Some y) → x.index + 1 ≡ number → (Tells x (reply_to (rows_of h) x.call) → ⊥)
    → length h < count → IsReadTo limit text count h rest → IsLeastFault limit text number 3
unlawful_line limit count number text rest line more h o x e first says is only place wrong counted r =
    numbered limit number 3 text h e (three_fault limit count text rest line h more x r first counted says (only_one line o x is only) (omega (arith, place, e)) wrong)

pub lawful_line : (limit count number : ℕ) (text rest line more : List ℕ) (h later : List EntryValue) (o : Option EntryLine) (x : EntryLine) → number ≡ length h + 2
    → rest ≡ line ++ 10 ∷ more → lines rest ≡ (line ++ 10 ∷ []) ∷ lines more → IsEntryLine (line ++ 10 ∷ []) x → o ≡ Some x → ((y : EntryLine) → IsEntryLine (line ++ 10 ∷ []) y → o ≡ Some y)
    → x.index + 1 ≡ number → Tells x (reply_to (rows_of h) x.call) → later ≡ h ++ entry_of 0 x.call (reply_to (rows_of h) x.call) ∷ []
    → length h < count → IsReadTo limit text count h rest → IsReadTo limit text count later more
lawful_line limit count number text rest line more h later o x e split first says is only place tells grown counted r =
    let P : List EntryValue → Type 0 = λ es. IsReadTo limit text count es more in
    subst P (sym grown) (next_read limit count text rest line more h x r split first counted says (only_one (line ++ 10 ∷ []) o x is only) (omega (arith, place, e)) tells)

-- what a line is found to tell, seen as the entry that it says
pub told_by : (x y : EntryLine) (b : Bool) (h : List EntryValue) (reply : Reply) → y ≡ x → reply ≡ reply_to (rows_of h) y.call
    → ((z : EntryLine) → z.status ≡ y.status → z.work ≡ y.work → z.version ≡ y.version → IsTrue b ↔ Tells z reply) → IsTrue b ↔ Tells x (reply_to (rows_of h) x.call)
told_by x y b h reply same is f =
    let P : Reply → Type 0 = λ r. IsTrue b ↔ Tells y r in
    let Q : EntryLine → Type 0 = λ z. IsTrue b ↔ Tells z (reply_to (rows_of h) z.call) in
    subst Q same (subst P is (f y refl refl refl))

pub entry_of_line : (x y : EntryLine) (h later : List EntryValue) (reply : Reply) → y ≡ x → reply ≡ reply_to (rows_of h) y.call → later ≡ h ++ entry_of 0 y.call reply ∷ []
    → later ≡ h ++ entry_of 0 x.call (reply_to (rows_of h) x.call) ∷ []
entry_of_line x y h later reply same is grown =
    grown ∙ ap (λ (r : Reply). h ++ entry_of 0 y.call r ∷ []) is ∙ ap (λ (z : EntryLine). h ++ entry_of 0 z.call (reply_to (rows_of h) z.call) ∷ []) same

-- bytes after the last entry, or none

pub some_left : (n : ℕ) (b : Bool) → b ≡ (n == 0) → b ≡ false → 0 < n
some_left n b is e = grind (arith, nat_tests)

pub none_left : (n : ℕ) (b : Bool) → b ≡ (n == 0) → b ≡ true → n ≡ 0
none_left n b is e = grind (arith, nat_tests)

pub tail_line : (limit count number : ℕ) (text rest : List ℕ) (h : List EntryValue) → IsReadTo limit text count h rest → 0 < length rest → length h ≡ count → number ≡ count + 2 → IsLeastFault limit text number 2
tail_line limit count number text rest h r some full e =
    numbered limit number 2 text h (e ∙ ap (λ (n : ℕ). n + 2) (sym full)) (tail_fault limit count text rest h r some (sym full))

pub all_read : (limit count : ℕ) (text rest : List ℕ) (h : List EntryValue) → IsReadTo limit text count h rest → length rest ≡ 0 → length h ≡ count → text ≡ register_text h
all_read limit count text rest h r none full =
    r.bytes ∙ ap (λ (n : ℕ). count_line n ++ (entry_lines 1 h ++ rest)) (sym full) ∙ ap (λ (xs : List ℕ). count_line (length h) ++ xs) (ends rest none)
  where
    ends : (xs : List ℕ) → length xs ≡ 0 → entry_lines 1 h ++ xs ≡ entry_lines 1 h
    ends [] e = append-nil (entry_lines 1 h)
    ends (x ∷ xs) e = absurd (omega arith)
