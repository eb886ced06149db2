-- A register that was written is read again as the same history, all of the opening.
use Rattle.std.proofs.Common.{◌≡◌, ◌∙◌, ℕ, ◌+◌, ◌<◌, ◌≤◌, ◌^◌, true, List, [], ◌∷◌, ◌++◌, length, map, arith, ap, sym, subst, refl, append_assoc}
use Rattle.std.specs.List.{AllByRecursion}
use Rattle.std.proofs.lemmas.List.{length_push, length-map, append-nil}
use Rattle.std.specs.Result.{IsErrAnd, MatchResult}
use Rattle.std.specs.declared.result.Result.{Result}
use Rattle.std.specs.declared.result.Result.TheVariants.{Ok, Err}
use Rattle.work_registry.specs.declared.register.refusal.RegisterRefusal.{RegisterRefusal}
use Rattle.work_registry.specs.declared.register.refusal.RegisterRefusal.TheVariants.{Memory, Fault}
use Rattle.work_registry.specs.declared.reply.Reply.{Reply}
use Rattle.work_registry.specs.EntryValue.{EntryValue, entry_of}
use Rattle.work_registry.specs.History.{IsHistory}
use Rattle.work_registry.specs.Numbers.{max_entries}
use Rattle.work_registry.specs.Rows.{Row, rows_of}
use Rattle.work_registry.specs.Reply.{reply_to}
use Rattle.work_registry.specs.Replay.{is_opening}
use Rattle.work_registry.specs.RegisterLine.{entry_count, IsEntryLine}
use Rattle.cwr_record.specs.Lines.{line_of}
use Rattle.work_registry.specs.ReplyParts.{status_in}
use Rattle.work_registry.specs.Register.{work_of, version_of, line_for, entry_lines, count_line, register_text, opened, IsWholeEntry}
use Rattle.work_registry.specs.RegisterFaults.{lines, IsFault, IsRefusal}
use Rattle.work_registry.specs.RegisterReading.{IsReadTo}
use Rattle.work_registry.proofs.SoundHistories.{Follows, follows-first, follows-rest, rows_of-push}
use Rattle.work_registry.proofs.lemmas.Opened.{opened_is}
use Rattle.work_registry.proofs.RegisterLines.{lines_first}
use Rattle.work_registry.proofs.RegisterFirstLine.{first_read}
use Rattle.work_registry.proofs.RegisterNextLine.{next_read, entry_again}
use Rattle.work_registry.proofs.RegisterAgain.{front_of, front_has_none, number_has_none, one_reading}

says : (index : ℕ) (e : EntryValue) → index < 10 ^ 8 → IsWholeEntry e → IsEntryLine (front_of (line_for index e.call e.reply) ++ 10 ∷ []) (line_for index e.call e.reply)
says index e lt w =
    record {
      text = refl;
      index = lt;
      work = w.fits.work;
      version = w.fits.version;
      call = w.call;
    }

-- the first line of entries
entry_split : (index : ℕ) (e : EntryValue) (es : List EntryValue) → entry_lines index (e ∷ es) ≡ front_of (line_for index e.call e.reply) ++ 10 ∷ entry_lines (index + 1) es
entry_split index e es = append_assoc (front_of (line_for index e.call e.reply)) (10 ∷ []) (entry_lines (index + 1) es)

entry_first : (index : ℕ) (e : EntryValue) (es : List EntryValue) → IsWholeEntry e
    → lines (entry_lines index (e ∷ es)) ≡ (front_of (line_for index e.call e.reply) ++ 10 ∷ []) ∷ lines (entry_lines (index + 1) es)
entry_first index e es w =
    ap lines (entry_split index e es) ∙ lines_first (front_of (line_for index e.call e.reply)) (entry_lines (index + 1) es) (front_has_none (line_for index e.call e.reply) w.call)

-- ---- no fault

all_entries : (limit count : ℕ) (text : List ℕ) (es h : List EntryValue) → IsReadTo limit text count h (entry_lines (length h + 1) es) → length h + length es ≡ count
    → Follows (rows_of h) es → AllByRecursion IsWholeEntry es → IsReadTo limit text count (h ++ map opened es) []
all_entries limit count text [] h r len follows whole =
    let P : List EntryValue → Type 0 = λ g. IsReadTo limit text count g [] in
    subst P (sym (append-nil h)) r
all_entries limit count text (e ∷ es) h r len follows whole =
    let w = whole.0 in
    let small = r.small in
    let index = length h + 1 in
    let reply : e.reply ≡ reply_to (rows_of h) e.call = follows-first (rows_of h) e es follows in
    let x = line_for (length h + 1) e.call e.reply in
    let line = says (length h + 1) e (omega (arith, small, len)) w in
    let next = next_read limit count text (entry_lines (length h + 1) (e ∷ es)) (front_of x) (entry_lines (length h + 1 + 1) es) h x r
    (entry_split (length h + 1) e es) (entry_first (length h + 1) e es w) (omega (arith, len)) line (λ y other. one_reading (front_of x) y x other line) refl
    (record { status = ap status_in reply; work = ap work_of reply; version = ap version_of reply }) in
    let P : Reply → Type 0 = λ a. IsReadTo limit text count (h ++ entry_of 0 e.call a ∷ []) (entry_lines (length h + 1 + 1) es) in
    let then : IsReadTo limit text count (h ++ opened e ∷ []) (entry_lines (length h + 1 + 1) es) = subst P (sym reply) next in
    let grown = length_push h (opened e) in
    let place : length h + 1 + 1 ≡ length (h ++ opened e ∷ []) + 1 = omega (arith, grown) in
    let Q : ℕ → Type 0 = λ i. IsReadTo limit text count (h ++ opened e ∷ []) (entry_lines i es) in
    let R : List Row → Type 0 = λ rows. Follows rows es in
    let more = all_entries limit count text es (h ++ opened e ∷ []) (subst Q place then) (omega (arith, grown, len))
    (subst R (sym (rows_of-push h (opened e))) (follows-rest (rows_of h) e es follows)) whole.1 in
    let S : List EntryValue → Type 0 = λ g. IsReadTo limit text count g [] in
    subst S (append_assoc h (opened e ∷ []) (map opened es)) more

count_split : (n : ℕ) (rest : List ℕ) → count_line n ++ rest ≡ (line_of entry_count n) ++ 10 ∷ rest
count_split n rest = append_assoc (line_of entry_count n) (10 ∷ []) rest

count_first : (n : ℕ) (rest : List ℕ) → lines (count_line n ++ rest) ≡ count_line n ∷ lines rest
count_first n rest = ap lines (count_split n rest) ∙ lines_first (line_of entry_count n) rest (number_has_none n)

pub no_fault : (limit : ℕ) (h : List EntryValue) (k n : ℕ) → IsHistory h → AllByRecursion IsWholeEntry h → length h ≤ limit → length h < 10 ^ 8 → IsFault limit (register_text h) k n → ⊥
no_fault limit h k n is whole within small f =
    let start = first_read limit (length h) (register_text h) (line_of entry_count (length h)) (entry_lines 1 h)
    (count_split (length h) (entry_lines 1 h)) (count_first (length h) (entry_lines 1 h)) small refl within in
    let end = all_entries limit (length h) (register_text h) h [] start (omega arith) is whole in
    let after = (end.after k n f).2 in
    let same = length-map h opened in
    absurd (omega (arith, after, same))

-- ---- one history

abbrev tail_of : List (List ℕ) → List (List ℕ)
tail_of [] = []
tail_of (x ∷ xs) = xs

abbrev head_in : List (List ℕ) → List ℕ
head_in [] = []
head_in (x ∷ xs) = x

same_entries : (index : ℕ) (g h : List EntryValue) → index + length g ≤ 10 ^ 8 → index + length h ≤ 10 ^ 8 → AllByRecursion IsWholeEntry g → AllByRecursion IsWholeEntry h
    → lines (entry_lines index g) ≡ lines (entry_lines index h) → map opened g ≡ map opened h
same_entries index [] [] a b p q e = refl
same_entries index [] (d ∷ h) a b p q e = absurd (let no : [] ≡ (front_of (line_for index d.call d.reply) ++ 10 ∷ []) ∷ lines (entry_lines (index + 1) h) = e ∙ entry_first index d h q.0 in cc)
same_entries index (c ∷ g) [] a b p q e = absurd (let no : [] ≡ (front_of (line_for index c.call c.reply) ++ 10 ∷ []) ∷ lines (entry_lines (index + 1) g) = sym e ∙ entry_first index c g p.0 in cc)
same_entries index (c ∷ g) (d ∷ h) a b p q e =
    let both = sym (entry_first index c g p.0) ∙ e ∙ entry_first index d h q.0 in
    let x = line_for index c.call c.reply in
    let y = line_for index d.call d.reply in
    let line : front_of x ++ 10 ∷ [] ≡ front_of y ++ 10 ∷ [] = ap head_in both in
    let P : List ℕ → Type 0 = λ l. IsEntryLine l y in
    let first : x ≡ y = one_reading (front_of x) x y (says index c (omega (arith, a)) p.0) (subst P (sym line) (says index d (omega (arith, b)) q.0)) in
    let one : opened c ≡ opened d = entry_again index (opened c) (opened d) first refl in
    let more = same_entries (index + 1) g h (omega (arith, a)) (omega (arith, b)) p.1 q.1 (ap tail_of both) in
    rw (one, more) refl

pub one_history : (g h : List EntryValue) → length g < 10 ^ 8 → length h < 10 ^ 8 → AllByRecursion IsWholeEntry g → AllByRecursion IsWholeEntry h → register_text g ≡ register_text h → map opened g ≡ map opened h
one_history g h a b p q e =
    let both = sym (count_first (length g) (entry_lines 1 g)) ∙ ap lines e ∙ count_first (length h) (entry_lines 1 h) in
    same_entries 1 g h (omega (arith, a)) (omega (arith, b)) p q (ap tail_of both)

-- ---- what a reader answers of a register that was written

pub read_history : (limit : ℕ) (text : List ℕ) (g h : List EntryValue) → limit ≤ max_entries → length g ≤ limit → is_opening g ≡ true → AllByRecursion IsWholeEntry g → text ≡ register_text g
    → AllByRecursion IsWholeEntry h → length h ≤ limit → text ≡ register_text h → g ≡ map opened h
read_history limit text g h most few opening whole is whole' few' is' =
    sym (opened_is g opening) ∙ one_history g h (omega (arith, few, most)) (omega (arith, few', most)) whole whole' (sym is ∙ is')

memory_alone : (limit : ℕ) (text : List ℕ) (h : List EntryValue) (e : RegisterRefusal) → limit ≤ max_entries → IsRefusal limit text e → IsHistory h → AllByRecursion IsWholeEntry h → length h ≤ limit → text ≡ register_text h → e ≡ Memory
memory_alone limit text h Memory most refusal is whole few e = refl
memory_alone limit text h (Fault number line) most refusal is whole few e =
    let P : List ℕ → Type 0 = λ xs. IsFault limit xs line number in
    absurd (no_fault limit h line number is whole few (omega (arith, few, most)) (subst P e refusal.has))

pub refused_history : {B : Type 0} (limit : ℕ) (text : List ℕ) (h : List EntryValue) (r : Result B RegisterRefusal) (e : RegisterRefusal) (P : B → Type 0) → limit ≤ max_entries
    → IsErrAnd r (λ x. x ≡ e) → IsRefusal limit text e → IsHistory h → AllByRecursion IsWholeEntry h → length h ≤ limit → text ≡ register_text h → MatchResult r P (λ x. x ≡ Memory)
refused_history limit text h (Ok b) e P most is refusal hist whole few t = absurd is
refused_history limit text h (Err x) e P most is refusal hist whole few t = is ∙ memory_alone limit text h e most refusal hist whole few t
