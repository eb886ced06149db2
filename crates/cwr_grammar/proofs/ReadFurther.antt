-- A reader goes past one line more.
use Rattle.std.proofs.Common.{◌≡◌, ◌∙◌, ℕ, suc, ◌+◌, ◌-◌, ◌≤◌, ◌<◌, ◌^◌, ◌⊎◌, Bool, true, false, not, cond, List, [], ◌∷◌, ◌++◌, length, map, take, drop, Option, Some, None, is_some, arith, refl, sym, ap, subst, append_assoc, length-append}
use Rattle.std.specs.Str.Lines.{lines}
use Rattle.std.proofs.lemmas.List.{length-map, length-drop, drop-drop, drop-append-le, take-append-drop}
use Rattle.cwr_record.specs.Control as table
use Rattle.cwr_record.specs.Layout.{StandsFor}
use Rattle.cwr_record.specs.declared.control.Header.{Header}
use Rattle.cwr_grammar.specs.declared.envelope.Envelope.{Envelope}
use Rattle.cwr_grammar.specs.declared.file_counts.FileCounts.{FileCounts}
use Rattle.cwr_grammar.specs.declared.refusal.FileRefusal.{FileRefusal}
use Rattle.cwr_grammar.specs.declared.refusal.FileRefusal.TheVariants.{Fault}
use Rattle.cwr_grammar.specs.declared.role.Role.{Role}
use Rattle.cwr_grammar.specs.declared.role.Role.TheVariants.{FileHeader, GroupHeader, TransactionHeader, Detail, GroupTrailer, FileTrailer, Unnamed}
use Rattle.cwr_grammar.specs.Before.{is_nil}
use Rattle.cwr_grammar.specs.Counted.{counts_of}
use Rattle.cwr_grammar.specs.FaultTests.{is_file_header, is_tail}
use Rattle.cwr_grammar.specs.Faults.{IsLeastFault}
use Rattle.cwr_grammar.specs.FirstFault.{first_fault, grammar_fault, line_fault, role_fault, tail_fault, with_eleven}
use Rattle.cwr_grammar.specs.RawParts.{RawParts}
use Rattle.cwr_grammar.specs.ReadUpTo.{ReaderState, IsReadUpTo, IsNextLine, IsPast, IsHeadOf, HeadAfter, GoesOnAt, EndedBefore, StandsAt}
use Rattle.cwr_grammar.specs.Roles.{role_of}
use Rattle.cwr_grammar.specs.Submitted.{IsRefusal}
use Rattle.cwr_grammar.specs.Visiting.{WasGiven, whole_after, open_after}
use Rattle.cwr_grammar.proofs.Accepted.{file_head_is}
use Rattle.cwr_grammar.proofs.FileBounds.{file_bounds}
use Rattle.cwr_grammar.proofs.FileLaw.{accepted_file}
use Rattle.cwr_grammar.proofs.HeaderLine.{first_is}
use Rattle.cwr_grammar.proofs.Least.{first_is_least}
use Rattle.cwr_grammar.proofs.Numbers.{clear_role}
use Rattle.cwr_grammar.proofs.OneLineFurther.{OneLine, end_faulty, line_faulty}
use Rattle.cwr_grammar.proofs.Visits.{visiting_goes, visiting_ends, visiting_kept, none_given}

-- ---- the header

-- a header without a fault is the first line, and is valid
pub valid_header : (before : List Role) → role_fault before (FileHeader false) ≡ None → ⊥
valid_header [] clear = absurd cc
valid_header (b ∷ before) clear = let first = file_head_is (b ∷ before) false clear in absurd cc

pub header_valid : (before : List Role) (valid : Bool) → role_fault before (FileHeader valid) ≡ None → valid ≡ true
header_valid before true clear = refl
header_valid before false clear = absurd (valid_header before clear)

headed_first : (head next : Option Header) (line text : List ℕ) (at n : ℕ) (header : Header) → next ≡ Some header → StandsFor table.header line header → at ≡ 0
    → lines (drop at text) ≡ line ∷ lines (drop (at + n) text) → IsHeadOf next text
headed_first head next line text at n header is stands none split =
    let whole : lines text ≡ line ∷ lines (drop (at + n) text) = ap (λ (k : ℕ). lines (drop k text)) (sym none) ∙ split in
    record { header = header; header_is = is; stands = λ f file. subst (λ (l : List ℕ). StandsFor table.header l header) (first_is (lines text) _ line f whole file) stands }

headed_on : (head next : Option Header) (text : List ℕ) → next ≡ head → IsHeadOf head text → IsHeadOf next text
headed_on head next text is h = record { header = h.header; header_is = is ∙ h.header_is; stands = h.stands }

no_lines : (before : List Role) → is_nil before ≡ true → length before ≡ 0
no_lines [] e = refl
no_lines (b ∷ before) e = absurd cc

-- before any other line without a fault stands one
some_before : (before : List Role) (role : Role) → role_fault before role ≡ None → is_file_header role ≡ false → 0 < length before
some_before [] role clear other = absurd (let faulty = subst (λ (b : Bool). cond (not b) (Some 1) (grammar_fault [] role) ≡ None) other clear in cc)
some_before (b ∷ before) role clear other = omega arith

-- and it leaves the header as it is
same_head : (role : Role) (head next : Option Header) (line : List ℕ) → is_file_header role ≡ false → HeadAfter head role line next → next ≡ head
same_head (FileHeader valid) head next line other kept = absurd cc
same_head (GroupHeader k i) head next line other kept = kept
same_head (TransactionHeader k j d) head next line other kept = kept
same_head (Detail j d) head next line other kept = kept
same_head (GroupTrailer i t r) head next line other kept = kept
same_head (FileTrailer g t r) head next line other kept = kept
same_head Unnamed head next line other kept = kept

pub headed_after : (role : Role) (before : List Role) (head next : Option Header) (line text : List ℕ) (at n : ℕ) → role_fault before role ≡ None → HeadAfter head role line next
    → (length before ≡ 0 → at ≡ 0) → (0 < length before → IsHeadOf head text) → lines (drop at text) ≡ line ∷ lines (drop (at + n) text) → IsHeadOf next text
headed_after (FileHeader valid) before head next line text at n clear kept first headed split =
    headed_first head next line text at n kept.0 kept.1 kept.2 (first (no_lines before (file_head_is before valid clear))) split
headed_after (GroupHeader k i) before head next line text at n clear kept first headed split = headed_on head next text kept (headed (some_before before (GroupHeader k i) clear refl))
headed_after (TransactionHeader k j d) before head next line text at n clear kept first headed split = headed_on head next text kept (headed (some_before before (TransactionHeader k j d) clear refl))
headed_after (Detail j d) before head next line text at n clear kept first headed split = headed_on head next text kept (headed (some_before before (Detail j d) clear refl))
headed_after (GroupTrailer i t r) before head next line text at n clear kept first headed split = headed_on head next text kept (headed (some_before before (GroupTrailer i t r) clear refl))
headed_after (FileTrailer g t r) before head next line text at n clear kept first headed split = headed_on head next text kept (headed (some_before before (FileTrailer g t r) clear refl))
headed_after Unnamed before head next line text at n clear kept first headed split = headed_on head next text kept (headed (some_before before Unnamed clear refl))

-- ---- a line before the file's end

module _ (K L : Option Header → List RawParts → Option RawParts → Type 0) (s after : ReaderState) (text : List ℕ) (at n : ℕ) (line : List ℕ) (role : Role) (read : IsReadUpTo K s text at) (g : GoesOnAt (K s.header) s text at)
    (here : IsNextLine line text at n) (role_is : role ≡ role_of line) (clear : None ≡ line_fault g.before line) (past : IsPast s after line role)
    (gave : L after.header (whole_after role g.whole g.current) (open_after role line s.counts.groups s.counts.transactions g.current)) where
  one : OneLine text g.before at n line role after.counts
  one = record {
    split = here.split;
    some = here.some;
    fits = (let inside = here.inside in omega (arith, inside));
    read = role_is;
    clear = clear;
    counted = past.counted (map role_of g.before) g.visiting.going.counted;
  }

  lines_after : after.counts.lines ≡ suc (length g.before)
  lines_after = ap (λ (x : FileCounts). x.lines) one.counted ∙ ap suc (length-map g.before role_of)

  no_tail : after.tail ≡ 0
  no_tail = past.tail ∙ g.no_tail

  ended_after : after.counts.is_ended ≡ true → EndedBefore (L after.header) after text (at + n)
  ended_after e =
      let last = visiting_ends (K s.header) text at n _ after.counts line role g.visiting one e in
      let few = last.ended.few in
      record {
        whole = whole_after role g.whole g.current;
        kept = visiting_kept (K s.header) (L after.header) text at n _ after.counts line role g.visiting one e gave;
        parts = last.parts;
        inside = last.ended.inside;
        some = omega (arith, lines_after);
        few = omega (arith, few, no_tail);
        few_groups = last.ended.few_groups;
        few_records = last.ended.few_records;
        fault = last.ended.fault ∙ ap (λ (k : ℕ). with_eleven (tail_fault k (lines (drop (at + n) text)))) (omega (arith, no_tail));
      }

  -- whatever is kept of what the line gives
  pub line_taken : IsReadUpTo L after text (at + n)
  line_taken =
      let counted = ap (λ (x : FileCounts). x.lines) g.visiting.going.counted in
      let none = ap (role_fault (map role_of g.before)) role_is ∙ clear_role g.before line g.visiting.going.goes clear in
      record {
        goes = λ e. record {
          before = line ∷ g.before;
          whole = whole_after role g.whole g.current;
          current = open_after role line s.counts.groups s.counts.transactions g.current;
          visiting = visiting_goes (K s.header) (L after.header) text at n _ after line role g.visiting one e past.is_open gave;
          no_tail = no_tail;
        };
        ended = ended_after;
        first = λ none. absurd (omega (arith, none, lines_after));
        headless = λ none. absurd (omega (arith, none, lines_after));
        headed = λ _. headed_after role (map role_of g.before) s.header after.header line text at n none past.header (λ none. read.first (omega (arith, counted, none)))
            (λ some. read.headed (omega (arith, counted, some))) here.split;
      }

-- before the header's line nothing was given
pub before_header : (K : Option Header → List RawParts → Option RawParts → Type 0) (s : ReaderState) (text : List ℕ) (at : ℕ) (line : List ℕ) (read : IsReadUpTo K s text at) (g : GoesOnAt (K s.header) s text at)
    → FileHeader true ≡ role_of line → None ≡ line_fault g.before line → (g.whole ≡ []) × (g.current ≡ None) × K None [] None
before_header K s text at line read g role_is clear =
    let before = map role_of g.before in
    let none = no_lines before (file_head_is before true (ap (role_fault before) role_is ∙ clear_role g.before line g.visiting.going.goes clear)) in
    let counted = ap (λ (x : FileCounts). x.lines) g.visiting.going.counted in
    let yet = none_given (K s.header) text at _ g.visiting (omega (arith, none, length-map g.before role_of)) in
    (yet.0, yet.1, rw (yet.0, yet.1, read.headless (omega (arith, counted, none))) at g.visiting.kept)

-- the header's line
pub header_taken : (K L : Option Header → List RawParts → Option RawParts → Type 0) (s after : ReaderState) (text : List ℕ) (at n : ℕ) (line : List ℕ) (head : Header) (read : IsReadUpTo K s text at) (g : GoesOnAt (K s.header) s text at)
    → IsNextLine line text at n → FileHeader true ≡ role_of line → None ≡ line_fault g.before line → IsPast s after line (FileHeader true) → after.header ≡ Some head
    → (K None [] None → L (Some head) [] None) → IsReadUpTo L after text (at + n)
header_taken K L s after text at n line head read g here role_is clear past head_is gives =
    let before = before_header K s text at line read g role_is clear in
    line_taken K L s after text at n line (FileHeader true) read g here role_is clear past (rw (before.0, before.1, head_is) (gives before.2))

-- before any other line the header was given
pub behind_header : (K : Option Header → List RawParts → Option RawParts → Type 0) (s : ReaderState) (text : List ℕ) (at : ℕ) (line : List ℕ) (role : Role) (read : IsReadUpTo K s text at) (g : GoesOnAt (K s.header) s text at)
    → role ≡ role_of line → None ≡ line_fault g.before line → is_file_header role ≡ false → IsHeadOf s.header text
behind_header K s text at line role read g role_is clear other =
    let before = map role_of g.before in
    let some = some_before before role (ap (role_fault before) role_is ∙ clear_role g.before line g.visiting.going.goes clear) other in
    let counted = ap (λ (x : FileCounts). x.lines) g.visiting.going.counted in
    read.headed (omega (arith, counted, some))

-- any other line
pub line_given : (K L : Option Header → List RawParts → Option RawParts → Type 0) (s after : ReaderState) (text : List ℕ) (at n : ℕ) (line : List ℕ) (role : Role) (read : IsReadUpTo K s text at) (g : GoesOnAt (K s.header) s text at)
    → IsNextLine line text at n → role ≡ role_of line → None ≡ line_fault g.before line → IsPast s after line role → is_file_header role ≡ false
    → ((head : Header) (whole : List RawParts) (current : Option RawParts) → is_some current ≡ s.is_open → K (Some head) whole current
    → L (Some head) (whole_after role whole current) (open_after role line s.counts.groups s.counts.transactions current))
    → IsReadUpTo L after text (at + n)
line_given K L s after text at n line role read g here role_is clear past other gives =
    let h = behind_header K s text at line role read g role_is clear other in
    let is = same_head role s.header after.header line other past.header ∙ h.header_is in
    line_taken K L s after text at n line role read g here role_is clear past
    (rw is (gives h.header g.whole g.current g.visiting.is.open_is (rw h.header_is at g.visiting.kept)))

-- the line has a fault
pub role_faulty : (K : Option Header → List RawParts → Option RawParts → Type 0) (s : ReaderState) (text : List ℕ) (at n : ℕ) (line : List ℕ) (refusal : FileRefusal) → IsReadUpTo K s text at → s.counts.is_ended ≡ false → IsNextLine line text at n
    → (number : ℕ) × (refusal ≡ Fault number (s.counts.lines + 1)) × ((before : List (List ℕ)) → s.counts ≡ counts_of (map role_of before) → Some number ≡ line_fault before line) → IsRefusal (lines text) refusal
role_faulty K s text at n line refusal read goes here (number, is, faulty) =
    let r = read.goes goes in
    rw is (line_faulty text s.counts at r.before (drop at text) line _ number r.visiting.going refl here.split (faulty r.before r.visiting.going.counted))

-- ---- a line behind the file's end

tail_goes : (line : List ℕ) (rest : List (List ℕ)) (k : ℕ) → is_tail line ≡ true → tail_fault k (line ∷ rest) ≡ tail_fault (k + 1) rest
tail_goes line rest k e = rw e refl

tail_stops : (line : List ℕ) (rest : List (List ℕ)) (k : ℕ) → is_tail line ≡ false → tail_fault k (line ∷ rest) ≡ Some k
tail_stops line rest k e = rw e refl

pub tail_taken : (K L : Option Header → List RawParts → Option RawParts → Type 0) (s : ReaderState) (text : List ℕ) (at n : ℕ) (line : List ℕ) → IsReadUpTo K s text at → s.counts.is_ended ≡ true → IsNextLine line text at n
    → is_tail line ≡ true → ((whole : List RawParts) → K s.header whole None → L s.header whole None) → IsReadUpTo L (record s { tail = s.tail + 1 }) text (at + n)
tail_taken K L s text at n line read e here is same =
    let x = read.ended e in
    let few = x.few in
    let some = here.some in
    record {
      goes = λ not_yet. absurd (let both : true ≡ false = sym e ∙ not_yet in cc);
      ended = λ _. record {
        whole = x.whole;
        kept = same x.whole x.kept;
        parts = x.parts;
        inside = here.inside;
        some = x.some;
        few = omega (arith, few, some);
        few_groups = x.few_groups;
        few_records = x.few_records;
        fault =
            x.fault ∙ ap (λ (ls : List (List ℕ)). with_eleven (tail_fault (s.counts.lines + s.tail + 1) ls)) here.split
            ∙ ap with_eleven (tail_goes line (lines (drop (at + n) text)) (s.counts.lines + s.tail + 1) is)
            ∙ ap (λ (k : ℕ). with_eleven (tail_fault k (lines (drop (at + n) text)))) (omega arith);
      };
      first = λ none. absurd (let some = x.some in omega (arith, none, some));
      headless = λ none. absurd (let some = x.some in omega (arith, none, some));
      headed = read.headed;
    }

pub tail_faulty : (K : Option Header → List RawParts → Option RawParts → Type 0) (s : ReaderState) (text : List ℕ) (at n : ℕ) (line : List ℕ) → IsReadUpTo K s text at → s.counts.is_ended ≡ true → IsNextLine line text at n
    → is_tail line ≡ false → IsLeastFault (lines text) (s.counts.lines + s.tail + 1) 11
tail_faulty K s text at n line read e here is =
    first_is_least (lines text) (s.counts.lines + s.tail + 1) 11 (
    (read.ended e).fault ∙ ap (λ (ls : List (List ℕ)). with_eleven (tail_fault (s.counts.lines + s.tail + 1) ls)) here.split
    ∙ ap with_eleven (tail_stops line (lines (drop (at + n) text)) (s.counts.lines + s.tail + 1) is)
    )

-- ---- the next line, as a slice's reader tells it

len_at : (text rest : List ℕ) (at : ℕ) → drop at text ≡ rest → length rest ≡ length text - at
len_at text rest at is = sym (ap (λ (xs : List ℕ). length xs) is) ∙ length-drop at text

-- a line of bytes that the text goes on with
pub next_whole : (bytes text rest line : List ℕ) (at i n : ℕ) → StandsAt bytes text at → i ≤ length bytes → rest ≡ drop i bytes → 0 < n → n ≤ length rest
    → ((more : List ℕ) → lines (take n rest ++ more) ≡ line ∷ lines more) → IsNextLine line text (at + i) n
next_whole bytes text rest line at i n here inside rest_is some fits whole =
    let left : drop (at + i) text ≡ rest ++ here.after =
    sym (drop-drop i at text) ∙ ap (drop i) here.here ∙ drop-append-le i bytes here.after inside ∙ ap (λ (xs : List ℕ). xs ++ here.after) (sym rest_is) in
    let next : drop (at + i + n) text ≡ drop n rest ++ here.after =
    sym (drop-drop n (at + i) text) ∙ ap (drop n) left ∙ drop-append-le n rest here.after fits in
    let cut : rest ++ here.after ≡ take n rest ++ (drop n rest ++ here.after) =
    ap (λ (xs : List ℕ). xs ++ here.after) (sym (take-append-drop n rest)) ∙ append_assoc (take n rest) (drop n rest) here.after in
    let size = len_at text (rest ++ here.after) (at + i) left in
    let sum = length-append rest here.after in
    record {
      split = ap lines (left ∙ cut) ∙ whole (drop n rest ++ here.after) ∙ ap (λ (xs : List ℕ). line ∷ lines xs) (sym next);
      some = some;
      inside = omega (arith, size, sum, fits, some);
    }

-- a line of the last bytes of the text
pub next_last : (last text rest line : List ℕ) (at i n : ℕ) → drop at text ≡ last → rest ≡ drop i last → 0 < n → n ≤ length rest
    → lines rest ≡ line ∷ lines (drop n rest) → IsNextLine line text (at + i) n
next_last last text rest line at i n here rest_is some fits split =
    let left : drop (at + i) text ≡ rest = sym (drop-drop i at text) ∙ ap (drop i) here ∙ sym rest_is in
    let size = len_at text rest (at + i) left in
    record {
      split = ap lines left ∙ split ∙ ap (λ (xs : List ℕ). line ∷ lines xs) (ap (drop n) (sym left) ∙ drop-drop n (at + i) text);
      some = some;
      inside = omega (arith, size, fits, some);
    }

-- ---- the end

-- no TRL was read
none_ended : (K : Option Header → List RawParts → Option RawParts → Type 0) (s : ReaderState) (text : List ℕ) (at number : ℕ) → IsReadUpTo K s text at → s.counts.is_ended ≡ false → drop at text ≡ []
    → ((s.counts.lines ≡ 0) × (number ≡ 1)) ⊎ ((0 < s.counts.lines) × (number ≡ 11)) → IsLeastFault (lines text) (s.counts.lines + 1) number
none_ended K s text at number read goes end which =
    let g = read.goes goes in
    end_faulty text s.counts at g.before (drop at text) number g.visiting.going refl end which

given : (K : Option Header → List RawParts → Option RawParts → Type 0) (s : ReaderState) (text : List ℕ) (at : ℕ) (head : Header) → IsReadUpTo K s text at → s.counts.is_ended ≡ true → drop at text ≡ []
    → s.header ≡ Some head → WasGiven K text head s.counts.groups s.counts.lines
given K s text at head read ended end head_is =
    let x = read.ended ended in
    let some = x.some in
    let none : first_fault (lines text) ≡ None = x.fault ∙ ap (λ (xs : List ℕ). with_eleven (tail_fault (s.counts.lines + s.tail + 1) (lines xs))) end in
    let file = accepted_file (lines text) none in
    let headed = read.headed (omega (arith, some)) in
    let same : headed.header ≡ head = (let both : Some headed.header ≡ Some head = sym headed.header_is ∙ head_is in cc) in
    let stands = subst (λ (h : Header). StandsFor table.header file.0.header h) same (headed.stands file.0 file.1) in
    let parts = x.parts file.0 file.1 in
    record {
      file = file.0;
      transactions = x.whole;
      formed = file.1;
      kept = subst (λ (o : Option Header). K o x.whole None) head_is x.kept;
      submission = record { header = stands; transactions = parts.transactions; groups = parts.groups; records = parts.records };
      bounds = file_bounds text file.0 head x.whole file.1 stands parts.transactions;
    }

-- after the file's end the header is known
some_header : (K : Option Header → List RawParts → Option RawParts → Type 0) (s : ReaderState) (text : List ℕ) (at : ℕ) → IsReadUpTo K s text at → s.counts.is_ended ≡ true → s.header ≡ None → ⊥
some_header K s text at read ended none =
    let some = (read.ended ended).some in
    let headed = read.headed (omega (arith, some)) in
    let both : Some headed.header ≡ None = sym headed.header_is ∙ none in
    absurd cc

-- what an envelope takes for granted
pub few_lines : (K : Option Header → List RawParts → Option RawParts → Type 0) (s : ReaderState) (text : List ℕ) (at : ℕ) → IsReadUpTo K s text at → s.counts.lines ≤ at
few_lines K s text at read =
    (elim s.counts.is_ended as (λ b. s.counts.is_ended ≡ b → s.counts.lines ≤ at) [
      | true ↦ λ e. (let few = (read.ended e).few in omega (arith, few))
      | false ↦ λ e. (
          let going = (read.goes e).visiting.going in
          let few = going.few in
          omega (arith, few, ap (λ (x : FileCounts). x.lines) going.counted, length-map (read.goes e).before role_of))
    ]) refl

pub fits_envelope : (K : Option Header → List RawParts → Option RawParts → Type 0) (s : ReaderState) (text : List ℕ) (at : ℕ) → IsReadUpTo K s text at → s.counts.is_ended ≡ true
    → (s.counts.groups < 10 ^ 5) × (s.counts.lines < 10 ^ 8) × (s.header ≡ None → ⊥)
fits_envelope K s text at read e = let x = read.ended e in (x.few_groups, x.few_records, some_header K s text at read e)

-- and what it answers
pub envelope_given : (K : Option Header → List RawParts → Option RawParts → Type 0) (s : ReaderState) (text : List ℕ) (at : ℕ) (envelope : Envelope) → IsReadUpTo K s text at → drop at text ≡ []
    → (s.counts.is_ended ≡ true) × (s.header ≡ Some envelope.header) × (envelope.groups ≡ s.counts.groups) × (envelope.records ≡ s.counts.lines) → WasGiven K text envelope.header envelope.groups envelope.records
envelope_given K s text at envelope read end (ended, head_is, groups, records) = rw (groups, records) (given K s text at envelope.header read ended end head_is)

pub envelope_faulty : (K : Option Header → List RawParts → Option RawParts → Type 0) (s : ReaderState) (text : List ℕ) (at : ℕ) (refusal : FileRefusal) → IsReadUpTo K s text at → drop at text ≡ []
    → (s.counts.is_ended ≡ false) × (number : ℕ) × (refusal ≡ Fault number (s.counts.lines + 1)) × (((s.counts.lines ≡ 0) × (number ≡ 1)) ⊎ ((0 < s.counts.lines) × (number ≡ 11))) → IsRefusal (lines text) refusal
envelope_faulty K s text at refusal read end (goes, number, is, which) = rw is (none_ended K s text at number read goes end which)
