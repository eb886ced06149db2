-- A register that is made piece after piece: how long it is, and what each part leaves of it.
use Rattle.std.proofs.Common.{◌≡◌, ◌∙◌, ℕ, suc, ◌+◌, ◌*◌, ◌<◌, ◌≤◌, ◌^◌, List, [], ◌∷◌, ◌++◌, length, arith, ap, sym, subst, refl, append_assoc}
use Rattle.std.specs.List.{AllByRecursion, sum_by}
use Rattle.std.proofs.lemmas.List.{length-append}
use Rattle.std.proofs.lemmas.List.Sums.{sum_by-cons}
use Rattle.cwr_call.specs.declared.transaction_fault.Fault.{Fault}
use Rattle.cwr_call.specs.Lawful.{max_faults}
use Rattle.cwr_record.specs.Lines.{Fits, line_of}
use Rattle.cwr_record.proofs.lemmas.Spelled.{length-line_of}
use Rattle.work_registry.specs.EntryValue.{EntryValue}
use Rattle.work_registry.specs.RegisterColumns as column
use Rattle.work_registry.specs.RegisterLine.{EntryLine, IsEntryLine, entry_count, head, fault, head_of, line_text}
use Rattle.work_registry.specs.Register.{line_for, entry_line, entry_lines, count_line, register_text, IsWholeEntry}
use Rattle.work_registry.specs.Numbers.{max_entries}
use Rattle.work_registry.specs.declared.register.chunks.Next.{Next}
use Rattle.work_registry.specs.declared.register.chunks.Next.TheVariants.{Entry}
use Rattle.work_registry.specs.RegisterInChunks.{text_from}
use Rattle.work_registry.proofs.RegisterFits.{lawful_parts, faults_few, line_whole}
use Rattle.work_registry.proofs.RegisterFaultTexts.{faults_text, length-faults}

-- ---- how long it is

-- the most bytes of an entry's line: as many faults as a call can have
abbrev max_line : ℕ
max_line = column.head_width + 1 + column.fault_width * max_faults

line_sum : (front faults : List ℕ) (n : ℕ) → length front ≡ column.head_width → length faults ≡ column.fault_width * n
    → length (front ++ faults ++ 10 ∷ []) ≡ column.head_width + 1 + column.fault_width * n
line_sum front faults n first more = omega (arith, first, more, length-append (front ++ faults) (10 ∷ []), length-append front faults)

line_length : (x : EntryLine) → IsEntryLine (line_text x) x → length (line_text x) ≡ column.head_width + 1 + column.fault_width * length x.call.faults
line_length x says =
    line_sum (line_of head (head_of x)) (faults_text x.call.faults) (length x.call.faults)
    (length-line_of head (head_of x) refl (line_whole (line_text x) x says)) (length-faults x.call.faults says.call.types)

entry_length : (index : ℕ) (e : EntryValue) → index < 10 ^ 8 → IsWholeEntry e
    → length (entry_line index e.call e.reply) ≡ column.head_width + 1 + column.fault_width * length e.call.faults
entry_length index e lt h =
    line_length (line_for index e.call e.reply) (record { text = refl; index = lt; work = h.fits.work; version = h.fits.version; call = h.call })

entry_long : (index : ℕ) (e : EntryValue) → index < 10 ^ 8 → IsWholeEntry e → length (entry_line index e.call e.reply) ≤ max_line
entry_long index e lt h =
    let len = entry_length index e lt h in
    let few = faults_few e.call.faults (lawful_parts e.call h.call.lawful).faults in
    omega (arith, len, few)

entries_sum : (first more : List ℕ) (n : ℕ) → length first ≤ max_line → length more ≤ max_line * n → length (first ++ more) ≤ max_line * suc n
entries_sum first more n one others = omega (arith, one, others, length-append first more)

entries_long : (index : ℕ) (es : List EntryValue) → index + length es ≤ 10 ^ 8 → AllByRecursion IsWholeEntry es → length (entry_lines index es) ≤ max_line * length es
entries_long index [] few whole = omega arith
entries_long index (e ∷ es) few whole =
    entries_sum (entry_line index e.call e.reply) (entry_lines (index + 1) es) (length es) (entry_long index e (omega (arith, few)) whole.0)
    (entries_long (index + 1) es (omega (arith, few)) whole.1)

-- the faults of these entries
abbrev pub faults_of : List EntryValue → ℕ
faults_of es = sum_by (λ e. length e.call.faults) es

entries_total : (first more : List ℕ) (n faults others sum : ℕ) → sum ≡ faults + others → length first ≡ column.head_width + 1 + column.fault_width * faults
    → length more ≡ (column.head_width + 1) * n + column.fault_width * others
    → length (first ++ more) ≡ (column.head_width + 1) * suc n + column.fault_width * sum
entries_total first more n faults others sum is one rest = omega (arith, is, one, rest, length-append first more)

entries_length : (index : ℕ) (es : List EntryValue) → index + length es ≤ 10 ^ 8 → AllByRecursion IsWholeEntry es
    → length (entry_lines index es) ≡ (column.head_width + 1) * length es + column.fault_width * faults_of es
entries_length index [] few whole = refl
entries_length index (e ∷ es) few whole =
    entries_total (entry_line index e.call e.reply) (entry_lines (index + 1) es) (length es) (length e.call.faults) (faults_of es) _
    (sum_by-cons (λ (x : EntryValue). length x.call.faults) e es) (entry_length index e (omega (arith, few)) whole.0) (entries_length (index + 1) es (omega (arith, few)) whole.1)

text_total : (count first more : List ℕ) (n : ℕ) → first ≡ count ++ 10 ∷ [] → length count ≡ column.count_width → length more ≡ n
    → length (first ++ more) ≡ column.count_width + 1 + n
text_total count first more n is one others =
    let len = ap length is in omega (arith, len, one, others, length-append first more, length-append count (10 ∷ []))

pub text_length : (es : List EntryValue) → length es < 10 ^ 8 → AllByRecursion IsWholeEntry es
    → length (register_text es) ≡ column.count_width + 1 + ((column.head_width + 1) * length es + column.fault_width * faults_of es)
text_length es few whole =
    text_total (line_of entry_count (length es)) (count_line (length es)) (entry_lines 1 es) _ refl
    (length-line_of entry_count (length es) refl ((refl, refl), (few, tt))) (entries_length 1 es (omega (arith, few)) whole)

text_sum : (count first more : List ℕ) (n : ℕ) → first ≡ count ++ 10 ∷ [] → length count ≡ column.count_width → length more ≤ max_line * n → n < 10 ^ 8 → length (first ++ more) < 2 ^ 63
text_sum count first more n is one others few =
    let len = ap length is in omega (arith, len, one, others, few, length-append first more, length-append count (10 ∷ []))

pub text_short : (es : List EntryValue) → length es < 10 ^ 8 → AllByRecursion IsWholeEntry es → length (register_text es) < 2 ^ 63
text_short es few whole =
    text_sum (line_of entry_count (length es)) (count_line (length es)) (entry_lines 1 es) (length es) refl
    (length-line_of entry_count (length es) refl ((refl, refl), (few, tt))) (entries_long 1 es (omega (arith, few)) whole) few

-- the same of a list that is this history
pub history_short : (es history : List EntryValue) (limit : ℕ) → es ≡ history → length history ≤ limit → limit ≤ max_entries → AllByRecursion IsWholeEntry es
    → length (register_text es) < 2 ^ 63
history_short es history limit same within most whole = let len = ap length same in text_short es (omega (arith, len, within, most)) whole

-- ---- what a part that is put leaves

pub count_put : (out a b line lines : List ℕ) → a ≡ out ++ line → b ≡ a ++ 10 ∷ [] → out ++ ((line ++ 10 ∷ []) ++ lines) ≡ b ++ lines
count_put out a b line lines p q =
    sym (ap (λ t. t ++ lines) (q ∙ ap (λ t. t ++ 10 ∷ []) p ∙ append_assoc out line (10 ∷ [])) ∙ append_assoc out (line ++ 10 ∷ []) lines)

pub head_put : (out new front faults told lines : List ℕ) → new ≡ out ++ front → told ≡ faults → out ++ ((front ++ faults ++ 10 ∷ []) ++ lines) ≡ new ++ (told ++ 10 ∷ lines)
head_put out new front faults told lines p q =
    ap (λ t. out ++ t) (append_assoc (front ++ faults) (10 ∷ []) lines ∙ append_assoc front faults (10 ∷ lines))
    ∙ sym (append_assoc out front (faults ++ 10 ∷ lines)) ∙ ap (λ t. t ++ (faults ++ 10 ∷ lines)) (sym p) ∙ ap (λ t. new ++ (t ++ 10 ∷ lines)) (sym q)

pub fault_put : (out new first others lines : List ℕ) → new ≡ out ++ first → out ++ ((first ++ others) ++ lines) ≡ new ++ (others ++ lines)
fault_put out new first others lines p =
    ap (λ t. out ++ t) (append_assoc first others lines) ∙ sym (append_assoc out first (others ++ lines)) ∙ ap (λ t. t ++ (others ++ lines)) (sym p)

pub end_put : (out new lines : List ℕ) → new ≡ out ++ 10 ∷ [] → out ++ 10 ∷ lines ≡ new ++ lines
end_put out new lines p = sym (ap (λ t. t ++ lines) p ∙ append_assoc out (10 ∷ []) lines)

pub others_fit : (f : Fault) (faults others : List Fault) → faults ≡ f ∷ others → AllByRecursion (Fits fault) faults → AllByRecursion (Fits fault) others
others_fit f faults others is fit =
    let P : List Fault → Type 0 = λ fs. AllByRecursion (Fits fault) fs in
    (subst P is fit).1

-- more is there than was
pub grown : (out new part : List ℕ) → new ≡ out ++ part → 0 < length part → length out < length new
grown out new part p some = let len = ap length p in omega (arith, len, some, length-append out part)

-- what was put is no longer left
pub fewer : (out new left rest : List ℕ) → out ++ left ≡ new ++ rest → length out < length new → length rest < length left
fewer out new left rest same more = let len = ap length same in omega (arith, len, more, length-append out left, length-append new rest)

-- the next entry, whose line is begun
pub entry_next : (held new left : List ℕ) (next then : Next) (index : ℕ) (entries rest : List EntryValue) (e : EntryValue) → left ≡ text_from next index entries
    → next ≡ Entry → entries ≡ e ∷ rest
    → ((es : List EntryValue) → held ++ (entry_line index e.call e.reply ++ entry_lines (index + 1) es) ≡ new ++ text_from then (index + 1) es)
    → held ++ left ≡ new ++ text_from then (index + 1) rest
entry_next held new left next then index entries rest e view is split put =
    ap (λ t. held ++ t) (view ∙ ap (λ n. text_from n index entries) is ∙ ap (λ es. entry_lines index es) split) ∙ put rest
