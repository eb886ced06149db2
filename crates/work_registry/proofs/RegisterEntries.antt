-- The line of an entry: what it says, and that it says nothing else.
use Rattle.std.proofs.Common.{◌≡◌, ◌∙◌, ℕ, ◌+◌, ◌*◌, ◌<◌, ◌≤◌, true, List, [], ◌∷◌, ◌++◌, length, take, drop, Option, Some, None, arith, ap, sym, subst, refl, is_some, IsTrue}
use Rattle.std.specs.Prelude.{slice_index, IfSome}
use Rattle.std.specs.List.{AllByRecursion}
use Rattle.std.proofs.lemmas.List.{length-append, length-take, take_at, drop_at, take_all, drop_all, take-append-drop, append_cancel_right}
use Rattle.cwr_record.specs.declared.works.WorkKind.{WorkKind}
use Rattle.cwr_record.specs.declared.status.Status.{Status}
use Rattle.cwr_call.specs.declared.transaction_fault.Fault.{Fault}
use Rattle.cwr_record.proofs.lemmas.Codes.{same_kind, same_status}
use Rattle.cwr_call.specs.Lawful.{is_lawful}
use Rattle.work_registry.specs.declared.register.head.Head.{Head}
use Rattle.work_registry.specs.RegisterColumns as column
use Rattle.work_registry.specs.RegisterLine.{head, fault, head_of, line_from, EntryLine, IsEntryLine, IsTyped}
use Rattle.cwr_record.specs.Layout.{StandsFor}
use Rattle.cwr_record.specs.Lines.{Fits, IsWhole, line_of}
use Rattle.cwr_field.proofs.lemmas.Spelling.{length-field}
use Rattle.cwr_record.proofs.lemmas.RoundTrip.{stands}
use Rattle.cwr_record.proofs.lemmas.Spelled.{spelled, same_parts, same_number, same_maybe, length-line_of}
use Rattle.work_registry.proofs.RegisterFits.{line_whole, lawful_parts, faults_fit, whole_faults}
use Rattle.work_registry.proofs.RegisterFaultTexts.{faults_text, length-faults}

-- what is known of a line, less its LF, that says something of an entry
pub record Said (front : List ℕ) (x : EntryLine) : Type 0 where
  pub long : column.head_width ≤ length front
  pub head_stands : StandsFor head (take column.head_width front) (head_of x)
  pub faults : faults_text x.call.faults ≡ drop column.head_width front
  pub whole : AllByRecursion (IsWhole fault) x.call.faults
  pub rest : length (drop column.head_width front) ≡ column.fault_width * length x.call.faults

split_at : (xs ys zs : List ℕ) (n : ℕ) → length xs ≡ n → zs ≡ xs ++ ys → (take n zs ≡ xs) × (drop n zs ≡ ys)
split_at xs ys zs n len e = rw e (take_at xs ys n len, drop_at xs ys n len)

pub said : (front : List ℕ) (x : EntryLine) → IsEntryLine (front ++ 10 ∷ []) x → Said front x
said front x h =
    let whole = line_whole (front ++ 10 ∷ []) x h in
    let text : front ≡ line_of head (head_of x) ++ faults_text x.call.faults = append_cancel_right front (line_of head (head_of x) ++ faults_text x.call.faults) (10 ∷ []) h.text in
    let len : length (line_of head (head_of x)) ≡ column.head_width = length-line_of head (head_of x) refl whole in
    let split = split_at (line_of head (head_of x)) (faults_text x.call.faults) front column.head_width len text in
    let lawful = lawful_parts x.call h.call.lawful in
    let P : List ℕ → Type 0 = λ line. StandsFor head line (head_of x) in
    let long : length front ≡ length (line_of head (head_of x)) + length (faults_text x.call.faults) = ap length text ∙ length-append (line_of head (head_of x)) (faults_text x.call.faults) in
    record {
      long = omega (arith, long, len);
      head_stands = subst P (sym split.0) (stands head (head_of x) refl whole);
      faults = sym split.1;
      whole = whole_faults x.call.faults (faults_fit x.call.faults lawful.faults) h.call.types;
      rest = ap length split.1 ∙ length-faults x.call.faults h.call.types;
    }

three : (xs ys : List ℕ) → length xs ≡ 3 → length ys ≡ 3 → slice_index xs 0 ≡ slice_index ys 0 → slice_index xs 1 ≡ slice_index ys 1 → slice_index xs 2 ≡ slice_index ys 2 → xs ≡ ys
three (a ∷ b ∷ c ∷ []) (d ∷ e ∷ f ∷ []) p q r s t = rw (r, s, t) refl
three _ _ p q r s t = absurd (omega arith)

head_is : (i i' : ℕ) (s s' : List ℕ) (k k' : WorkKind) (t t' n n' : List ℕ) (o o' : Option ℕ) (c c' : List ℕ) (u u' : Status) (w w' v v' f f' : ℕ)
    → i ≡ i' → s ≡ s' → k ≡ k' → t ≡ t' → n ≡ n' → o ≡ o' → c ≡ c' → u ≡ u' → w ≡ w' → v ≡ v' → f ≡ f'
    → let a : Head = record { index = i; submitter = s; kind = k; title = t; number = n; iswc = o; control = c; status = u; work = w; version = v; faults = f } in
    let b : Head = record { index = i'; submitter = s'; kind = k'; title = t'; number = n'; iswc = o'; control = c'; status = u'; work = w'; version = v'; faults = f' } in a ≡ b
head_is i i' s s' k k' t t' n n' o o' c c' u u' w w' v v' f f' e1 e2 e3 e4 e5 e6 e7 e8 e9 e10 e11 = rw (e1, e2, e3, e4, e5, e6, e7, e8, e9, e10, e11) refl

-- a line has one reading in its fields of fixed place
pub same_head : (line : List ℕ) (x y : Head) → length x.control ≡ 3 → length y.control ≡ 3 → StandsFor head line x → StandsFor head line y → x ≡ y
same_head line x y cx cy a b =
    let same = same_parts head line x y a b in
    let from_kind = same.1.1.1 in
    let from_rights = from_kind.1.1.1.1 in
    let from_status = from_rights.1.1.1 in
    head_is x.index y.index x.submitter y.submitter x.kind y.kind x.title y.title x.number y.number x.iswc y.iswc x.control y.control x.status y.status x.work y.work x.version y.version x.faults y.faults
    (same_number x.index y.index same.1.0)
    same.1.1.0
    (same_kind x.kind y.kind from_kind.0)
    from_kind.1.0
    from_kind.1.1.0
    (same_maybe x.iswc y.iswc from_kind.1.1.1.0)
    (three x.control y.control cx cy
    (same_number (slice_index x.control 0) (slice_index y.control 0) from_rights.0)
    (same_number (slice_index x.control 1) (slice_index y.control 1) from_rights.1.0)
    (same_number (slice_index x.control 2) (slice_index y.control 2) from_rights.1.1.0))
    (same_status x.status y.status from_status.0)
    (same_number x.work y.work from_status.1.0)
    (same_number x.version y.version from_status.1.1.0)
    (same_number x.faults y.faults from_status.1.1.1.0)

-- what was read of a line is what it says

pub says : (front : List ℕ) (h : Head) (fs : List Fault) (x : EntryLine) → column.head_width ≤ length front → StandsFor head (take column.head_width front) h → Fits head h → length h.control ≡ 3
    → faults_text fs ≡ drop column.head_width front → AllByRecursion IsTyped fs → length (drop column.head_width front) ≡ column.fault_width * h.faults → x ≡ line_from h fs → IsTrue (is_lawful (line_from h fs).call)
    → IsEntryLine (front ++ 10 ∷ []) x
says front h fs x long st fits rights text typed rest is lawful =
    let line = take column.head_width front in
    let count : h.faults ≡ length fs = (let a = length-faults fs typed in let b = ap length text in omega (arith, a, b, rest)) in
    let same : head_of (line_from h fs) ≡ h = ap (λ (n : ℕ). record h { faults = n }) (sym count) in
    let fixed : line_of head h ≡ take column.head_width front = spelled head (take column.head_width front) h 1 (omega arith) refl refl (omega (arith, long, length-take column.head_width front)) st ∙ take_all column.head_width (take column.head_width front) (omega (arith, length-take column.head_width front)) in
    let whole : front ≡ line_of head (head_of (line_from h fs)) ++ faults_text fs =
    sym (take-append-drop column.head_width front) ∙ ap (λ (xs : List ℕ). xs ++ drop column.head_width front) (sym fixed ∙ ap (λ (y : Head). line_of head y) (sym same)) ∙ ap (λ (xs : List ℕ). line_of head (head_of (line_from h fs)) ++ xs) (sym text) in
    rw is (record {
      text = ap (λ (xs : List ℕ). xs ++ 10 ∷ []) whole;
      index = fits.1.0;
      work = fits.1.1.1.1.1.1.0;
      version = fits.1.1.1.1.1.1.1.0;
      call = record {
        lawful = lawful;
        submitter = ap length st.1.1.0 ∙ length-field line column.submitter.start column.submitter.width;
        title = ap length st.1.1.1.1.0 ∙ length-field line column.title.start column.title.width;
        number = ap length st.1.1.1.1.1.0 ∙ length-field line column.number.start column.number.width;
        control = rights;
        types = typed;
      };
    })

-- what a line says is what was read of it

pub read_is : (front : List ℕ) (h : Head) (fs : List Fault) (x : EntryLine) (o : Option EntryLine) → Said front x → length x.call.control ≡ 3 → IsTrue (is_lawful x.call)
    → StandsFor head (take column.head_width front) h → length h.control ≡ 3 → fs ≡ x.call.faults
    → is_some o ≡ is_lawful (line_from h fs).call → IfSome o (λ y. y ≡ line_from h fs) → o ≡ Some x
read_is front h fs x o s rights lawful st control faults when value =
    let same = same_head (take column.head_width front) h (head_of x) control rights st s.head_stands in
    let is : line_from h fs ≡ x = ap (λ (y : Head). line_from y fs) same ∙ ap (λ (ys : List Fault). line_from (head_of x) ys) faults in
    by o (when ∙ ap (λ (y : EntryLine). is_lawful y.call) is ∙ lawful) value is
  where
    by : (p : Option EntryLine) → is_some p ≡ true → IfSome p (λ y. y ≡ line_from h fs) → line_from h fs ≡ x → p ≡ Some x
    by None none v is = absurd cc
    by (Some y) some v is = ap (λ (z : EntryLine). Some z) (v ∙ is)

-- a line says nothing, where one of its parts spells nothing

pub short : (front : List ℕ) (x : EntryLine) → length front < column.head_width → IsEntryLine (front ++ 10 ∷ []) x → ⊥
short front x lt h = let s = said front x h in let long = s.long in omega (arith, lt, long)

pub headless : (front : List ℕ) (x : EntryLine) → ((y : Head) → StandsFor head (take column.head_width front) y → ⊥) → IsEntryLine (front ++ 10 ∷ []) x → ⊥
headless front x none h = let s = said front x h in none (head_of x) s.head_stands

-- another number of faults stands in the head than follows
pub miscounted : (front : List ℕ) (y : Head) (x : EntryLine) → StandsFor head (take column.head_width front) y → length y.control ≡ 3
    → (length (drop column.head_width front) ≡ column.fault_width * y.faults → ⊥) → IsEntryLine (front ++ 10 ∷ []) x → ⊥
miscounted front y x st rights wrong h =
    let s = said front x h in
    let same = same_head (take column.head_width front) y (head_of x) rights h.call.control st s.head_stands in
    wrong (s.rest ∙ ap (λ (z : Head). column.fault_width * z.faults) (sym same))

pub says_some : (front : List ℕ) (h : Head) (fs : List Fault) (o : Option EntryLine) → column.head_width ≤ length front → StandsFor head (take column.head_width front) h → Fits head h → length h.control ≡ 3
    → faults_text fs ≡ drop column.head_width front → AllByRecursion IsTyped fs → length (drop column.head_width front) ≡ column.fault_width * h.faults
    → is_some o ≡ is_lawful (line_from h fs).call → IfSome o (λ y. y ≡ line_from h fs) → IfSome o (IsEntryLine (front ++ 10 ∷ []))
says_some front h fs None long st fits rights text typed rest when value = tt
says_some front h fs (Some x) long st fits rights text typed rest when value = says front h fs x long st fits rights text typed rest value (sym when)

-- what the line says of an entry is what was read of it
pub only_read : (front : List ℕ) (h : Head) (fs : List Fault) (p : Option (List Fault)) (o : Option EntryLine) → StandsFor head (take column.head_width front) h → length h.control ≡ 3
    → p ≡ Some fs → ((gs : List Fault) → AllByRecursion (IsWhole fault) gs → faults_text gs ≡ drop column.head_width front → p ≡ Some gs)
    → is_some o ≡ is_lawful (line_from h fs).call → IfSome o (λ y. y ≡ line_from h fs)
    → (x : EntryLine) → IsEntryLine (front ++ 10 ∷ []) x → o ≡ Some x
only_read front h fs p o st rights is only when value x line =
    let s = said front x line in
    let found : Some fs ≡ Some x.call.faults = sym is ∙ only x.call.faults s.whole s.faults in
    let same : fs ≡ x.call.faults = cc in
    read_is front h fs x o s line.call.control line.call.lawful st rights same when value

pub faultless : (front : List ℕ) (p : Option (List Fault)) → p ≡ None → ((gs : List Fault) → AllByRecursion (IsWhole fault) gs → faults_text gs ≡ drop column.head_width front → p ≡ Some gs)
    → (x : EntryLine) → IsEntryLine (front ++ 10 ∷ []) x → ⊥
faultless front p is only x line =
    let s = said front x line in
    let found : None ≡ Some x.call.faults = sym is ∙ only x.call.faults s.whole s.faults in
    cc

-- a line of the fields of fixed place alone, which tell no faults

pub alone_says : (line : List ℕ) (h : Head) → length line ≡ column.head_width → StandsFor head line h → Fits head h → length h.control ≡ 3 → h.faults ≡ 0 → IsTrue (is_lawful (line_from h []).call)
    → IsEntryLine (line ++ 10 ∷ []) (line_from h [])
alone_says line h len st fits rights none lawful =
    let P : List ℕ → Type 0 = λ xs. StandsFor head xs h in
    let whole = take_all column.head_width line (omega (arith, len)) in
    let left = drop_all column.head_width line (omega (arith, len)) in
    says line h [] (line_from h []) (omega (arith, len)) (subst P (sym whole) st) fits rights (sym left) tt (let n = ap length left in omega (arith, n, none)) refl lawful

pub alone_only : (line : List ℕ) (h : Head) → length line ≡ column.head_width → StandsFor head line h → length h.control ≡ 3 → (x : EntryLine) → IsEntryLine (line ++ 10 ∷ []) x → x ≡ line_from h []
alone_only line h len st rights x is =
    let s = said line x is in
    let P : List ℕ → Type 0 = λ xs. StandsFor head xs h in
    let whole = take_all column.head_width line (omega (arith, len)) in
    let left = drop_all column.head_width line (omega (arith, len)) in
    let same = same_head (take column.head_width line) h (head_of x) rights is.call.control (subst P (sym whole) st) s.head_stands in
    let none : length x.call.faults ≡ 0 = (let n = ap length left in let rest = s.rest in omega (arith, n, rest)) in
    sym (ap (λ (y : Head). line_from y []) same ∙ ap (λ (fs : List Fault). line_from (head_of x) fs) (sym (empty x.call.faults none)))
  where
    empty : (fs : List Fault) → length fs ≡ 0 → fs ≡ []
    empty [] e = refl
    empty (f ∷ fs) e = absurd (omega arith)
