-- What a call tells fits the fields of a register.
use Rattle.std.proofs.Common.{◌≡◌, ℕ, zero, suc, ◌<◌, ◌≤◌, ◌^◌, true, leb, List, [], ◌∷◌, length, Option, Some, None, IsTrue, arith, refl}
use Rattle.std.specs.Prelude.{◌&&◌, slice_index}
use Rattle.std.specs.List.{list_all, AllByRecursion}
use Rattle.std.specs.Char.{is_ascii_uppercase}
use Rattle.std.proofs.lemmas.Bool.Decides.{nat_tests}
use Rattle.cwr_call.specs.declared.transaction_fault.Fault.{Fault}
use Rattle.cwr_call.specs.CallValue.{CallValue}
use Rattle.cwr_call.specs.Lawful.{max_faults, max_sum, is_lawful, is_clean, is_iswc, are_at_most, is_whole, is_fault, are_faults, rises}
use Rattle.cwr_field.specs.Iswc.{max_code}
use Rattle.cwr_field.specs.Number.{max_count}
use Rattle.cwr_field.proofs.lemmas.Tests.{parts}
use Rattle.work_registry.specs.declared.reply.Reply.{Reply}
use Rattle.work_registry.specs.declared.reply.Reply.TheVariants.{Accepted, Duplicate, Conflict, Rejected}
use Rattle.work_registry.specs.EntryValue.{EntryValue}
use Rattle.work_registry.specs.Numbers.{IsNumbered}
use Rattle.cwr_record.specs.Lines.{Fits, FitsCode, IsWhole}
use Rattle.cwr_record.proofs.lemmas.Spelled.{code_held}
use Rattle.cwr_record.proofs.lemmas.Codes.{length-work_kind_code, length-status_text}
use Rattle.work_registry.specs.RegisterLine.{EntryLine, IsEntryLine, head, fault, head_of, IsTyped}
use Rattle.work_registry.specs.Register.{line_for, FitsEntry}

le_of : (a b : ℕ) → leb a b ≡ true → a ≤ b
le_of a b h = grind (arith, nat_tests)

-- the parts of what is true of every call
pub record LawfulParts (c : CallValue) : Type 0 where
  pub submitter : is_clean c.submitter ≡ true
  pub title : is_clean c.title ≡ true
  pub number : is_clean c.number ≡ true
  pub iswc : is_iswc c.iswc ≡ true
  pub control : are_at_most max_sum c.control ≡ true
  pub whole : is_whole c.faults c.control ≡ true
  pub faults : are_faults c.faults ≡ true

pub lawful_parts : (c : CallValue) → IsTrue (is_lawful c) → LawfulParts c
lawful_parts c h =
    let a = parts _ (are_faults c.faults) h in
    let b = parts _ (is_whole c.faults c.control) a.0 in
    let d = parts _ (are_at_most max_sum c.control) b.0 in
    let e = parts _ (is_iswc c.iswc) d.0 in
    let f = parts _ (is_clean c.number) e.0 in
    let g = parts (is_clean c.submitter) (is_clean c.title) f.0 in
    record { submitter = g.0; title = g.1; number = f.1; iswc = e.1; control = d.1; whole = b.1; faults = a.1 }

control_at : (limit : ℕ) (xs : List ℕ) (i : ℕ) → are_at_most limit xs ≡ true → slice_index xs i ≤ limit
control_at limit [] i h = omega arith
control_at limit (x ∷ xs) zero h = le_of x limit (parts (leb x limit) (are_at_most limit xs) h).0
control_at limit (x ∷ xs) (suc i) h = control_at limit xs i (parts (leb x limit) (are_at_most limit xs) h).1

iswc_fits : (n : Option ℕ) → is_iswc n ≡ true → FitsCode n
iswc_fits None h = tt
iswc_fits (Some n) h = let le = le_of n max_code h in omega (arith, le)

fault_fits : (f : Fault) → is_fault f ≡ true → Fits fault f
fault_fits f h =
    let a = parts _ (list_all is_ascii_uppercase f.rtype) h in
    let b = parts (leb f.sequence max_count) (leb 1 f.number && leb f.number 15) a.0 in
    let sequence = le_of f.sequence max_count b.0 in
    let number = le_of f.number 15 (parts (leb 1 f.number) (leb f.number 15) b.1).1 in
    (omega (arith, sequence), (omega (arith, number), tt))

all_fit : (fs : List Fault) → list_all is_fault fs ≡ true → AllByRecursion (Fits fault) fs
all_fit [] h = tt
all_fit (f ∷ fs) h = let p = parts (is_fault f) (list_all is_fault fs) h in (fault_fits f p.0, all_fit fs p.1)

-- how many faults there are, and what each is
pub faults_few : (fs : List Fault) → are_faults fs ≡ true → length fs ≤ max_faults
faults_few fs h = le_of (length fs) max_faults (parts (leb (length fs) max_faults) (list_all is_fault fs) (parts _ (rises fs) h).0).0

pub faults_fit : (fs : List Fault) → are_faults fs ≡ true → AllByRecursion (Fits fault) fs
faults_fit fs h = all_fit fs (parts (leb (length fs) max_faults) (list_all is_fault fs) (parts _ (rises fs) h).0).1

pub line_fits : (x : EntryLine) → x.index < 10 ^ 8 → x.work < 10 ^ 8 → x.version < 10 ^ 8 → IsTrue (is_lawful x.call) → Fits head (head_of x)
line_fits x index work version lawful =
    let p = lawful_parts x.call lawful in
    let rights : (i : ℕ) → slice_index x.call.control i < 10 ^ 12 = λ i. let le = control_at max_sum x.call.control i p.control in omega (arith, le) in
    let few = faults_few x.call.faults p.faults in
    (tt, (index, (iswc_fits x.call.iswc p.iswc, (rights 0, (rights 1, (rights 2, (work, (version, (omega (arith, few), tt)))))))))

-- and so does all that a line says
pub line_whole : (line : List ℕ) (x : EntryLine) → IsEntryLine line x → IsWhole head (head_of x)
line_whole line x h =
    let fits = line_fits x h.index h.work h.version h.call.lawful in (
      (refl, refl),
      (
        fits.1.0,
        (
          h.call.submitter,
          (
            length-work_kind_code x.call.kind,
            (
              h.call.title,
              (
                h.call.number,
                (
                  code_held x.call.iswc fits.1.1.0,
                  (fits.1.1.1.0, (fits.1.1.1.1.0, (fits.1.1.1.1.1.0, (length-status_text x.status, (fits.1.1.1.1.1.1.0, (fits.1.1.1.1.1.1.1.0, (fits.1.1.1.1.1.1.1.1.0, tt))))))),
                ),
              ),
            ),
          ),
        ),
      ),
    )

pub head_fits : (index : ℕ) (e : EntryValue) → index < 10 ^ 8 → FitsEntry e → IsTrue (is_lawful e.call) → Fits head (head_of (line_for index e.call e.reply))
head_fits index e lt fits lawful = line_fits (line_for index e.call e.reply) lt fits.work fits.version lawful

pub whole_faults : (fs : List Fault) → AllByRecursion (Fits fault) fs → AllByRecursion IsTyped fs → AllByRecursion (IsWhole fault) fs
whole_faults [] fits typed = tt
whole_faults (f ∷ fs) fits typed = ((fits.0.0, (fits.0.1.0, (typed.0, tt))), whole_faults fs fits.1 typed.1)

reply_fits : (e : EntryValue) (reply : Reply) → e.reply ≡ reply → IsNumbered reply → FitsEntry e
reply_fits e (Accepted w v) is h = record { work = rw is (let b = h.0.1 in omega (arith, b)); version = rw is (let b = h.1.1 in omega (arith, b)) }
reply_fits e (Duplicate w) is h = record { work = rw is (let b = h.1 in omega (arith, b)); version = rw is (omega arith) }
reply_fits e (Conflict w) is h = record { work = rw is (let b = h.1 in omega (arith, b)); version = rw is (omega arith) }
reply_fits e Rejected is h = record { work = rw is (omega arith); version = rw is (omega arith) }

-- the replies of a history fit their fields
pub entries_fit : (es : List EntryValue) → AllByRecursion (λ (e : EntryValue). IsNumbered e.reply) es → AllByRecursion FitsEntry es
entries_fit [] h = tt
entries_fit (e ∷ es) h = (reply_fits e e.reply refl h.0, entries_fit es h.1)
