-- One transaction more was handed in and got a reply.
use Rattle.std.proofs.Common.{◌≡◌, ◌∙◌, ℕ, zero, suc, ◌+◌, ◌<◌, ◌≤◌, ◌^◌, Bool, true, false, cond, List, [], ◌∷◌, ◌++◌, length, take, drop, get_or, slice_get, min, map, Option, Some, None, IsTrue, refl, sym, ap, subst, arith, append_assoc, append-nil, length-append}
use Rattle.std.specs.Prelude.{◌&&◌, if◌then◌else◌, nat_le, option_map}
use Rattle.std.specs.Char.{is_ascii_uppercase}
use Rattle.std.specs.List.{list_all, AllByRecursion}
use Rattle.std.specs.Option.{ForSome}
use Rattle.std.proofs.lemmas.Bool.Decides.{nat_tests}
use Rattle.cwr_field.specs.Number.{max_count}
use Rattle.cwr_field.proofs.lemmas.Tests.{parts}
use Rattle.cwr_record.specs.declared.works.WorkKind.{WorkKind}
use Rattle.cwr_acknowledgement.specs.AckItem.{Item, is_rejected, reported_faults}
use Rattle.cwr_acknowledgement.specs.Acknowledgement.{FitsItem, FitsFault}
use Rattle.cwr_grammar.specs.RawParts.{RawParts, IsPlaced}
use Rattle.cwr_record.specs.declared.status.Status.{Status}
use Rattle.cwr_call.specs.declared.transaction_fault.Fault.{Fault}
use Rattle.cwr_call.specs.CallValue.{CallValue}
use Rattle.cwr_rules.specs.Calls.{call_of}
use Rattle.cwr_call.specs.Lawful.{max_faults, are_faults, is_fault, rises}
use Rattle.work_registry.specs.EntryValue.{EntryValue, entry_of}
use Rattle.work_registry.specs.Numbers.{max_entries, IsNumbered}
use Rattle.work_registry.specs.Replay.{calls_of, replay, entry_for}
use Rattle.work_registry.specs.ReplyParts.{status_in, work_in}
use Rattle.work_registry.specs.declared.reply.Reply.{Reply}
use Rattle.work_registry.specs.declared.reply.Reply.TheVariants.{Accepted, Duplicate, Conflict, Rejected}
use Rattle.cwr_engine.specs.Items.{item_of, items_of, calls_in}
use Rattle.cwr_engine.specs.AckItems.{item_with_reply, items_with_replies}
use Rattle.cwr_engine.specs.Judged.{JudgedValue, judged_of}
use Rattle.cwr_engine.specs.Handing.{Follows, Entries, HasGained, IsAnswered, AreAnswered}

-- ---- an item fits its line

named : (w x : ℕ) → w ≤ max_entries → Some w ≡ Some x → x < 10 ^ 8
named w x le is = let same : w ≡ x = cc in omega (arith, le, same)

work_fits : (r : Reply) → IsNumbered r → ForSome (work_in r) (λ work. work < 10 ^ 8)
work_fits (Accepted w v) n = λ x is. named w x n.0.1 is
work_fits (Duplicate w) n = λ x is. named w x n.1 is
work_fits (Conflict w) n = λ x is. named w x n.1 is
work_fits Rejected n = λ x is. absurd cc

fault_fits : (f : Fault) → is_fault f ≡ true → FitsFault f
fault_fits f e =
    let numbers = (parts (nat_le f.sequence max_count && (nat_le 1 f.number && nat_le f.number 15)) (list_all is_ascii_uppercase f.rtype) e).0 in
    let a = parts (nat_le f.sequence max_count) (nat_le 1 f.number && nat_le f.number 15) numbers in
    let b = parts (nat_le 1 f.number) (nat_le f.number 15) a.1 in
    let small = a.0 in
    let low = b.0 in
    let high = b.1 in
    record { sequence = grind (arith, nat_tests); first = grind (arith, nat_tests); last = grind (arith, nat_tests) }

faults_fit : (fs : List Fault) → list_all is_fault fs ≡ true → AllByRecursion FitsFault fs
faults_fit [] e = tt
faults_fit (f ∷ fs) e = let p = parts (is_fault f) (list_all is_fault fs) e in (fault_fits f p.0, faults_fit fs p.1)

told_fit : (rejected : Bool) (fs : List Fault) → AllByRecursion FitsFault fs → AllByRecursion FitsFault (cond rejected fs [])
told_fit true fs h = h
told_fit false fs h = tt

item_fits : (t : RawParts) (e : EntryValue) → IsPlaced t → IsNumbered e.reply → are_faults e.call.faults ≡ true → FitsItem (item_of t e)
item_fits t e placed numbered lawful =
    let few = nat_le (length e.call.faults) max_faults in
    let all = (parts few (list_all is_fault e.call.faults) (parts (few && list_all is_fault e.call.faults) (rises e.call.faults) lawful).0).1 in
    record {
      group = placed.group;
      sequence = placed.sequence;
      work = work_fits e.reply numbered;
      faults = told_fit (is_rejected (status_in e.reply)) e.call.faults (faults_fit e.call.faults all);
    }

-- ---- one transaction

-- its item, from the transaction that was judged and the call that was handed in for it
pub answered : (s : ℕ) (submitter : List ℕ) (t : RawParts) (judged : JudgedValue) (call : CallValue) (r : Reply) (before after : Entries)
    → judged ≡ judged_of submitter t → call ≡ judged.call → HasGained s (entry_of s call r ∷ []) before after
    → IsPlaced t → IsNumbered r → IsTrue (are_faults judged.call.faults)
    → IsAnswered s submitter t (item_with_reply judged r) before after
answered s submitter t judged call r before after is same gained placed numbered lawful =
    let whole : call ≡ call_of submitter t = same ∙ ap (λ (j : JudgedValue). j.call) is in
    let told : item_with_reply judged r ≡ item_of t (entry_of s (call_of submitter t) r) = ap (λ (j : JudgedValue). item_with_reply j r) is in
    let own : are_faults (call_of submitter t).faults ≡ true = ap (λ (j : JudgedValue). are_faults j.call.faults) (sym is) ∙ lawful in
    record {
      reply = r;
      gained = subst (λ (x : CallValue). HasGained s (entry_of s x r ∷ []) before after) whole gained;
      told = told;
      fits = subst FitsItem (sym told) (item_fits t (entry_of s (call_of submitter t) r) placed numbered own);
    }

-- ---- what is told of judged transactions and of the replies to them

pub told_none : (judged : List JudgedValue) (replies : List Reply) → replies ≡ [] → items_with_replies judged replies ≡ []
told_none judged replies none = ap (items_with_replies judged) none ∙ go judged where
  go : (js : List JudgedValue) → items_with_replies js [] ≡ []
  go [] = refl
  go (j ∷ js) = refl

pub length_told : (judged : List JudgedValue) (replies : List Reply) → length replies ≤ length judged → length (items_with_replies judged replies) ≡ length replies
length_told [] [] le = refl
length_told [] (r ∷ rs) le = absurd (omega (arith, le))
length_told (j ∷ js) [] le = refl
length_told (j ∷ js) (r ∷ rs) le = ap suc (length_told js rs (omega (arith, le)))

pub length_told_least : (judged : List JudgedValue) (replies : List Reply) → length (items_with_replies judged replies) ≡ min (length judged) (length replies)
length_told_least [] rs = omega arith
length_told_least (j ∷ js) [] = omega arith
length_told_least (j ∷ js) (r ∷ rs) = let rest = length_told_least js rs in omega (arith, rest)

pub judged_within : (judged : List JudgedValue) (replies : List Reply) (i : ℕ) → i < length (items_with_replies judged replies) → i < length judged
judged_within judged replies i lt = let least = length_told_least judged replies in omega (arith, lt, least)

pub reply_within : (judged : List JudgedValue) (replies : List Reply) (i : ℕ) → i < length (items_with_replies judged replies) → i < length replies
reply_within judged replies i lt = let least = length_told_least judged replies in omega (arith, lt, least)

told_at : (judged : List JudgedValue) (replies : List Reply) (i : ℕ) (d : JudgedValue) (e : Reply) → i < length judged → i < length replies
    → slice_get (items_with_replies judged replies) i ≡ Some (item_with_reply (get_or judged i d) (get_or replies i e))
told_at [] rs i d e a b = absurd (omega (arith, a))
told_at (j ∷ js) [] i d e a b = absurd (omega (arith, b))
told_at (j ∷ js) (r ∷ rs) zero d e a b = refl
told_at (j ∷ js) (r ∷ rs) (suc i) d e a b = told_at js rs i d e (omega (arith, a)) (omega (arith, b))

-- what is told of one of them, from the parts that it is told by
pub told_by : (judged : List JudgedValue) (replies : List Reply) (i : ℕ) (j d : JudgedValue) (e : Reply)
    (kind : WorkKind) (title number : List ℕ) (status : Status) (work : Option ℕ) (faults : List Fault)
    → i < length (items_with_replies judged replies) → j ≡ get_or judged i d → kind ≡ j.call.kind → title ≡ j.call.title → number ≡ j.call.number
    → status ≡ status_in (get_or replies i e) → work ≡ work_in (get_or replies i e) → faults ≡ j.call.faults
    → slice_get (items_with_replies judged replies) i
    ≡ Some (record { group = j.group; sequence = j.sequence; kind = kind; title = title; number = number; status = status; work = work; faults = faults })
told_by judged replies i j d e kind title number status work faults lt is k t n s w f =
    let r : Reply = get_or replies i e in
    let item : Item = record { group = j.group; sequence = j.sequence; kind = kind; title = title; number = number; status = status; work = work; faults = faults } in
    let parts : item ≡ item_with_reply j r = λ x. record { group = j.group; sequence = j.sequence; kind = k x; title = t x; number = n x; status = s x; work = w x; faults = f x } in
    told_at judged replies i d e (judged_within judged replies i lt) (reply_within judged replies i lt)
    ∙ ap (λ (x : JudgedValue). Some (item_with_reply x r)) (sym is) ∙ ap Some (sym parts)

-- how many faults are told of one of them
pub counted_by : (judged : List JudgedValue) (replies : List Reply) (i : ℕ) (j d : JudgedValue) (e : Reply) (status : Status) (faults told : List Fault) (n : ℕ)
    → i < length (items_with_replies judged replies) → j ≡ get_or judged i d → status ≡ status_in (get_or replies i e) → faults ≡ j.call.faults
    → told ≡ (if is_rejected status then faults else []) → n ≡ length told
    → option_map (λ item. length (reported_faults item)) (slice_get (items_with_replies judged replies) i) ≡ Some n
counted_by judged replies i j d e status faults told n lt is s f t count =
    let r : Reply = get_or replies i e in
    let parts : told ≡ reported_faults (item_with_reply j r) = t ∙ (λ x. if is_rejected (s x) then f x else []) in
    let size : n ≡ length (reported_faults (item_with_reply (get_or judged i d) r)) = count ∙ ap length parts ∙ ap (λ (x : JudgedValue). length (reported_faults (item_with_reply x r))) is in
    ap (option_map (λ (item : Item). length (reported_faults item))) (told_at judged replies i d e (judged_within judged replies i lt) (reply_within judged replies i lt))
    ∙ ap Some (sym size)

pub told_next : (judged others : List JudgedValue) (j : JudgedValue) (replies next : List Reply) (r : Reply) → drop (length replies) judged ≡ j ∷ others
    → next ≡ replies ++ r ∷ [] → items_with_replies judged next ≡ items_with_replies judged replies ++ item_with_reply j r ∷ []
told_next judged others j replies next r at is = ap (items_with_replies judged) is ∙ go judged replies at where
  go : (js : List JudgedValue) (rs : List Reply) → drop (length rs) js ≡ j ∷ others → items_with_replies js (rs ++ r ∷ []) ≡ items_with_replies js rs ++ item_with_reply j r ∷ []
  go [] [] e = absurd cc
  go (k ∷ js) [] e = let same : k ≡ j = cc in ap (λ (x : JudgedValue). item_with_reply x r ∷ items_with_replies js []) same ∙ ap (λ l. item_with_reply j r ∷ l) (told_none js [] refl)
  go [] (s ∷ rs) e = absurd cc
  go (k ∷ js) (s ∷ rs) e = ap (λ l. item_with_reply k s ∷ l) (go js rs e)

-- ---- the transactions so far, and one more

replay-append : (s : ℕ) (h : List EntryValue) (xs ys : List CallValue) → replay s h (xs ++ ys) ≡ replay s h xs ++ replay s (h ++ replay s h xs) ys
replay-append s h [] ys = ap (λ g. replay s g ys) (sym (append-nil h))
replay-append s h (x ∷ xs) ys =
    ap (λ es. entry_for s h x ∷ es) (replay-append s (h ++ entry_for s h x ∷ []) xs ys
    ∙ ap (λ g. replay s (h ++ entry_for s h x ∷ []) xs ++ replay s g ys) (append_assoc h (entry_for s h x ∷ []) (replay s (h ++ entry_for s h x ∷ []) xs)))

calls_of-append : (xs ys : List EntryValue) → calls_of (xs ++ ys) ≡ calls_of xs ++ calls_of ys
calls_of-append [] ys = refl
calls_of-append (x ∷ xs) ys = ap (λ l. x.call ∷ l) (calls_of-append xs ys)

Follows-next : (s : ℕ) (a b c : Option (List EntryValue)) (made : List EntryValue) (e : EntryValue) → Follows s a b made → Follows s b c (e ∷ []) → Follows s a c (made ++ e ∷ [])
Follows-next s None b c made e p q = tt
Follows-next s (Some h) b c made e p q = go (rw p.0 at q) where
  go : Follows s (Some (h ++ made)) c (e ∷ []) → Follows s (Some h) c (made ++ e ∷ [])
  go r = (
    r.0 ∙ ap Some (append_assoc h made (e ∷ [])),
    (λ i. p.1 i ++ r.1 i)
        ∙ (ap (λ g. replay s h (calls_of made) ++ replay s (h ++ g) (e.call ∷ [])) p.1
        ∙ (sym (replay-append s h (calls_of made) (e.call ∷ [])) ∙ ap (replay s h) (sym (calls_of-append made (e ∷ []))))),
  )

Follows-none : (s : ℕ) (a : Option (List EntryValue)) → Follows s a a []
Follows-none s None = tt
Follows-none s (Some h) = (ap Some (sym (append-nil h)), refl)

pub gained_none : (s : ℕ) (before : Entries) → HasGained s [] before before
gained_none s before = record { list = sym (append-nil before.list); whole = Follows-none s before.whole }

-- the transaction that follows n others
take_next : (submitter : List ℕ) (n : ℕ) (ts rest : List RawParts) (t : RawParts) → drop n ts ≡ t ∷ rest
    → take (suc n) (calls_in submitter ts) ≡ take n (calls_in submitter ts) ++ call_of submitter t ∷ []
take_next submitter zero ts rest t e = rw e refl
take_next submitter (suc n) [] rest t e = absurd cc
take_next submitter (suc n) (x ∷ ts) rest t e = ap (λ l. call_of submitter x ∷ l) (take_next submitter n ts rest t e)

no_items : (ts : List RawParts) → items_of ts [] ≡ []
no_items [] = refl
no_items (t ∷ ts) = refl

items_next : (ts rest : List RawParts) (t : RawParts) (made : List EntryValue) (e : EntryValue) → drop (length made) ts ≡ t ∷ rest
    → items_of ts (made ++ e ∷ []) ≡ items_of ts made ++ item_of t e ∷ []
items_next ts rest t [] e is = ap (λ l. items_of l (e ∷ [])) is ∙ (ap (λ l. item_of t e ∷ l) (no_items rest) ∙ sym (ap (λ l. l ++ item_of t e ∷ []) (no_items ts)))
items_next [] rest t (m ∷ made) e is = absurd cc
items_next (x ∷ ts) rest t (m ∷ made) e is = ap (λ l. item_of x m ∷ l) (items_next ts rest t made e is)

pub drop_next : {X : Type 0} (n : ℕ) (ts rest : List X) (t : X) → drop n ts ≡ t ∷ rest → rest ≡ drop (n + 1) ts
drop_next {X} n ts rest t e = let more : suc n ≡ n + 1 = omega arith in go n ts e ∙ ap (λ k. drop k ts) more where
  go : (n : ℕ) (ts : List X) → drop n ts ≡ t ∷ rest → rest ≡ drop (suc n) ts
  go zero [] e = absurd cc
  go zero (x ∷ ts) e = cc
  go (suc n) [] e = absurd cc
  go (suc n) (x ∷ ts) e = go n ts e

-- the transaction that a judged one was made of, which follows n others
pub record IsNext (submitter : List ℕ) (ts : List RawParts) (n : ℕ) (judged : JudgedValue) : Type 0 where
  pub transaction : RawParts
  pub rest : List RawParts
  pub follows : drop n ts ≡ transaction ∷ rest
  pub judged_is : judged ≡ judged_of submitter transaction
  pub placed : IsPlaced transaction

pub next_judged : (submitter : List ℕ) (n : ℕ) (ts : List RawParts) (judged : JudgedValue) (others : List JudgedValue) → AllByRecursion IsPlaced ts
    → judged ∷ others ≡ drop n (map (judged_of submitter) ts) → IsNext submitter ts n judged
next_judged submitter zero [] judged others placed e = absurd cc
next_judged submitter zero (t ∷ ts) judged others placed e =
    record { transaction = t; rest = ts; follows = refl; judged_is = cc; placed = placed.0 }
next_judged submitter (suc n) [] judged others placed e = absurd cc
next_judged submitter (suc n) (t ∷ ts) judged others placed e =
    let next = next_judged submitter n ts judged others placed.1 e in
    record { transaction = next.transaction; rest = next.rest; follows = next.follows; judged_is = next.judged_is; placed = next.placed }

pub answered_next : (s s' : ℕ) (submitter : List ℕ) (ts rest : List RawParts) (t : RawParts) (i : ℕ) (before between after : Entries)
    (items items' : List Item) (item : Item) → s' ≡ s → drop i ts ≡ t ∷ rest → length items ≡ i → items' ≡ items ++ item ∷ []
    → AreAnswered s submitter ts items before between → IsAnswered s' submitter t item between after → AreAnswered s submitter ts items' before after
answered_next s s' submitter ts rest t i before between after items items' item same at count is so_far now' =
    let now : IsAnswered s submitter t item between after = subst (λ (k : ℕ). IsAnswered k submitter t item between after) same now' in
    let e : EntryValue = entry_of s (call_of submitter t) now.reply in
    let made : List EntryValue = so_far.made in
    let long : i ≡ length made = sym count ∙ so_far.count in
    let at' : drop (length made) ts ≡ t ∷ rest = subst (λ (k : ℕ). drop k ts ≡ t ∷ rest) long at in
    let more : length (made ++ e ∷ []) ≡ suc (length made) = (let l = length-append made (e ∷ []) in omega arith) in
    record {
      made = made ++ e ∷ [];
      gained = record {
        list = now.gained.list ∙ (ap (λ l. l ++ e ∷ []) so_far.gained.list ∙ append_assoc before.list made (e ∷ []));
        whole = Follows-next s before.whole between.whole after.whole made e so_far.gained.whole now.gained.whole;
      };
      calls = calls_of-append made (e ∷ []) ∙ (ap (λ l. l ++ call_of submitter t ∷ []) so_far.calls
          ∙ (sym (take_next submitter (length made) ts rest t at') ∙ ap (λ k. take k (calls_in submitter ts)) (sym more)));
      told = is ∙ ((λ j. so_far.told j ++ now.told j ∷ []) ∙ sym (items_next ts rest t made e at'));
      count = (let l = length-append items (item ∷ []) in let a = ap length is in let b = so_far.count in omega arith);
    }

pub fit_next : (items items' : List Item) (item : Item) → items' ≡ items ++ item ∷ [] → AllByRecursion FitsItem items → FitsItem item → AllByRecursion FitsItem items'
fit_next items items' item is all fits = subst (AllByRecursion FitsItem) (sym is) (go items all) where
  go : (xs : List Item) → AllByRecursion FitsItem xs → AllByRecursion FitsItem (xs ++ item ∷ [])
  go [] h = (fits, tt)
  go (x ∷ xs) h = (h.0, go xs h.1)

-- none so far
pub answered_none : (s : ℕ) (submitter : List ℕ) (ts : List RawParts) (before : Entries) (items : List Item) → items ≡ []
    → AreAnswered s submitter ts items before before
answered_none s submitter ts before items none = rw none (record {
  made = [];
  gained = gained_none s before;
  calls = refl;
  told = sym (no_items ts);
  count = refl;
})
