-- a new book, and one with an entry more
use Rattle.std.proofs.Common.{IsTrue, MatchOption, Some, ◌≡◌, ◌≤◌, ◌<◌, ◌∙◌, ap, ℕ, List, [], ◌∷◌, ◌++◌, length, length-append, refl, arith, append_assoc, append-nil, zero, suc, take, nat_eq}
use Rattle.std.proofs.Math.Bool.{and-true}
use Rattle.std.specs.Prelude.{◌==◌, ◌&&◌}
use Rattle.std.proofs.lemmas.List.Folds.{list_all-append}
use Rattle.std.specs.HashMap.{HashMap, get, Updates, IsUnchanged}
use Rattle.cwr_call.specs.CallValue.{CallValue}
use Rattle.cwr_call.specs.Lawful as lawful
use Rattle.work_registry.specs.declared.key.Key.{Key}
use Rattle.work_registry.specs.declared.indexes.IndexedClaim.{IndexedClaim}
use Rattle.work_registry.specs.declared.indexes.IndexedWork.{IndexedWork}
use Rattle.work_registry.specs.declared.indexes.Decision.{Decision}
use Rattle.work_registry.specs.EntryValue.{EntryValue, entry_of}
use Rattle.work_registry.specs.Rows.{Row, key_of, rows_of, rows_of_entry, same_key}
use Rattle.work_registry.specs.Reply.{reply_to}
use Rattle.work_registry.specs.Numbers.{max_entries}
use Rattle.work_registry.specs.History.{IsHistory}
use Rattle.work_registry.specs.Replay.{entry_for, replay, is_opening}
use Rattle.work_registry.specs.Indexes.{AreIndexes, IsBook, decision_on, written}
use Rattle.work_registry.proofs.SoundHistories.{Follows, follows-rest, history-none, history-push, rows_of-push, sound}
use Rattle.work_registry.proofs.KeptRows.{indexes-step, indexes-room}
use Rattle.work_registry.proofs.Decided.{decided-change}

pub book-none : (limit : ℕ) → 1 ≤ limit → limit ≤ max_entries → IsBook [] limit
book-none limit least most = record { lawful = history-none; fits = omega arith; least = least; most = most }

pub book-push : (h : List EntryValue) (e : EntryValue) (limit : ℕ) → IsBook h limit → length h < limit → e.reply ≡ reply_to (rows_of h) e.call → IsBook (h ++ e ∷ []) limit
book-push h e limit b lt is = record { lawful = history-push h e b.lawful is; fits = omega (arith, lt, length-append h (e ∷ [])); least = b.least; most = b.most }

pub opening-push : (h : List EntryValue) (e : EntryValue) → is_opening (h ++ e ∷ []) ≡ (is_opening h && (e.session == 0))
opening-push h e = list_all-append (λ (x : EntryValue). x.session == 0) h (e ∷ []) ∙ ap (λ b. is_opening h && b) (and-true (e.session == 0))

pub indexes-none : {S T : Type 0} (claims : HashMap Key IndexedClaim S) (iswcs : HashMap ℕ ℕ T) (works : List IndexedWork) → claims.entries ≡ [] → iswcs.entries ≡ [] → works ≡ [] →
    AreIndexes [] (get same_key claims) (get nat_eq iswcs) works
indexes-none claims iswcs works a b c = rw (a, b, c) (record { claim = (λ k. refl); named = (λ i. refl); nine_digits = (λ i lt. refl); count = refl; work = (λ w d lt. absurd (omega (arith, lt))) })

-- after an entry more: room was made, and then what the decision leaves was written
pub indexes-push : {S T : Type 0} (h : List EntryValue) (session : ℕ) (call : CallValue) (d : Decision)
    (claims room_claims new_claims : HashMap Key IndexedClaim S) (iswcs room_iswcs new_iswcs : HashMap ℕ ℕ T) (works room_works new_works : List IndexedWork) →
    IsHistory h → IsTrue (lawful.is_iswc call.iswc) → d ≡ decision_on (rows_of h) call →
    AreIndexes (rows_of h) (get same_key claims) (get nat_eq iswcs) works →
    IsUnchanged claims room_claims → IsUnchanged iswcs room_iswcs → room_works ≡ works →
    MatchOption d.change (IsUnchanged room_claims new_claims) (λ s. Updates same_key room_claims new_claims (key_of call) (Some s.claim)) →
    MatchOption d.change (IsUnchanged room_iswcs new_iswcs) (λ s. MatchOption call.iswc (IsUnchanged room_iswcs new_iswcs) (λ i. Updates nat_eq room_iswcs new_iswcs i (Some s.claim.work))) →
    MatchOption d.change (new_works ≡ room_works) (λ s. new_works ≡ written s.claim.work s.work room_works) →
    AreIndexes (rows_of (h ++ entry_of session call d.reply ∷ [])) (get same_key new_claims) (get nat_eq new_iswcs) new_works
indexes-push h session call d claims room_claims new_claims iswcs room_iswcs new_iswcs works room_works new_works is nine_digits decided kept a b c x y z =
    rw (rows_of-push h (entry_of session call d.reply))
    (indexes-step (rows_of h) call d.reply d.change room_claims new_claims room_iswcs new_iswcs room_works new_works (sound h is) nine_digits (ap (λ t. t.reply) decided) (decided-change (rows_of h) call d decided)
    (indexes-room (rows_of h) claims room_claims iswcs room_iswcs works room_works kept a b c) x y z)

pub history-replay : (h : List EntryValue) (session : ℕ) (calls : List CallValue) → IsHistory h → IsHistory (h ++ replay session h calls)
history-replay h session [] is = rw (append-nil h) is
history-replay h session (call ∷ calls) is =
    let e = entry_for session h call in
    let rest = replay session (h ++ e ∷ []) calls in
    let whole : IsHistory (h ++ (e ∷ [] ++ rest)) = rw (← append_assoc h (e ∷ []) rest) (history-replay (h ++ e ∷ []) session calls (history-push h e is refl)) in
    whole

-- the beginning of a history
pub history-begin : (g h : List EntryValue) → IsHistory (g ++ h) → IsHistory g
history-begin g h f = by g [] f
  where
    by : (g : List EntryValue) (rows : List Row) → Follows rows (g ++ h) → Follows rows g
    by [] rows f j d lt = absurd (omega arith)
    by (x ∷ xs) rows f zero d lt = f zero d (omega arith)
    by (x ∷ xs) rows f (suc j) d lt =
        rw (← append_assoc rows (rows_of_entry x.call x.reply) (rows_of (take j xs)))
        (by xs (rows ++ rows_of_entry x.call x.reply) (follows-rest rows x (xs ++ h) f) j d (omega arith))
