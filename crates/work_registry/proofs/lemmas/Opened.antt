-- Entries that are made entries of the opening.
use Rattle.std.proofs.Common.{◌≡◌, ◌∙◌, ℕ, true, List, [], ◌∷◌, ◌++◌, map, ap, sym, refl, arith}
use Rattle.std.specs.Prelude.{◌==◌}
use Rattle.std.proofs.lemmas.Bool.Decides.{nat_tests}
use Rattle.std.proofs.lemmas.List.{map-append}
use Rattle.cwr_field.proofs.lemmas.Tests.{parts}
use Rattle.cwr_call.specs.CallValue.{CallValue}
use Rattle.work_registry.specs.EntryValue.{EntryValue, entry_of}
use Rattle.work_registry.specs.Register.{opened}
use Rattle.work_registry.specs.Replay.{calls_of, entry_for, is_opening, replay}
use Rattle.work_registry.specs.Reply.{reply_to}
use Rattle.work_registry.specs.Rows.{Row, rows_of, rows_of_entry}

-- what is accepted does not name its session
pub rows_of-opened : (h : List EntryValue) → rows_of (map opened h) ≡ rows_of h
rows_of-opened [] = refl
rows_of-opened (e ∷ h) = ap (λ rows. rows_of_entry e.call e.reply ++ rows) (rows_of-opened h)

pub opening-opened : (h : List EntryValue) → is_opening (map opened h) ≡ true
opening-opened [] = refl
opening-opened (e ∷ h) = opening-opened h

pub opened_is : (h : List EntryValue) → is_opening h ≡ true → map opened h ≡ h
opened_is [] is = refl
opened_is (e ∷ h) is =
    let p = parts (e.session == 0) (is_opening h) is in
    let zero_session : e.session ≡ 0 = (let q = p.0 in grind (arith, nat_tests)) in
    let one : opened e ≡ e = ap (λ (s : ℕ). entry_of s e.call e.reply) (sym zero_session) in
    rw (one, opened_is h p.1) refl

pub calls_of-opened : (h : List EntryValue) → calls_of (map opened h) ≡ calls_of h
calls_of-opened [] = refl
calls_of-opened (e ∷ h) = ap (λ (cs : List CallValue). e.call ∷ cs) (calls_of-opened h)

-- what calls get does not name the sessions, of those before or of their own
pub replay-opened : (session : ℕ) (h : List EntryValue) (cs : List CallValue) → map opened (replay session h cs) ≡ replay 0 (map opened h) cs
replay-opened session h [] = refl
replay-opened session h (c ∷ cs) =
    let same : entry_for 0 h c ≡ entry_for 0 (map opened h) c = ap (λ (rows : List Row). entry_of 0 c (reply_to rows c)) (sym (rows_of-opened h)) in
    let rest : map opened (replay session (h ++ entry_for session h c ∷ []) cs) ≡ replay 0 (map opened h ++ entry_for 0 h c ∷ []) cs =
    replay-opened session (h ++ entry_for session h c ∷ []) cs ∙ ap (λ l. replay 0 l cs) (map-append opened h (entry_for session h c ∷ [])) in
    ap (λ (es : List EntryValue). entry_for 0 h c ∷ es) rest
    ∙ ap (λ (e : EntryValue). e ∷ replay 0 (map opened h ++ e ∷ []) cs) same
