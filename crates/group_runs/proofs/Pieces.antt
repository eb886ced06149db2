-- The pieces of a run: those of a group, and those of two runs of which one goes on from the other.
use Rattle.std.proofs.Common.{◌≡◌, ◌∙◌, ℕ, ◌+◌, ◌≤◌, Bool, true, nat_le, List, [], ◌∷◌, ◌++◌, length, map, ap, sym, subst, refl, arith, append-nil, append_assoc, length-append}
use Rattle.std.proofs.lemmas.List.{length-map, map-append}
use Rattle.work_registry.specs.BookValue.{BookValue}
use Rattle.work_registry.specs.EntryValue.{EntryValue}
use Rattle.work_registry.specs.History.{IsHistory}
use Rattle.work_registry.specs.Register.{opened}
use Rattle.work_registry.specs.Replay.{calls_of, is_opening, made, replay}
use Rattle.work_registry.proofs.lemmas.Opened.{calls_of-opened, opened_is, replay-opened}
use Rattle.cwr_engine.specs.Causes.{ends_full}
use Rattle.cwr_engine.specs.WholeRun.{Accounts, InTurn, IsRun, is_full}
use Rattle.cwr_engine.specs.declared.outcome.FileOutcome.{FileOutcome}
use Rattle.group_runs.specs.LongRun.{ArePieces, IsLongRun, joined}

joined-append : (ps qs : List (List EntryValue)) → joined (ps ++ qs) ≡ joined ps ++ joined qs
joined-append [] qs = refl
joined-append (p ∷ ps) qs = ap (λ l. p ++ l) (joined-append ps qs) ∙ sym (append_assoc p (joined ps) (joined qs))

-- the pieces of a group whose sessions begin with this one
pub group_pieces : List EntryValue → ℕ → List FileOutcome → List (List EntryValue)
group_pieces kept session [] = []
group_pieces kept session (o ∷ os) = map opened (made kept session) ∷ group_pieces kept (session + 1) os

joined_group : (limit : ℕ) (kept : List EntryValue) (session : ℕ) (h : List EntryValue) (os : List FileOutcome) → InTurn limit kept session h os
    → map opened kept ≡ map opened h ++ joined (group_pieces kept session os)
unfolding group_pieces
joined_group limit kept session h [] turn = ap (map opened) turn ∙ sym (append-nil (map opened h))
joined_group limit kept session h (o ∷ os) turn =
    joined_group limit kept (session + 1) (h ++ made kept session) os turn.others
    ∙ ap (λ l. l ++ joined (group_pieces kept (session + 1) os)) (map-append opened h (made kept session))
    ∙ append_assoc (map opened h) (map opened (made kept session)) (joined (group_pieces kept (session + 1) os))

module _ {J : Type 0} (P : J → J → FileOutcome → Bool → List EntryValue → Type 0) where
  pieces_then : (limit : ℕ) (h : List EntryValue) (js js' ks ks' : List J) (os os' : List FileOutcome) (ps ps' : List (List EntryValue))
      → ArePieces P limit h js ks os ps → ArePieces P limit (h ++ joined ps) js' ks' os' ps' → ArePieces P limit h (js ++ js') (ks ++ ks') (os ++ os') (ps ++ ps')
  pieces_then limit h [] js' [] ks' [] os' [] ps' first more = subst (λ l. ArePieces P limit l js' ks' os' ps') (append-nil h) more
  pieces_then limit h [] js' [] ks' [] os' (p ∷ ps) ps' first more = absurd first
  pieces_then limit h [] js' [] ks' (o ∷ os) os' ps ps' first more = absurd first
  pieces_then limit h [] js' (k ∷ ks) ks' os os' ps ps' first more = absurd first
  pieces_then limit h (j ∷ js) js' [] ks' os os' ps ps' first more = absurd first
  pieces_then limit h (j ∷ js) js' (k ∷ ks) ks' [] os' ps ps' first more = absurd first
  pieces_then limit h (j ∷ js) js' (k ∷ ks) ks' (o ∷ os) os' [] ps' first more = absurd first
  pieces_then limit h (j ∷ js) js' (k ∷ ks) ks' (o ∷ os) os' (p ∷ ps) ps' first more = (
    first.0,
    pieces_then limit (h ++ p) js js' ks ks' os os' ps ps' first.1 (subst (λ l. ArePieces P limit l js' ks' os' ps') (sym (append_assoc h p (joined ps))) more),
  )

  -- no job, and nothing happened
  pub nothing_worked : (book : BookValue) → IsHistory book.history → length book.history ≤ book.limit → IsLongRun P book book [] [] []
  nothing_worked book lawful fits =
      record { registry = lawful; bounded = fits; limit = refl; pieces = []; grown = sym (append-nil book.history); worked = tt }

  -- a run that goes on from another one
  pub long_then : (a b c : BookValue) (js js' ks ks' : List J) (os os' : List FileOutcome) → IsLongRun P a b js ks os → IsLongRun P b c js' ks' os'
      → IsLongRun P a c (js ++ js') (ks ++ ks') (os ++ os')
  long_then a b c js js' ks ks' os os' one other = record {
    registry = other.registry;
    bounded = other.bounded;
    limit = other.limit ∙ one.limit;
    pieces = one.pieces ++ other.pieces;
    grown = other.grown ∙ ap (λ l. l ++ joined other.pieces) one.grown ∙ append_assoc a.history (joined one.pieces) (joined other.pieces)
        ∙ ap (λ l. a.history ++ l) (sym (joined-append one.pieces other.pieces));
    worked = pieces_then a.limit a.history js js' ks ks' os os' one.pieces other.pieces one.worked
        (subst (λ (z : ℕ × List EntryValue). ArePieces P z.0 z.1 js' ks' os' other.pieces) (λ i. (one.limit i, one.grown i)) other.worked);
  }

  module _ (lifts : (j k : J) (o : FileOutcome) (a b : Bool) (l : List EntryValue) → (ends_full o ≡ true → b ≡ true) → P j k o a l → P j k o b (map opened l)) where
    full_opened : (limit : ℕ) (h m : List EntryValue) → is_full (record { history = h ++ m; limit = limit }) ≡ is_full (record { history = map opened h ++ map opened m; limit = limit })
    full_opened limit h m =
        let a = length-append h m in let b = length-append (map opened h) (map opened m) in let c = length-map h opened in let d = length-map m opened in
        let same : length (h ++ m) ≡ length (map opened h ++ map opened m) = omega (arith, a, b, c, d) in
        ap (nat_le limit) same

    are_pieces : (limit : ℕ) (kept : List EntryValue) (full : Bool) (session : ℕ) (h : List EntryValue) (js ks : List J) (os : List FileOutcome)
        → Accounts P kept full session js ks os → InTurn limit kept session h os → ArePieces P limit (map opened h) js ks os (group_pieces kept session os)
    unfolding group_pieces
    are_pieces limit kept full session h [] [] [] accounts turn = tt
    are_pieces limit kept full session h [] [] (o ∷ os) accounts turn = absurd accounts
    are_pieces limit kept full session h [] (k ∷ ks) os accounts turn = absurd accounts
    are_pieces limit kept full session h (j ∷ js) [] os accounts turn = absurd accounts
    are_pieces limit kept full session h (j ∷ js) (k ∷ ks) [] accounts turn = absurd accounts
    are_pieces limit kept full session h (j ∷ js) (k ∷ ks) (o ∷ os) accounts turn =
        let m = made kept session in (
          record {
            replayed = ap (map opened) turn.replayed ∙ replay-opened session h (calls_of m) ∙ ap (replay 0 (map opened h)) (sym (calls_of-opened m));
            account = lifts j k o full (is_full (record { history = map opened h ++ map opened m; limit = limit })) m (λ e. sym (full_opened limit h m) ∙ turn.full e) accounts.0;
          },
          subst (λ l. ArePieces P limit l js ks os (group_pieces kept (session + 1) os)) (map-append opened h m)
              (are_pieces limit kept full (session + 1) (h ++ m) js ks os accounts.1 turn.others),
        )

    -- a group, whose book is then one of the opening
    pub group_is_long : (before kept after : BookValue) (js ks : List J) (os : List FileOutcome) → IsRun P before kept js ks os → InTurn before.limit kept.history 1 before.history os
        → is_opening before.history ≡ true → after ≡ record { history = map opened kept.history; limit = kept.limit } → IsHistory after.history → IsLongRun P before after js ks os
    group_is_long before kept after js ks os run turn all is lawful =
        let h : map opened before.history ≡ before.history = opened_is before.history all in
        let size = ap (λ b. length b.history) is in
        let limit = ap (λ b. b.limit) is in
        let same = length-map kept.history opened in
        let bounded = run.bounded in
        record {
          registry = lawful;
          bounded = omega (arith, size, limit, same, bounded);
          limit = limit ∙ run.limit;
          pieces = group_pieces kept.history 1 os;
          grown = ap (λ b. b.history) is ∙ joined_group before.limit kept.history 1 before.history os turn ∙ ap (λ l. l ++ joined (group_pieces kept.history 1 os)) h;
          worked = subst (λ l. ArePieces P before.limit l js ks os (group_pieces kept.history 1 os)) h
              (are_pieces before.limit kept.history (is_full kept) 1 before.history js ks os run.accounts turn);
        }
