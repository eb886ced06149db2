-- A group that is taken from the jobs that are left, and put behind those that have ended.
use Rattle.std.proofs.Common.{◌≡◌, ◌∙◌, ℕ, ◌+◌, ◌≤◌, Bool, true, false, Vec, vec_len, vec_capacity, List, [], ◌∷◌, ◌++◌, length, map, reverse, take, drop, ap, sym, subst, refl, arith, append_assoc}
use Rattle.std.proofs.lemmas.List.{reverse-append, reverse-reverse, take-append-drop}
use Rattle.std.proofs.lemmas.List.Elements.{All-drop, All-take, All-same}
use Rattle.byte_streams.specs.declared.sink.Sink.{Ghosts as SinkOf}
use Rattle.byte_streams.specs.declared.source.Source.{Ghosts as SourceOf}
use Rattle.cwr_record.specs.Stamp.{StampParts}
use Rattle.work_registry.specs.BookValue.{BookValue}
use Rattle.work_registry.specs.EntryValue.{EntryValue}
use Rattle.work_registry.specs.History.{IsHistory}
use Rattle.work_registry.specs.Register.{opened}
use Rattle.work_registry.specs.Replay.{is_opening}
use Rattle.work_registry.proofs.lemmas.Opened.{opening-opened}
use Rattle.cwr_engine.specs.Account.{JobAccount, read_ends, write_ends}
use Rattle.cwr_engine.specs.Causes.{ends_full}
use Rattle.cwr_engine.specs.WholeRun.{Accounts, InTurn, IsRun}
use Rattle.cwr_engine.specs.declared.jobs.Job.{Job}
use Rattle.cwr_engine.specs.declared.outcome.FileOutcome.{FileOutcome}
use Rattle.cwr_engine.proofs.lemmas.Turns.{turned_holds}
use Rattle.group_runs.specs.LongRun.{IsCutShort, IsLongRun}
use Rattle.group_runs.specs.Standing.{AreWorking, IsBetween, IsTaken}
use Rattle.group_runs.proofs.Accounts.{account-opened}
use Rattle.group_runs.proofs.Pieces.{group_is_long, long_then, nothing_worked}

pub none_of : {X Z : Type 0} (v : Vec X Z) → v.items ≡ [] → vec_len v ≡ 0
none_of v e = let l = ap length e in let i = v.ok.0 in omega (arith, l, i)

-- a list that stands in reverse order, cut in two
cut_in_two : {J : Type 0} (n : ℕ) (l group rest : List J) → group ≡ reverse (drop n l) → rest ≡ take n l → reverse l ≡ group ++ reverse rest
cut_in_two n l group rest g r =
    ap reverse (sym (take-append-drop n l)) ∙ reverse-append (take n l) (drop n l) ∙ ap (λ (xs : List _). xs ++ reverse (take n l)) (sym g) ∙ ap (λ (xs : List _). group ++ reverse xs) (sym r)

-- as many accounts as outcomes
pub count_accounts : {J : Type 0} (P : J → J → FileOutcome → Bool → List EntryValue → Type 0) (h : List EntryValue) (full : Bool) (session : ℕ) (js ks : List J) (os : List FileOutcome)
    → Accounts P h full session js ks os → (length ks ≡ length js) × (length os ≡ length js)
count_accounts P h full session [] [] [] a = (refl, refl)
count_accounts P h full session [] [] (o ∷ os) a = absurd a
count_accounts P h full session [] (k ∷ ks) os a = absurd a
count_accounts P h full session (j ∷ js) [] os a = absurd a
count_accounts P h full session (j ∷ js) (k ∷ ks) [] a = absurd a
count_accounts P h full session (j ∷ js) (k ∷ ks) (o ∷ os) a =
    let r = count_accounts P h full (session + 1) js ks os a.1 in (let k = r.0 in omega (arith, k), let o = r.1 in omega (arith, o))

module _ {R W : Type 0} (source : SourceOf R) (sink : SinkOf W) where
  abbrev Works : Job R W → Type 0
  Works j = (source.has_failed j.reader ≡ false) × (sink.has_failed j.writer ≡ false)

  pub group_works : (left group : List (Job R W)) (n : ℕ) → AreWorking source sink left → group ≡ reverse (drop n left) → AreWorking source sink group
  group_works left group n works g = turned_holds Works (drop n left) group (All-drop Works n left works) g

module _ {R W : Type 0} (source : SourceOf R) (sink : SinkOf W) (stamp : StampParts) where
  abbrev P : Job R W → Job R W → FileOutcome → Bool → List EntryValue → Type 0
  P = JobAccount source sink stamp false

  pub lifts : (j k : Job R W) (o : FileOutcome) (a b : Bool) (l : List EntryValue) → (ends_full o ≡ true → b ≡ true) → P j k o a l → P j k o b (map opened l)
  lifts j k o a b l full account =
      account-opened (read_ends source j.reader k.reader) (write_ends sink j.writer k.writer) false stamp o a b l full account

  -- not even the lists had memory
  pub nothing_begun : (book : BookValue) (jobs : List (Job R W)) (outcomes : List FileOutcome) → IsHistory book.history → length book.history ≤ book.limit → outcomes ≡ []
      → IsCutShort P book book jobs jobs outcomes
  nothing_begun book jobs outcomes lawful fits none = record {
    begun = [];
    ended = [];
    rest = jobs;
    cut = refl;
    left = refl;
    run = subst (λ os. IsLongRun P book book [] [] os) (sym none) (nothing_worked P book lawful fits);
  }

  module _ {X Y Z : Type 0} where
    -- before the first group
    pub begun_between : (book : BookValue) (jobs : List (Job R W)) (ended : Vec (Job R W) X) (outcomes : Vec FileOutcome Y) (left : Vec (Job R W) Z)
        → IsHistory book.history → length book.history ≤ book.limit → is_opening book.history ≡ true → AreWorking source sink jobs → left.items ≡ reverse jobs
        → ended.items ≡ [] → outcomes.items ≡ [] → vec_len left ≤ vec_capacity ended → vec_len left ≤ vec_capacity outcomes
        → IsBetween source sink P book jobs book ended outcomes left
    begun_between book jobs ended outcomes left lawful fits opening works turned e o er or =
        let none = none_of ended e in let none' = none_of outcomes o in
        record {
          begun = [];
          cut = sym (ap reverse turned ∙ reverse-reverse jobs);
          run = subst (λ (z : List (Job R W) × List FileOutcome). IsLongRun P book book [] z.0 z.1) (λ i. (sym e i, sym o i)) (nothing_worked P book lawful fits);
          opened = opening;
          works = turned_holds (Works source sink) jobs left.items works turned;
          counts = omega (arith, none, none');
          ended_room = omega (arith, none, er);
          outcomes_room = omega (arith, none, or);
        }

    -- a group was taken
    pub taken_from : (opening book : BookValue) (all : List (Job R W)) (ended : Vec (Job R W) X) (outcomes : Vec FileOutcome Y) (left rest : Vec (Job R W) Z) (group : List (Job R W)) (n : ℕ)
        → IsBetween source sink P opening all book ended outcomes left → group ≡ reverse (drop n left.items) → rest.items ≡ take n left.items
        → length group + vec_len rest ≡ vec_len left → IsTaken source sink P opening all book group ended outcomes rest
    taken_from opening book all ended outcomes left rest group n b g r count = record {
      begun = b.begun;
      cut = b.cut ∙ ap (λ l. b.begun ++ l) (cut_in_two n left.items group rest.items g r);
      run = b.run;
      opened = b.opened;
      works = All-same (Works source sink) rest.items (take n left.items) r (All-take (Works source sink) n left.items b.works);
      counts = b.counts;
      ended_room = let e = b.ended_room in omega (arith, e, count);
      outcomes_room = let o = b.outcomes_room in omega (arith, o, count);
    }

    -- there is room for what working a group leaves
    pub room_behind : (opening before kept : BookValue) (all group ks : List (Job R W)) (os : List FileOutcome) (ended : Vec (Job R W) X) (outcomes : Vec FileOutcome Y) (rest : Vec (Job R W) Z)
        → IsTaken source sink P opening all before group ended outcomes rest → IsRun P before kept group ks os
        → (vec_len ended + length ks ≤ vec_capacity ended) × (vec_len outcomes + length os ≤ vec_capacity outcomes)
    room_behind opening before kept all group ks os ended outcomes rest t run =
        let n = count_accounts P kept.history _ 1 group ks os run.accounts in
        let a = n.0 in let b = n.1 in let e = t.ended_room in let o = t.outcomes_room in let c = t.counts in
        (omega (arith, a, e), omega (arith, b, o, c))

    -- what working a group left is put behind
    pub put_behind : (opening before kept after : BookValue) (all group : List (Job R W)) (ks : List (Job R W)) (os : List FileOutcome)
        (ended ended_after : Vec (Job R W) X) (outcomes outcomes_after : Vec FileOutcome Y) (rest : Vec (Job R W) Z)
        → IsTaken source sink P opening all before group ended outcomes rest → IsRun P before kept group ks os → InTurn before.limit kept.history 1 before.history os
        → after ≡ record { history = map opened kept.history; limit = kept.limit } → IsHistory after.history
        → ended_after.items ≡ ended.items ++ ks → outcomes_after.items ≡ outcomes.items ++ os → vec_len ended_after ≡ vec_len ended + length ks
        → vec_len outcomes_after ≡ vec_len outcomes + length os → vec_capacity ended ≤ vec_capacity ended_after → vec_capacity outcomes ≤ vec_capacity outcomes_after
        → IsBetween source sink P opening all after ended_after outcomes_after rest
    put_behind opening before kept after all group ks os ended ended_after outcomes outcomes_after rest t run turn is lawful es os' el ol er or =
        let n = count_accounts P kept.history _ 1 group ks os run.accounts in
        let a = n.0 in let b = n.1 in let e = t.ended_room in let o = t.outcomes_room in let c = t.counts in
        record {
          begun = t.begun ++ group;
          cut = t.cut ∙ sym (append_assoc t.begun group (reverse rest.items));
          run = subst (λ (z : List (Job R W) × List FileOutcome). IsLongRun P opening after (t.begun ++ group) z.0 z.1) (λ i. (sym es i, sym os' i))
              (long_then P opening before after t.begun group ended.items ks outcomes.items os t.run (group_is_long P lifts before kept after group ks os run turn t.opened is lawful));
          opened = ap (λ b. is_opening b.history) is ∙ opening-opened kept.history;
          works = t.works;
          counts = omega (arith, a, b, c, el, ol);
          ended_room = omega (arith, a, e, el, er);
          outcomes_room = omega (arith, a, b, o, c, el, or);
        }
