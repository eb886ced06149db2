-- Jobs that were read in groups, and took turns group after group.
use Rattle.std.proofs.Common.{◌≡◌, ◌∙◌, ℕ, ◌+◌, ◌<◌, ◌≤◌, Bool, true, false, Vec, vec_len, vec_capacity, List, [], ◌∷◌, ◌++◌, length, map, reverse, refl, sym, ap, subst, arith, append-nil, append_assoc}
use Rattle.std.specs.Prelude.{◌==◌}
use Rattle.std.proofs.lemmas.Bool.Decides.{nat_tests}
use Rattle.std.proofs.lemmas.List.{map-append, reverse-append, reverse-reverse, length-reverse}
use Rattle.byte_streams.specs.declared.sink.Sink.{Ghosts as SinkOf}
use Rattle.byte_streams.specs.declared.source.Source.{Ghosts as SourceOf}
use Rattle.work_registry.specs.BookValue.{BookValue}
use Rattle.work_registry.specs.EntryValue.{EntryValue}
use Rattle.cwr_record.specs.Stamp.{StampParts}
use Rattle.cwr_engine.specs.Account.{JobAccount}
use Rattle.cwr_engine.specs.JobSteps.{WasRead, WasDecided, HasAnswered, entries_at}
use Rattle.cwr_engine.specs.WholeRun.{is_full, IsWorkedAlone, TookTurns}
use Rattle.cwr_engine.proofs.lemmas.JobSteps.{worked_alone}
use Rattle.cwr_engine.specs.declared.steps.DecidedJob.{DecidedJob}
use Rattle.cwr_engine.specs.declared.jobs.Job.{Job}
use Rattle.cwr_engine.specs.declared.outcome.FileOutcome.{FileOutcome}
use Rattle.cwr_engine.specs.declared.steps.ReadJob.{ReadJob}
use Rattle.cwr_desk.specs.Ordered.{AreRead, IsGroupUnread, HasReadGroup, IsGroupReady, HasDecidedGroup, IsRunReady, HasOrdered, TookTurnsAs, group_size}

pub nothing : {X : Type 0} (xs : List X) → length xs ≡ 0 → xs ≡ []
nothing [] e = refl
nothing (x ∷ xs) e = absurd (omega (arith, e))

pub found_empty : (n : ℕ) (found : Bool) → found ≡ true → found ≡ (n == 0) → n ≡ 0
found_empty n found empty is = let e : (n == 0) ≡ true = sym is ∙ empty in grind (arith, nat_tests)

pub no_items : {X Z : Type 0} (v : Vec X Z) → v.items ≡ [] → vec_len v ≡ 0
no_items v e = let l = ap length e in let i = v.ok.0 in omega (arith, l, i)

-- the last of a list, which is the first of it turned round
pub turned : {X : Type 0} (all rest : List X) (x : X) → all ≡ rest ++ x ∷ [] → reverse all ≡ x ∷ reverse rest
turned all rest x is = ap reverse is ∙ reverse-append rest (x ∷ [])

module _ {R W Z : Type 0} (source : SourceOf R) (sink : SinkOf W) where
  -- the first of jobs that were read
  pub record ReadFirst (jobs : List (Job R W)) (read : ReadJob R W Z) (others : List (ReadJob R W Z)) : Type 0 where
    pub job : Job R W
    pub rest : List (Job R W)
    pub is : jobs ≡ job ∷ rest
    pub read_is : WasRead source job read
    pub writes : sink.has_failed read.job.writer ≡ false
    pub others_are : AreRead source sink rest others

  pub read_first : (jobs : List (Job R W)) (read : ReadJob R W Z) (all others : List (ReadJob R W Z)) → all ≡ read ∷ others → AreRead source sink jobs all
      → ReadFirst jobs read others
  read_first jobs read all others is are = by jobs (subst (AreRead source sink jobs) is are) where
    by : (js : List (Job R W)) → AreRead source sink js (read ∷ others) → ReadFirst js read others
    by [] h = absurd h
    by (j ∷ js) h = record { job = j; rest = js; is = refl; read_is = h.0; writes = h.1; others_are = h.2 }

  length_read : (jobs : List (Job R W)) (reads : List (ReadJob R W Z)) → AreRead source sink jobs reads → length jobs ≡ length reads
  length_read [] [] h = refl
  length_read [] (r ∷ rs) h = absurd h
  length_read (j ∷ js) [] h = absurd h
  length_read (j ∷ js) (r ∷ rs) h = let e = length_read js rs h.2 in omega (arith, e)

module _ {J : Type 0} (P : J → J → FileOutcome → Bool → List EntryValue → Type 0) where
  -- one job, and then the others
  turn_and_more : (session : ℕ) (jobs rest : List J) (job : J) (worked later : List (J × FileOutcome)) (one : J × FileOutcome) (before between after : BookValue)
      → jobs ≡ job ∷ rest → worked ≡ one ∷ later → IsWorkedAlone P session before between job one.0 one.1
      → TookTurnsAs P (session + 1) rest later between after → TookTurnsAs P session jobs worked before after
  turn_and_more session jobs rest job worked later one before between after js ws alone took =
      subst (λ (z : List J × List (J × FileOutcome)). TookTurnsAs P session z.0 z.1 before after) (λ i. (sym js i, sym ws i))
      (record { between = between; alone = alone; others = took })

  -- some jobs, and then the others
  turns_then : (s n : ℕ) (js js' ks ks' : List J) (os os' : List FileOutcome) (b m e : BookValue) → n ≡ s + length js → TookTurns P s js ks os b m
      → TookTurns P n js' ks' os' m e → TookTurns P s (js ++ js') (ks ++ ks') (os ++ os') b e
  turns_then s n [] js' [] ks' [] os' b m e is first more =
      let same : n ≡ s = omega (arith, is) in subst (λ (z : ℕ × BookValue). TookTurns P z.0 js' ks' os' z.1 e) (λ i. (same i, first i)) more
  turns_then s n [] js' [] ks' (o ∷ os) os' b m e is first more = absurd first
  turns_then s n [] js' (k ∷ ks) ks' os os' b m e is first more = absurd first
  turns_then s n (j ∷ js) js' [] ks' os os' b m e is first more = absurd first
  turns_then s n (j ∷ js) js' (k ∷ ks) ks' [] os' b m e is first more = absurd first
  turns_then s n (j ∷ js) js' (k ∷ ks) ks' (o ∷ os) os' b m e is first more =
      record {
        between = first.between;
        alone = first.alone;
        others = turns_then (s + 1) n js js' ks ks' os os' first.between m e (omega (arith, is)) first.others more;
      }

  took_more : (s n : ℕ) (js js' all : List J) (ws vs : List (J × FileOutcome)) (b m e : BookValue) → n ≡ s + length js → all ≡ js ++ js'
      → TookTurnsAs P s js ws b m → TookTurnsAs P n js' vs m e → TookTurnsAs P s all (ws ++ vs) b e
  took_more s n js js' all ws vs b m e is cut first more =
      let ks = map-append (λ (w : J × FileOutcome). w.0) ws vs in
      let os = map-append (λ (w : J × FileOutcome). w.1) ws vs in
      subst (λ (z : List J × List J × List FileOutcome). TookTurns P s z.0 z.1 z.2 b e) (λ i. (sym cut i, sym ks i, sym os i))
      (turns_then s n js js' (map (λ w. w.0) ws) (map (λ w. w.0) vs) (map (λ w. w.1) ws) (map (λ w. w.1) vs) b m e is first more)

-- ---- groups that are read

module _ {R W Z Y X : Type 0} (source : SourceOf R) (sink : SinkOf W) where
  -- none was read
  pub none_read : (most : ℕ) (jobs : Vec (Job R W) Z) (group : Vec (ReadJob R W Y) X) → IsGroupUnread source sink most jobs group → vec_len group ≡ 0
      → (0 < most → vec_len jobs ≡ 0) → HasReadGroup source sink most jobs jobs group group
  none_read most jobs group ready empty over = record {
    front = [];
    cut = refl;
    read = subst (λ (l : List (ReadJob R W Y)). AreRead source sink [] (reverse l)) (sym ready.none) tt;
    works = ready.works;
    few = omega (arith, empty);
    count = omega (arith, empty);
    some = λ most_some none. over most_some;
    room = omega arith;
  }

  -- one job more was read, before the others
  pub one_read : (most others : ℕ) (jobs mid jobs_after : Vec (Job R W) Z) (group between group_after : Vec (ReadJob R W Y) X) (job : Job R W) (read : ReadJob R W Y)
      → most ≡ others + 1 → jobs.items ≡ mid.items ++ job ∷ [] → vec_len jobs ≡ vec_len mid + 1 → WasRead source job read → sink.has_failed job.writer ≡ false
      → HasReadGroup source sink others mid jobs_after group between → group_after.items ≡ between.items ++ read ∷ []
      → vec_len group_after ≡ vec_len between + 1 → vec_capacity between ≤ vec_capacity group_after
      → HasReadGroup source sink most jobs jobs_after group group_after
  one_read most others jobs mid jobs_after group between group_after job read count popped shorter was writes h pushed longer room = record {
    front = job ∷ h.front;
    cut = turned jobs.items mid.items job popped ∙ ap (λ l. job ∷ l) h.cut;
    read = subst (AreRead source sink (job ∷ h.front)) (sym (turned group_after.items between.items read pushed)) (was, ap sink.has_failed was.writer ∙ writes, h.read);
    works = h.works;
    few = let f = h.few in omega (arith, f, longer, count);
    count = let n = h.count in omega (arith, n, longer, shorter);
    some = λ most_some none. absurd (omega (arith, longer, none));
    room = let r = h.room in omega (arith, r, room);
  }

-- ---- groups that are decided

module _ {R W Y : Type 0} (source : SourceOf R) (sink : SinkOf W) where
  nobody : (P : Job R W → Job R W → FileOutcome → Bool → List EntryValue → Type 0) (session : ℕ) (book : BookValue) (js : List (Job R W)) (none : List (ReadJob R W Y))
      → none ≡ [] → AreRead source sink js none → TookTurnsAs P session js [] book book
  nobody P session book js none empty are = by js (subst (AreRead source sink js) empty are) where
    by : (js : List (Job R W)) → AreRead {Z = Y} source sink js [] → TookTurnsAs P session js [] book book
    by [] h = refl
    by (j ∷ js) h = absurd h

module _ {R W Z Y X : Type 0} (source : SourceOf R) (sink : SinkOf W) where
  -- no job is in the group
  pub none_decided : (P : Job R W → Job R W → FileOutcome → Bool → List EntryValue → Type 0) (session : ℕ) (book : BookValue) (group group_after : Vec (ReadJob R W Y) Z)
      (worked : Vec (Job R W × FileOutcome) X) → worked.items ≡ [] → group.items ≡ [] → group_after.items ≡ [] → vec_capacity group ≤ vec_capacity group_after
      → vec_len group ≡ vec_len worked → HasDecidedGroup source sink P session book book group group_after worked worked
  none_decided P session book group group_after worked none empty emptied room same = record {
    took = λ jobs are. subst (λ (l : List (Job R W × FileOutcome)). TookTurnsAs P session jobs (reverse l) book book) (sym none)
        (nobody source sink P session book jobs (reverse group.items) (ap reverse empty) are);
    emptied = emptied;
    group_room = room;
    count = sym same;
    worked_room = omega arith;
  }

  module _ (stamp : StampParts) (session : ℕ) (before between after : BookValue) (group rest rest_after : Vec (ReadJob R W Y) Z)
      (worked mid worked_after : Vec (Job R W × FileOutcome) X) (read : ReadJob R W Y) (decided : DecidedJob R W Y) (ended : Job R W × FileOutcome) where
    -- one job more was decided and answered, before the others
    pub one_decided : group.items ≡ rest.items ++ read ∷ [] → vec_len group ≡ vec_len rest + 1 → vec_capacity group ≤ vec_capacity rest
        → between.limit ≡ before.limit
        → ((job : Job R W) → WasRead source job read
        → WasDecided source sink session job decided (is_full between) (entries_at session before) (entries_at session between))
        → HasAnswered source sink stamp decided ended.0 ended.1
        → HasDecidedGroup source sink (JobAccount source sink stamp false) (session + 1) between after rest rest_after worked mid
        → worked_after.items ≡ mid.items ++ ended ∷ [] → vec_len worked_after ≡ vec_len mid + 1 → vec_capacity mid ≤ vec_capacity worked_after
        → HasDecidedGroup source sink (JobAccount source sink stamp false) session before after group rest_after worked worked_after
    one_decided popped shorter group_room limit decides answers h pushed longer worked_room = record {
      took = λ jobs are.
          let first = read_first source sink jobs read (reverse group.items) (reverse rest.items) (turned group.items rest.items read popped) are in
          turn_and_more (JobAccount source sink stamp false) session jobs first.rest first.job (reverse worked_after.items) (reverse mid.items) ended before between after
          first.is (turned worked_after.items mid.items ended pushed)
          (worked_alone source sink stamp session before between first.job ended.0 ended.1 limit
          (answers session first.job (is_full between) (entries_at session before) (entries_at session between) (decides first.job first.read_is)))
          (h.took first.rest first.others_are);
      emptied = h.emptied;
      group_room = let r = h.group_room in omega (arith, r, group_room);
      count = let n = h.count in omega (arith, n, shorter, longer);
      worked_room = let r = h.worked_room in omega (arith, r, worked_room);
    }

  -- of the first of a group: that it was read, that its writer has not failed, and what it asks to decide the others
  pub first_ready : (session : ℕ) (group rest : Vec (ReadJob R W Y) Z) (worked : Vec (Job R W × FileOutcome) X) (read : ReadJob R W Y)
      → IsGroupReady source sink session group worked → group.items ≡ rest.items ++ read ∷ []
      → (jobs : List (Job R W)) × ReadFirst source sink jobs read (reverse rest.items)
  first_ready session group rest worked read ready popped =
      (ready.jobs, read_first source sink ready.jobs read (reverse group.items) (reverse rest.items) (turned group.items rest.items read popped) ready.read)

-- ---- a run, group after group

module _ {R W Z Y X V : Type 0} (source : SourceOf R) (sink : SinkOf W) where
  -- what it asks to go on behind a group
  pub ready_behind : (ended ended_after : Vec (Job R W) Z) (outcomes outcomes_after : Vec FileOutcome X) (group group_after : Vec (ReadJob R W Y) V)
      (jobs jobs_after : Vec (Job R W) Z) (next next_after : Vec (ReadJob R W Y) V) (worked emptied : Vec (Job R W × FileOutcome) X)
      → IsRunReady source sink ended outcomes group jobs next worked → HasReadGroup source sink group_size jobs jobs_after next next_after → group_after.items ≡ []
      → vec_capacity group ≤ vec_capacity group_after → vec_len ended_after ≡ vec_len ended + vec_len group → vec_len outcomes_after ≡ vec_len outcomes + vec_len group
      → vec_capacity ended ≤ vec_capacity ended_after → vec_capacity outcomes ≤ vec_capacity outcomes_after → emptied.items ≡ []
      → vec_capacity worked ≤ vec_capacity emptied → IsRunReady source sink ended_after outcomes_after next_after jobs_after group_after emptied
  ready_behind ended ended_after outcomes outcomes_after group group_after jobs jobs_after next next_after worked emptied ready h none room e o er or wn wr =
      let all = h.count in
      record {
        few = let f = ready.few in omega (arith, f, all, e);
        counts = let c = ready.counts in omega (arith, c, e, o);
        ended_room = let r = ready.ended_room in omega (arith, r, all, e, er);
        outcomes_room = let r = ready.outcomes_room in omega (arith, r, all, e, or);
        jobs_read = h.front;
        read = h.read;
        works = h.works;
        group_few = h.few;
        last = h.some (omega arith);
        group_room = let r = ready.next_room in let s = h.room in omega (arith, r, s);
        next_none = none;
        next_room = let r = ready.group_room in omega (arith, r, room);
        worked_none = wn;
        worked_room = let r = ready.worked_room in omega (arith, r, wr);
      }

module _ {R W Z Y X V : Type 0} (source : SourceOf R) (sink : SinkOf W) (P : Job R W → Job R W → FileOutcome → Bool → List EntryValue → Type 0) where
  -- no group is left
  pub none_ordered : (book : BookValue) (ended : Vec (Job R W) Z) (outcomes : Vec FileOutcome X) (group : Vec (ReadJob R W Y) V) (jobs : Vec (Job R W) Z)
      → group.items ≡ [] → jobs.items ≡ [] → HasOrdered source sink P book ended outcomes group jobs book ended outcomes
  none_ordered book ended outcomes group jobs none over = record {
    took = λ js are. (
      [],
      sym (append-nil ended.items),
      sym (append-nil outcomes.items),
      subst (λ (z : List (Job R W)). TookTurnsAs P (vec_len ended + 1) z [] book book)
          (sym (ap (λ l. js ++ reverse l) over ∙ append-nil js)) (nobody source sink P (vec_len ended + 1) book js (reverse group.items) (ap reverse none) are),
    );
  }

  -- a group, and then the others
  pub more_ordered : (book between after : BookValue) (ended ended_then ended_after : Vec (Job R W) Z) (outcomes outcomes_then outcomes_after : Vec FileOutcome X)
      (group group_after : Vec (ReadJob R W Y) V) (jobs jobs_after : Vec (Job R W) Z) (next next_after : Vec (ReadJob R W Y) V)
      (worked worked_after : Vec (Job R W × FileOutcome) X)
      → HasReadGroup source sink group_size jobs jobs_after next next_after → HasDecidedGroup source sink P (vec_len ended + 1) book between group group_after worked worked_after
      → ended_then.items ≡ ended.items ++ map (λ w. w.0) (reverse worked_after.items) → outcomes_then.items ≡ outcomes.items ++ map (λ w. w.1) (reverse worked_after.items)
      → vec_len ended_then ≡ vec_len ended + vec_len group
      → HasOrdered source sink P between ended_then outcomes_then next_after jobs_after after ended_after outcomes_after
      → HasOrdered source sink P book ended outcomes group jobs after ended_after outcomes_after
  more_ordered book between after ended ended_then ended_after outcomes outcomes_then outcomes_after group group_after jobs jobs_after next next_after worked worked_after
      read decided es os count others = record {
        took = λ js are.
            let t = others.took read.front read.read in
            let first = reverse worked_after.items in
            let long = length_read source sink js (reverse group.items) are in
            let turned_long = length-reverse group.items in
            let is = group.ok.0 in (
              first ++ t.0,
              t.1 ∙ (ap (λ l. l ++ map (λ w. w.0) t.0) es ∙ (append_assoc ended.items (map (λ w. w.0) first) (map (λ w. w.0) t.0)
                  ∙ ap (λ l. ended.items ++ l) (sym (map-append (λ (w : Job R W × FileOutcome). w.0) first t.0)))),
              t.2 ∙ (ap (λ l. l ++ map (λ w. w.1) t.0) os ∙ (append_assoc outcomes.items (map (λ w. w.1) first) (map (λ w. w.1) t.0)
                  ∙ ap (λ l. outcomes.items ++ l) (sym (map-append (λ (w : Job R W × FileOutcome). w.1) first t.0)))),
              took_more P (vec_len ended + 1) (vec_len ended_then + 1) js (read.front ++ reverse jobs_after.items) (js ++ reverse jobs.items) first t.0 book between after
                  (omega (arith, count, long, turned_long, is)) (ap (λ l. js ++ l) read.cut) (decided.took js are) t.3,
            );
      }

  -- the whole run
  pub all_ordered : (book after : BookValue) (all turned_jobs jobs : Vec (Job R W) Z) (ended ended_after : Vec (Job R W) Z) (outcomes outcomes_after : Vec FileOutcome X)
      (none group : Vec (ReadJob R W Y) V) → turned_jobs.items ≡ reverse all.items → HasReadGroup source sink group_size turned_jobs jobs none group → ended.items ≡ []
      → outcomes.items ≡ [] → vec_len ended ≡ 0 → HasOrdered source sink P book ended outcomes group jobs after ended_after outcomes_after
      → TookTurns P 1 all.items ended_after.items outcomes_after.items book after
  all_ordered book after all turned_jobs jobs ended ended_after outcomes outcomes_after none group turned_is read e o empty ordered =
      let t = ordered.took read.front read.read in
      let js : read.front ++ reverse jobs.items ≡ all.items = sym read.cut ∙ (ap reverse turned_is ∙ reverse-reverse all.items) in
      let ks : map (λ w. w.0) t.0 ≡ ended_after.items = sym (t.1 ∙ ap (λ l. l ++ map (λ w. w.0) t.0) e) in
      let os : map (λ w. w.1) t.0 ≡ outcomes_after.items = sym (t.2 ∙ ap (λ l. l ++ map (λ w. w.1) t.0) o) in
      let one : vec_len ended + 1 ≡ 1 = omega (arith, empty) in
      subst (λ (z : ℕ × List (Job R W) × List (Job R W) × List FileOutcome). TookTurns P z.0 z.1 z.2 z.3 book after) (λ i. (one i, js i, ks i, os i)) t.3
