-- A request is counted; it is refused, or its answer is that of the allocator within. Assumes `Logic`.
use Rattle.failing_alloc.proofs.Counting.{within_at, count_at, seen_count, shows_both, Counts, counted}
use Rattle.failing_alloc.proofs.Ending.{after, blanks, blank, reply_of, reply_made, owns_as_said}
use Rattle.failing_alloc.proofs.allocator.FailingAllocAllocator.allocate.Code as code
use Rattle.failing_alloc.proofs.allocator.FailingAllocAllocator.allocate.Statement.{statement}
use Rattle.failing_alloc.proofs.allocator.Requests.refuses.Met as counts_met
use Rattle.failing_alloc.proofs.Within.{Block, Reply, reply_val, reply_owns, asked}
use Rattle.failing_alloc.specs.contracts.allocator.FailingAlloc as whole
use Rattle.failing_alloc.specs.contracts.allocator.FailingAllocAllocator.allocate as method
use Rattle.failing_alloc.specs.contracts.allocator.Requests.refuses.Key as counting
use Rattle.std.proofs.Common.{ℕ, ◌<◌, ◌^◌, false, [], ◌∷◌, refl, w64, Bor}
use Rattle.std.proofs.alloc.Calls.{Al, seen, token, Answer, Answer-typed, takes_key, Takes}
use Rattle.std.proofs.raw_atomic.Walks.{proved, leaves}
use Rattle.std.specs.Allocator.{HasLayout, block_if_ok}
use base.Fml.{Lft, Share, ftrue, flft}
use base.Logic.{SProp, ent}
use contract.BorrowLft.{◌⊑◌, ⊑_trans}
use contract.Monad.{fact}
use contract.Running.{MachineTables, tables}
use contract.Running.{Running}
use denote.Builtin.{usize, RefOf}
use denote.Exit.{yes}
use denote.Param.{bounded, param}
use denote.Plain.{uint_vals, uint_Tells}
use denote.RattleType.{owns}
use denote.Ref.{shr_vals}
use denote.Signature.{Slot, plain, types_at}
use denote.Steps.{heard, nothing}
use denote.Triple.Clauses.{Ended, Clauses}
use denote.Triple.Statement.{Triple}
use denote.Triple.Table.{framed}
use denote.Triple.Walked.{Stays, stay_dropped, walk_of, Goes-dropped}
use mir.MapTy.{inst_fn}
use mir.Syntax.{Ty, Fn, a_type, dnil, dcons}
use mir.Val.{Val, vint, vptr}
use prog.Model.{Model}
use prog.Wp.{WpFn}
use seplogic.Ra.Ura.{Ura}
use types.ByLocal.{alloc_all, pass_all, free_all, look_at, get, through, sets, lands_as, env}
use types.Kit.{‵, raw, ◌⊛◌, ◌$◌, ◌∵◌, !, Sq, prop, at_ret, qed, move, keep, drop, use0, use1, split, join, fsplit, suffices, done}
use types.Logic.{Logic}
use types.Part.{agg}
use types.Run.{stop, fld, addr, lit, no_more, and_then, first, branches, skips, exec, returns, returns_within, enter}

module _ (Z : Al) where
  -- the method at this allocator within
  abbrev here : Fn
  here = inst_fn (bounded (a_type ∷ []) (Z.row, tt) (dcons Z.d (dcons Z.drops dnil))) code.function

  abbrev ended : Ended
  ended = method.ended Z.row Z.g Z.d Z.drops

  abbrev self : Slot 2
  self = RefOf (0 ∷ []) tt (plain (λ _. whole.the_row (param 0 Z.row))) (λ _. tt)

  abbrev number : Slot 2
  number = plain (λ _. usize)

  abbrev kept : Stays ended.signature.params ended.kept
  kept = (stay_dropped self yes, (stay_dropped number yes, (stay_dropped number yes, tt)))

  module _ {M : Type 1} {𝓤 : Ura M} (𝓛 : Logic 𝓤) (𝓜 : Model 𝓤 𝓛.H) (𝓡 : Running 𝓤 𝓛.H 𝓜) where
    open 𝓛 use {H, A}

    abbrev machine : MachineTables 𝓤 H 𝓜
    machine = tables 𝓤 H 𝓜 𝓡 𝓡.env

    abbrev said : Clauses 𝓤 ended
    said = method.clauses Z.row Z.g Z.d Z.drops 𝓛 𝓜.mem 𝓡.returns

    module _ (κ ρ : Lft) (s u : Share) (inn : κ ⊑ ρ) (r : Bor (whole.the_row Z.row).Denot) (n a : ℕ) (τ : Ty) where
      abbrev y : (walk_of 𝓛 ended kept said).Ghost
      y = (((κ, (ρ, tt)), (s, (u, tt)), (inn, tt), (r, (n, (a, tt))), (shr_vals r, (vint w64 n ∷ [], (vint w64 a ∷ [], tt)))), τ)

      abbrev Post : Val → SProp 𝓤
      Post = (walk_of 𝓛 ended kept said).post y

      -- [what comes with the answer; the tokens]
      handed_on : (c : Reply) → Sq 𝓛 (‵ (reply_owns Z r.now.within τ c) ∷ ‵ (flft κ s) ∷ (‵ (flft ρ u) ⊛ ‵ ftrue) ∷ []) (prop (Post (reply_val c)))
      handed_on c =
          suffices ! _ (leaves 𝓛 ended kept said y (reply_val c) (reply_of c) (tt, (tt, (tt, tt))) (tt, (tt, (tt, tt)))) $
          use1 𝓛 (‵ (block_if_ok (token Z r.now.within) τ (reply_of c))) (owns_as_said 𝓛 Z r.now.within τ c) $
          use0 𝓛 (‵ (Answer.own_val (reply_of c) (reply_val c ∷ []))) (reply_made 𝓛 c) $ join ! $
          use0 𝓛 (‵ (blanks 3)) (blank 𝓛 3) $ join ! $ move ! (1 ∷ 2 ∷ []) $ join ! $ join ! $ done !

      walk : ρ ⊑ Z.row.lives → Block τ n a → Triple 𝓤 (machine.C (takes_key Z)) (Takes Z 𝓛 𝓜.mem 𝓡.returns) → Triple 𝓤 (machine.C counting.name) (Counts 𝓛 𝓜.mem 𝓡.returns)
          → Sq 𝓛 ((‵ (seen Z κ (within_at Z r.ref_ptr.0 r.ref_ptr.1) r.now.within) ⊛ ‵ (seen_count κ (count_at Z r.ref_ptr.0 r.ref_ptr.1) r.now.requests)) ∷ ‵ (flft κ s) ∷ (‵ (flft ρ u) ⊛ ‵ ftrue) ∷ [])
          (prop (WpFn 𝓤 H machine.C machine.Λ here (vptr r.ref_ptr.0 r.ref_ptr.1 ∷ vint w64 n ∷ vint w64 a ∷ []) Post))
      walk le w takes counts =
          let at : ℕ × ℕ = within_at Z r.ref_ptr.0 r.ref_ptr.1 in
          let fm = framed 𝓤 H 𝓜 machine in
          enter ! machine.C machine.Λ here _ _ $
          alloc_all ! (λ l. pass_all ! refl ((tt, tt), ((tt, record { fits = w.size_fits }), ((tt, record { fits = w.align_fits }), tt))) $
          split ! $ move ! (1 ∷ 2 ∷ []) $ sets ! (addr ! (through ! refl (fld ! refl (stop !)))) refl (tt, tt) $
          counted 𝓜.mem 𝓡.returns κ s (count_at Z r.ref_ptr.0 r.ref_ptr.1) r.now.requests ! fm counts (and_then ! (get ! refl) (no_more !)) (λ is_refused v is.
          lands_as ! is refl (tt, tt) $ first ! $ branches ! (get ! refl)
          -- refused
          (λ _. sets ! (agg ! (no_more !)) refl (tt, tt) $
          sets ! (agg ! (and_then ! (lit ! tt) (and_then ! (get ! refl) (no_more !)))) refl (Answer-typed false 0 0) $
          returns_within ! Post refl (look_at ! 0 refl) $ free_all ! refl $ keep ! (0 ∷ 2 ∷ []) $
          nothing ! $ handed_on (false, (0, 0)))
          -- handed on
          (λ _. skips ! $ exec ! machine.C machine.Λ (env here.locals l) (after 3 here.body) (at_ret _ Post) $
          move ! (1 ∷ 0 ∷ []) $ sets ! (addr ! (through ! refl (fld ! refl (stop !)))) refl (tt, tt) $
          asked Z 𝓜.mem 𝓡.returns κ s at r.now.within n a τ ! fm takes (⊑_trans κ ρ Z.row.lives inn le) w
          (and_then ! (get ! refl) (and_then ! (get ! refl) (and_then ! (get ! refl) (no_more !)))) (λ c v' is'.
          lands_as ! is' refl (Answer-typed c.0 c.1.0 c.1.1) $ returns ! (look_at ! 0 refl) $ free_all ! refl $ handed_on c))))

      -- what the caller hands over and says, taken apart
      begins : Triple 𝓤 (machine.C (takes_key Z)) (Takes Z 𝓛 𝓜.mem 𝓡.returns) → Triple 𝓤 (machine.C counting.name) (Counts 𝓛 𝓜.mem 𝓡.returns) → n < 2 ^ 64 → a < 2 ^ 64
          → ent 𝓤 ((walk_of 𝓛 ended kept said).pre y) (WpFn 𝓤 H machine.C machine.Λ here (vptr r.ref_ptr.0 r.ref_ptr.1 ∷ vint w64 n ∷ vint w64 a ∷ []) Post)
      begins takes counts size_fits align_fits =
          qed 𝓛 (((‵ (flft κ s) ⊛ (‵ (flft ρ u) ⊛ ‵ ftrue)) ⊛ ‵ (owns (types_at ended.signature.params y.0.0) y.0.3 y.0.4))
          ∷ (raw (fact 𝓤 (ρ ⊑ Z.row.lives)) ⊛ raw (fact 𝓤 (HasLayout τ n a))) ∷ []) ∵
          move ! (1 ∷ []) $ split ! $ heard ! _ (λ le. heard ! _ (λ is.
          split ! $ move ! (1 ∷ []) $ fsplit ! $ move ! (1 ∷ []) $ drop ! $ fsplit ! $ drop ! $
          use1 𝓛 (‵ (seen Z κ (within_at Z r.ref_ptr.0 r.ref_ptr.1) r.now.within) ⊛ ‵ (seen_count κ (count_at Z r.ref_ptr.0 r.ref_ptr.1) r.now.requests))
          (shows_both Z 𝓛 κ r.now r.ref_ptr.0 r.ref_ptr.1) $ move ! (1 ∷ []) $ split ! $ move ! (2 ∷ 0 ∷ []) $
          walk le (record { is_size = is.0; is_align = is.1; size_fits = size_fits; align_fits = align_fits }) takes counts))

pub allocate_spec : {M : Type 1} → statement M
allocate_spec 𝓤 𝓛 𝓜 𝓡 wired Y L g d d' met _ =
    let Z : Al = record { row = Y; laws = L; g = g; d = d; drops = d' } in
    let goes = Goes-dropped 𝓛 2 (number Z) yes (λ κs x w. refl) in
    proved 𝓛 (ended Z) (kept Z) (said Z 𝓛 𝓜 𝓡) 𝓜 𝓡 (Goes-dropped 𝓛 2 (self Z) yes (λ κs x w. refl), (goes, (goes, tt)))
    (method.Key.name (bounded (a_type ∷ []) (Y, tt) (dcons d (dcons d' dnil)))) (here Z) (code.unfolded 𝓤 𝓛.H 𝓜 𝓡 wired (Y, tt) d d')
    (λ κs. (shr_vals, (uint_vals w64, (uint_vals w64, tt)))) (λ κs. ((λ r vs shown. shown.0), (uint_Tells w64, (uint_Tells w64, tt))))
    (λ κs qs bounds p τ are. begins Z 𝓛 𝓜 𝓡 κs.0 κs.1.0 qs.0 qs.1.0 bounds.0 p.0 p.1.0 p.1.1.0 τ
    (met.allocate d') (counts_met.met 𝓤 𝓛 𝓜 𝓡 (code.calls-failing_alloc::allocator::Requests::refuses 𝓡.env wired)) are.1.0.1 are.1.1.0.1)
