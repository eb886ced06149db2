-- What is given back is given to the allocator within, and nothing is counted. Assumes `Logic`.
use Rattle.failing_alloc.proofs.Counting.{within_at, count_at, seen_count, shows_both}
use Rattle.failing_alloc.proofs.Ending.{blanks, blank}
use Rattle.failing_alloc.proofs.allocator.FailingAllocAllocator.deallocate.Code as code
use Rattle.failing_alloc.proofs.allocator.FailingAllocAllocator.deallocate.Statement.{statement}
use Rattle.failing_alloc.proofs.Within.{Block, returned}
use Rattle.failing_alloc.specs.contracts.allocator.FailingAlloc as whole
use Rattle.failing_alloc.specs.contracts.allocator.FailingAllocAllocator.deallocate as method
use Rattle.std.proofs.Common.{ℕ, ◌<◌, ◌^◌, List, [], ◌∷◌, refl, w64, Bor}
use Rattle.std.proofs.alloc.Calls.{Al, seen, token, gives_key, Gives}
use Rattle.std.proofs.raw_atomic.Walks.{proved, leaves}
use Rattle.std.specs.Allocator.{HasLayout}
use base.Fml.{Lft, Share, ftrue, fsep, flft, froom}
use base.Logic.{SProp, ent, fst∗, never}
use contract.BorrowLft.{◌⊑◌, ⊑_trans}
use contract.Monad.{fact}
use contract.Running.{MachineTables, Running, tables}
use denote.Builtin.{usize, RawPtr, RefOf}
use denote.Exit.{yes}
use denote.Param.{bounded, param}
use denote.Plain.{uint_vals, uint_Tells}
use denote.RattleType.{owns}
use denote.RawPtr.{Ptr, block_ptr, null_ptr, ptr_val, in_a_block, room_for, rawptr_vals, rawptr_Tells}
use denote.Ref.{shr_vals}
use denote.Signature.{Slot, plain, types_at}
use denote.Steps.{heard, nothing}
use denote.Triple.Clauses.{Ended, Clauses}
use denote.Triple.Statement.{Triple}
use denote.Triple.Table.{framed}
use denote.Triple.Walked.{Stays, stay_dropped, walk_of, Goes-dropped}
use mir.MapTy.{inst_fn}
use mir.Syntax.{Ty, Fn, a_type, dnil, dcons}
use mir.Val.{Val, vint, vptr, vunit}
use prog.Model.{Model}
use prog.Wp.{WpFn}
use seplogic.Ra.Ura.{Ura}
use types.ByLocal.{alloc_all, pass_all, free_all, look_at, get, through, sets, lands_as}
use types.Kit.{‵, raw, ◌⊛◌, ◌$◌, ◌∵◌, !, Sq, prop, qed, move, drop, use0, use1, split, split3, join, fsplit, feq_i, regoal, suffices, done}
use types.Logic.{Logic, sem}
use types.Run.{stop, fld, addr, of_opd, unit_lit, no_more, and_then, returns, enter}

module _ (Z : Al) where
  -- the method at this allocator within
  abbrev here : Fn
  here = inst_fn (bounded (a_type ∷ []) (Z.row, tt) (dcons Z.d (dcons Z.drops dnil))) code.function

  abbrev ended : Ended
  ended = method.ended Z.row Z.g Z.d Z.drops

  abbrev self : Slot 2
  self = RefOf (0 ∷ []) tt (plain (λ _. whole.the_row (param 0 Z.row))) (λ _. tt)

  abbrev kept : Stays ended.signature.params ended.kept
  kept = (stay_dropped self yes, (stay_dropped (plain (λ _. RawPtr)) yes, (stay_dropped (plain (λ _. usize)) yes, (stay_dropped (plain (λ _. usize)) yes, tt))))

  module _ {M : Type 1} {𝓤 : Ura M} (𝓛 : Logic 𝓤) (𝓜 : Model 𝓤 𝓛.H) (𝓡 : Running 𝓤 𝓛.H 𝓜) where
    open 𝓛 use {H}

    abbrev machine : MachineTables 𝓤 H 𝓜
    machine = tables 𝓤 H 𝓜 𝓡 𝓡.env

    abbrev said : Clauses 𝓤 ended
    said = method.clauses Z.row Z.g Z.d Z.drops 𝓛 𝓜.mem 𝓡.returns

    module _ (κ ρ : Lft) (s u : Share) (inn : κ ⊑ ρ) (r : Bor (whole.the_row Z.row).Denot) (n a : ℕ) (τ : Ty) where
      -- at the block that lies there
      abbrev y : Ptr → (walk_of 𝓛 ended kept said).Ghost
      y x = (((κ, (ρ, tt)), (s, (u, tt)), (inn, tt), (r, (x, (n, (a, tt)))), (shr_vals r, (rawptr_vals x, (vint w64 n ∷ [], (vint w64 a ∷ [], tt))))), τ)

      abbrev Runs : Ptr → SProp 𝓤
      Runs x = WpFn 𝓤 H machine.C machine.Λ here (vptr r.ref_ptr.0 r.ref_ptr.1 ∷ ptr_val x ∷ vint w64 n ∷ vint w64 a ∷ []) ((walk_of 𝓛 ended kept said).post (y x))

      -- [the block's memory and the right to give it back; the allocator within; the tokens]
      walk : ρ ⊑ Z.row.lives → Block τ n a → Triple 𝓤 (machine.C (gives_key Z)) (Gives Z 𝓛 𝓜.mem 𝓡.returns) → (b o : ℕ)
          → Sq 𝓛 (‵ (fsep (froom τ b o) (token Z r.now.within τ (block_ptr b o))) ∷ ‵ (seen Z κ (within_at Z r.ref_ptr.0 r.ref_ptr.1) r.now.within) ∷ ‵ (flft κ s) ∷ (‵ (flft ρ u) ⊛ ‵ ftrue) ∷ []) (prop (Runs (block_ptr b o)))
      walk le w gives b o =
          enter ! machine.C machine.Λ here _ _ $
          alloc_all ! (λ l. pass_all ! refl ((tt, tt), ((tt, tt), ((tt, record { fits = w.size_fits }), ((tt, record { fits = w.align_fits }), tt)))) $
          sets ! (addr ! (through ! refl (fld ! refl (stop !)))) refl (tt, tt) $
          fsplit ! $ move ! (2 ∷ 3 ∷ []) $ join ! $ move ! (2 ∷ 0 ∷ []) $ join ! $ move ! (1 ∷ 0 ∷ []) $ join ! $
          returned Z 𝓜.mem 𝓡.returns κ s (within_at Z r.ref_ptr.0 r.ref_ptr.1) r.now.within n a τ ! (framed 𝓤 H 𝓜 machine) gives (⊑_trans κ ρ Z.row.lives inn le) w b o
          (and_then ! (get ! refl) (and_then ! (get ! refl) (and_then ! (get ! refl) (and_then ! (get ! refl) (no_more !))))) (λ v is.
          lands_as ! is refl (tt, tt) $ sets ! (of_opd ! (unit_lit !)) refl (tt, tt) $ returns ! (look_at ! 0 refl) $ free_all ! refl $
          suffices ! _ (leaves 𝓛 ended kept said (y (block_ptr b o)) vunit tt (tt, (tt, (tt, (tt, tt)))) (tt, (tt, (tt, (tt, tt))))) $
          nothing ! $ feq_i ! (List Val) (vunit ∷ []) (vunit ∷ []) refl $ join ! $
          use0 𝓛 (‵ (blanks 4)) (blank 𝓛 4) $ join ! $ move ! (1 ∷ 2 ∷ []) $ join ! $ join ! $ done !))

      -- what the caller hands over and says, taken apart
      begins : (x : Ptr) → Triple 𝓤 (machine.C (gives_key Z)) (Gives Z 𝓛 𝓜.mem 𝓡.returns) → n < 2 ^ 64 → a < 2 ^ 64 → ent 𝓤 ((walk_of 𝓛 ended kept said).pre (y x)) (Runs x)
      begins x gives size_fits align_fits =
          let F = λ (p : Ptr). fsep (room_for τ p) (token Z r.now.within τ p) in
          qed 𝓛 (((‵ (flft κ s) ⊛ (‵ (flft ρ u) ⊛ ‵ ftrue)) ⊛ ‵ (owns (types_at ended.signature.params (y x).0.0) (y x).0.3 (y x).0.4))
          ∷ (raw (fact 𝓤 (ρ ⊑ Z.row.lives)) ⊛ raw (fact 𝓤 (HasLayout τ n a)) ⊛ ‵ (F x)) ∷ []) ∵
          move ! (1 ∷ []) $ split3 ! $ heard ! _ (λ le. heard ! _ (λ is.
          in_a_block ! x F (fst∗ 𝓤 (never 𝓤) (sem 𝓛 (token Z r.now.within τ null_ptr))) (λ b o there.
          regoal ! (λ (p : Ptr). prop (Runs p)) there refl $
          move ! (1 ∷ []) $ split ! $ move ! (1 ∷ []) $ fsplit ! $ move ! (1 ∷ []) $ drop ! $ fsplit ! $ drop ! $
          use1 𝓛 (‵ (seen Z κ (within_at Z r.ref_ptr.0 r.ref_ptr.1) r.now.within) ⊛ ‵ (seen_count κ (count_at Z r.ref_ptr.0 r.ref_ptr.1) r.now.requests))
          (shows_both Z 𝓛 κ r.now r.ref_ptr.0 r.ref_ptr.1) $ split ! $ move ! (1 ∷ []) $ drop ! $ move ! (1 ∷ []) $ split ! $ move ! (3 ∷ 2 ∷ 0 ∷ []) $
          walk le (record { is_size = is.0; is_align = is.1; size_fits = size_fits; align_fits = align_fits }) gives b o)))

pub deallocate_spec : {M : Type 1} → statement M
deallocate_spec 𝓤 𝓛 𝓜 𝓡 wired Y L g d d' met _ =
    let Z : Al = record { row = Y; laws = L; g = g; d = d; drops = d' } in
    let number = Goes-dropped 𝓛 2 (plain (λ _. usize)) yes (λ κs x w. refl) in
    proved 𝓛 (ended Z) (kept Z) (said Z 𝓛 𝓜 𝓡) 𝓜 𝓡
    (Goes-dropped 𝓛 2 (self Z) yes (λ κs x w. refl), (Goes-dropped 𝓛 2 (plain (λ _. RawPtr)) yes (λ κs x w. refl), (number, (number, tt))))
    (method.Key.name (bounded (a_type ∷ []) (Y, tt) (dcons d (dcons d' dnil)))) (here Z) (code.unfolded 𝓤 𝓛.H 𝓜 𝓡 wired (Y, tt) d d')
    (λ κs. (shr_vals, (rawptr_vals, (uint_vals w64, (uint_vals w64, tt))))) (λ κs. ((λ r vs shown. shown.0), (rawptr_Tells, (uint_Tells w64, (uint_Tells w64, tt)))))
    (λ κs qs bounds p τ are. begins Z 𝓛 𝓜 𝓡 κs.0 κs.1.0 qs.0 qs.1.0 bounds.0 p.0 p.1.1.0 p.1.1.1.0 τ p.1.0 (met.deallocate d') are.1.1.0.1 are.1.1.1.0.1)
