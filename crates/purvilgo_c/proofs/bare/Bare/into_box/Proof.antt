-- `into_box` hands the pointer to `from_raw`, with what is behind it.
use mathlib.Core.Path.{◌≡◌, refl, sym, ap, subst}
use mathlib.Core.List.{List, [], ◌∷◌, ◌++◌}
use lib.Dec.{T as Holds}
use mir.MapTy.{inst_fn}
use mir.Syntax.{Fn, a_type}
use mir.Val.{Val, has_ty, WT}
use base.Fml.{ftrue, fsep, flft}
use base.Logic.{emp, id⊢}
use base.Share
use prog.Wp.{WpFn}
use contract.BorrowLft.{◌⊑◌, ⊑_static}
use contract.Monad.{fact, fact_i}
use contract.Running.{tables}
use types.Kit.{‵, raw, prop, at_ret, later, some, ◌⊛◌, ◌$◌, ◌∵◌, !, qed, move, drop, use0, use1, use2, split, split3, join, pick, fsplit3, fjoin, feq_i, await, rewrite, regoal, suffices, done}
use types.Part.{whole, sub}
use types.Run.{enter, of_opd, and_then, no_more, stop, fld, first, blocks, exec, returns}
use types.ByLocal.{alloc_all, pass_all, free_all, look_at, get, get_in, sets, lands_last, env}
use denote.Exit.{yes, no}
use denote.Param.{param, layouts}
use denote.Param.NoDrop.{glues}
use denote.RattleType.{RattleType}
use denote.RawPtr.{block_ptr, ptr_val}
use denote.Signature.{plain}
use denote.Steps.{nothing, heard, only}
use denote.Triple.Call.{calls_at_last}
use denote.Triple.Clauses.{Ended}
use denote.Triple.Spec.{triple_of}
use denote.Triple.Table.{framed}
use denote.Triple.Walked.{Stays, walk_of, says, stay_dropped, Goes-dropped, ends_at}
use Rattle.core.proofs.alloc.Calls.{Goes-blank, handle_tells}
use Rattle.std.proofs.raw_atomic.Walks.{proved_at}
use Rattle.std.proofs.VecSteps.Shapes.{after}
use Rattle.std_alloc.proofs.BoxSteps.Form as box
use Rattle.std_alloc.proofs.BoxSteps.Steps.{box_out, box_in}
use Rattle.std_alloc.specs.contracts.boxed.Box.from_raw as made
use Rattle.std_alloc.proofs.boxed.Box.from_raw.Met.{met}
use Rattle.std_heap.specs.contracts.Global as Heap
use Rattle.std_heap.proofs.GlobalAllocator.TheImpl.Met as heap
use Rattle.purvilgo_c.specs.contracts.bare.Bare as Bare
use Rattle.purvilgo_c.specs.contracts.bare.Bare.into_box as f
use Rattle.purvilgo_c.proofs.Handles.{bare_out, boxed, heap_arg}
use Rattle.purvilgo_c.proofs.bare.Bare.into_box.Statement.{statement}
use Rattle.purvilgo_c.proofs.Destruct++none.drop.Code as none-code
use Rattle.purvilgo_c.proofs.bare.Bare.into_box.Code as code

pub into_box_spec : {M : Type 1} → statement M
unfolding none-code.code
into_box_spec {M} 𝓤 𝓛 𝓜 𝓡 wired T L =
    let E = boxed T L in let R : RattleType = param 0 T in
    let ended : Ended = f.ended T in
    let stayed : Stays ended.signature.params ended.kept = (stay_dropped (plain (λ _. Bare.the_row R)) no, (stay_dropped (plain (λ _. Heap.the_row)) yes, tt)) in
    let c = f.clauses T 𝓛 𝓜.mem 𝓡.returns in let W = walk_of 𝓛 ended stayed c in let 𝓣 = tables 𝓤 𝓛.H 𝓜 𝓡 𝓡.env in
    let fn : Fn = inst_fn (layouts (a_type ∷ []) (T, tt)) code.function in
    proved_at 𝓛 ended stayed c 𝓜 𝓡 (Goes-blank 𝓛 1 (plain (λ _. Bare.the_row R)) no (λ κs x w. tt), (Goes-dropped 𝓛 1 (plain (λ _. Heap.the_row)) yes (λ κs x w. refl), tt))
    (f.Key.name (layouts (a_type ∷ []) (T, tt))) fn (code.unfolded 𝓤 𝓛.H 𝓜 𝓡 wired (T, tt)) (λ y are.
    let κ = y.0.0.0 in let q = y.0.1.0 in let d = y.0.3.0 in let a = y.0.3.1.0 in let x = d.value in
    let tokens = ‵ (flft κ (Share.left q)) ⊛ ‵ (flft κ (Share.right q)) ⊛ ‵ ftrue in
    qed 𝓛 (((‵ (flft κ q) ⊛ ‵ ftrue) ⊛ ‵ (fsep ((Bare.the_row R).own_val d y.0.4.0) (fsep (Heap.the_row.own_val a y.0.4.1.0) ftrue))) ∷ (raw (fact 𝓤 (κ ⊑ T.lives)) ⊛ ‵ ftrue) ∷ []) ∵
    move ! (1 ∷ []) $ split ! $ heard ! (κ ⊑ T.lives) (λ lives. drop ! $
    split ! $ split ! $ move ! (1 ∷ []) $ drop ! $ move ! (1 ∷ []) $ fsplit3 ! $
    bare_out R ! d y.0.4.0 (λ b o e bare_is. move ! (1 ∷ []) $ handle_tells E.al ! a y.0.4.1.0 (λ hv heap_is fits.
    -- [the handle; what is behind the pointer; true; the token]
    regoal ! (λ (ws : List Val × List Val). prop (WpFn 𝓤 𝓛.H 𝓣.C 𝓣.Λ fn (ws.0 ++ (ws.1 ++ [])) (W.post y))) (λ i. (bare_is i, heap_is i)) refl $
    enter ! _ _ _ _ _ $ alloc_all ! (λ l. pass_all ! refl ((tt, (tt, tt)), (fits, tt)) $
    sets ! (of_opd ! (get_in ! (fld ! refl (stop !)) (sub ! 0 refl (whole !)))) refl (tt, tt) $
    first ! $ blocks ! $
    let Made = triple_of 𝓛 (made.signature T heap_arg E.al.g E.al.d E.al.drops) (made.spec T heap_arg E.al.g E.al.d E.al.drops 𝓛 𝓜.mem 𝓡.returns) in
    let z : Made.Ghost = (((κ, (κ, tt)), (Share.left q, (Share.right q, tt)), tt, (a, (block_ptr b o, tt)), (hv ∷ [], (ptr_val (block_ptr b o) ∷ [], tt))), x) in
    -- its tokens, what the arguments own, and what it requires
    move ! (3 ∷ []) $ use1 𝓛 (‵ (flft κ (Share.left q)) ⊛ ‵ (flft κ (Share.right q))) (𝓛.lfts.lft_split κ q) $ split ! $
    nothing ! $ move ! (2 ∷ 0 ∷ []) $ join ! $ move ! (1 ∷ 0 ∷ []) $ join ! $
    move ! (2 ∷ []) $ use0 𝓛 (raw (fact 𝓤 (κ ⊑ heap_arg.lives))) (fact_i 𝓤 (κ ⊑ heap_arg.lives) (emp 𝓤) (⊑_static κ)) $ join ! $
    use0 𝓛 (raw (fact 𝓤 (κ ⊑ T.lives))) (fact_i 𝓤 (κ ⊑ T.lives) (emp 𝓤) lives) $ join ! $
    move ! (3 ∷ []) $ feq_i ! (List Val) (ptr_val (block_ptr b o) ∷ []) (ptr_val (block_ptr b o) ∷ []) refl $ fjoin ! $ move ! (3 ∷ 0 ∷ []) $ fjoin ! $
    move ! (2 ∷ 0 ∷ []) $ join ! $ join ! $ use1 𝓛 (raw (Made.pre z)) (id⊢ 𝓤 _) $
    calls_at_last ! (framed 𝓤 𝓛.H 𝓜 𝓣) Made (met 𝓤 𝓛 𝓜 𝓡 (code.calls-std_alloc::boxed::Box::from_raw 𝓡.env wired) T heap_arg L E.al.laws E.al.g E.al.d E.al.drops
    (heap.passed 𝓡.env (code.calls-std_heap::GlobalAllocator::allocate 𝓡.env wired) (code.calls-std_heap::GlobalAllocator::deallocate 𝓡.env wired) (code.calls-std_heap::GlobalAllocator::grow 𝓡.env wired) (code.calls-std_heap::GlobalAllocator::shrink 𝓡.env wired) M 𝓤 𝓛 𝓜 𝓡)
    (glues "purvilgo_c::Destruct++none::drop" 𝓡.env (code.calls-purvilgo_c::Destruct++none::drop 𝓡.env wired) heap_arg E.al.laws M 𝓤 𝓛 𝓜 𝓡))
    z (and_then ! (get ! refl) (and_then ! (get ! refl) (no_more !))) (λ u.
    use1 𝓛 (later (some (λ (r : box.D E). (tokens ⊛ ‵ ((box.B E).own_val r (u ∷ []))) ⊛ some (λ (_ : Unit {0} × (Unit {0} × Unit {0})). ‵ (fsep ftrue (fsep ftrue ftrue)) ⊛ (raw (fact 𝓤 (r.value ≡ x)) ⊛ raw (fact 𝓤 (r.alloc ≡ a))))))) (id⊢ 𝓤 _) $
    await ! tt $ pick ! (λ r. split ! $ move ! (1 ∷ []) $ pick ! (λ _. split3 ! $ drop ! $ heard ! (r.value ≡ x) (λ same. drop ! $ split ! $ move ! (1 ∷ []) $
    box_out E ! r (u ∷ []) (λ b' o' hw e' u_is fw. box_in E ! r b' o' r.value e' refl $ rewrite ! 0 (λ (us : List Val). ‵ ((box.B E).own_val r us)) (sym u_is) refl $
    let typed : Holds (has_ty (box.box_ty E) u) × WT u = subst (λ (s : Val). Holds (has_ty (box.box_ty E) s) × WT s) (sym (ap only u_is)) (box.box_typed E hw b' o' fw) in
    lands_last ! refl typed $ exec ! 𝓣.C 𝓣.Λ (env fn.locals l) (after 2 fn.body) (at_ret (env fn.locals l) (W.post y)) $
    sets ! (of_opd ! (get ! refl)) refl typed $ returns ! (look_at ! 0 refl) $ free_all ! refl $
    suffices ! _ (ends_at 𝓛 ended stayed c y u r (tt, (tt, tt)) (tt, (tt, tt))) $ says ! same $
    move ! (1 ∷ []) $ split3 ! $ use2 𝓛 (‵ (flft κ q)) (𝓛.lfts.lft_join κ q) $ join ! $
    nothing ! $ nothing ! $ fjoin ! $ nothing ! $ fjoin ! $ move ! (0 ∷ 2 ∷ []) $ join ! $ move ! (1 ∷ 0 ∷ []) $ join ! $ done !))))))))))
