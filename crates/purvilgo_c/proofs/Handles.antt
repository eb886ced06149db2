-- A handle and a bare box by value, as a walk takes them apart and makes them. Assumes `Logic`.
--     word, word_typed     the machine value of both, a struct of one pointer
--     handle_out           what is owned of a handle is that value, and what the handle holds.        handle_in      the other way
--     bare_out, bare_in    the same of a bare box, which is never null
use mathlib.Core.Path.{◌≡◌, refl, ◌∙◌, ap}
use mathlib.Core.List.{List, [], ◌∷◌, ◌++◌}
use Prim.Native.Nat.{ℕ}
use seplogic.Ra.Ura.{Ura}
use mir.Val.{Val, vstruct, vcons, vnil, of_list}
use base.Logic.{never, fst∗}
use types.Logic.{Logic, sem}
use types.Kit.{Goal, Step, step, Seq, Item, ‵, ◌$◌, drop, fsplit, fjoin, fpick, fpack, feq_l, feq_i}
use mir.Raw.{raw as bare}
use mir.Syntax.{impl, tcons, tnil, dnil}
use denote.Exit.{no}
use denote.Param.{layout, arg}
use denote.Param.Laws.{Laws, arg_laws}
use denote.Memory.{lone}
use denote.RattleType.{RattleType, Valss}
use denote.RawPtr.{Ptr, RawPtr, block_ptr, null_ptr, ptr_val, in_a_block}
use denote.Steps.{nothing}
use denote.Struct.Struct.{within}
use denote.Struct.Owning.{shape}
use Rattle.std_heap.specs.contracts.Global as Heap
use Rattle.std_heap.specs.contracts.GlobalAllocator.TheImpl.{ghosts, dict}
use Rattle.std_heap.proofs.Global.TheLaws.{the_row_laws as heap_laws}
use Rattle.std_alloc.proofs.BoxSteps.Form.{Bx}
use Rattle.purvilgo_c.specs.declared.handle.Handle.{Handle}
use Rattle.purvilgo_c.specs.declared.bare.Bare.{Bare}
use Rattle.purvilgo_c.specs.contracts.handle.Handle as H
use Rattle.purvilgo_c.specs.contracts.bare.Bare as B
use Rattle.purvilgo_c.specs.Ownership.{owns_boxed, owns_held, frees}

abbrev pub word : Ptr → Val
word p = vstruct (vcons (ptr_val p) vnil)

module _ {M : Type 1} {𝓤 : Ura M} {𝓛 : Logic 𝓤} {K : Type 0} {Γ : List (Item 𝓤)} {G : Goal 𝓤 𝓛.H} where
  pub handle_out : K → (h : Handle) (vs : List Val) → (vs ≡ word h.at ∷ [] → Seq K 𝓛 (‵ (owns_held h.at h.held) ∷ Γ) G) → Seq K 𝓛 (‵ (H.the_row.own_val h vs) ∷ Γ) G
  handle_out t h vs k =
      fsplit t $ fpick t (λ vss. fsplit t $ feq_l t (λ ev. fsplit t $ feq_l t (λ ep. drop t $
      k (ev ∙ ap (λ (ps : List Val). vstruct (of_list (ps ++ [])) ∷ []) ep))))

  pub handle_in : K → (h : Handle) → Step K 𝓛 (‵ (H.the_row.own_val h (word h.at ∷ [])) ∷ Γ) G (‵ (owns_held h.at h.held) ∷ Γ) G
  handle_in t h = step (λ s.
      nothing t $ feq_i t (List Val) (ptr_val h.at ∷ []) (ptr_val h.at ∷ []) refl $ fjoin t $
      feq_i t (List Val) (word h.at ∷ []) (word h.at ∷ []) refl $ fjoin t $
      fpack t (Valss (RawPtr ∷ [])) (within (shape H.the_type) (h.at, tt) (word h.at ∷ [])) (ptr_val h.at ∷ [], tt) $ fjoin t $ s)

module _ (R : RattleType) {M : Type 1} {𝓤 : Ura M} {𝓛 : Logic 𝓤} {K : Type 0} {Γ : List (Item 𝓤)} {G : Goal 𝓤 𝓛.H} where
  pub bare_out : K → (d : Bare R.Denot) (vs : List Val)
      → ((b o : ℕ) → d.at ≡ block_ptr b o → vs ≡ word (block_ptr b o) ∷ [] → Seq K 𝓛 (‵ (owns_boxed R (block_ptr b o) d.value) ∷ Γ) G)
      → Seq K 𝓛 (‵ ((B.the_row R).own_val d vs) ∷ Γ) G
  bare_out t d vs k =
      fsplit t $ fpick t (λ vss. fsplit t $ feq_l t (λ ev. fsplit t $ feq_l t (λ ep. drop t $
      in_a_block t d.at (λ p. owns_boxed R p d.value) (fst∗ 𝓤 (never 𝓤) (sem 𝓛 (frees (bare (lone R.mir)) null_ptr))) (λ b o e.
      k b o e (ev ∙ ap (λ (ps : List Val). vstruct (of_list (ps ++ [])) ∷ []) (ep ∙ ap (λ (p : Ptr). ptr_val p ∷ []) e))))))

  pub bare_in : K → (b o : ℕ) (x : R.Denot)
      → Step K 𝓛 (‵ ((B.the_row R).own_val (record { at = block_ptr b o; value = x }) (word (block_ptr b o) ∷ [])) ∷ Γ) G (‵ (owns_boxed R (block_ptr b o) x) ∷ Γ) G
  bare_in t b o x = step (λ s.
      let p = block_ptr b o in
      nothing t $ feq_i t (List Val) (ptr_val p ∷ []) (ptr_val p ∷ []) refl $ fjoin t $
      feq_i t (List Val) (word p ∷ []) (word p ∷ []) refl $ fjoin t $
      fpack t (Valss (RawPtr ∷ [])) (within (shape (B.the_type R)) (p, tt) (word p ∷ [])) (ptr_val p ∷ [], tt) $ fjoin t $ s)

-- the C library's heap as a type argument, and a box of a type parameter over it, as the walks of a box have both
abbrev pub heap_arg : RattleType
heap_arg = arg (bare (layout Heap.the_row)) no Heap.the_row

abbrev pub heap_arg_laws : Laws heap_arg
heap_arg_laws = arg_laws (bare (layout Heap.the_row)) no Heap.the_row heap_laws refl

module _ (T : RattleType) (L : Laws T) where
  abbrev pub boxed : Bx
  boxed = record { row = T; laws = L; al = record { row = heap_arg; laws = heap_arg_laws; g = ghosts; d = dict; drops = impl ("purvilgo_c::Destruct++none::drop" ∷ []) (tcons (layout heap_arg) tnil) dnil } }
