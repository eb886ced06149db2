-- What a `&` to a refusing allocator shows, and the call that counts a request, as a step of a walk. Assumes `Logic`.
--     within_at, count_at     where the allocator within lies, and the count
--     shows_both              whoever has a `&` to a refusing allocator has one to the allocator within, and one to its count
--     counted                 a request is counted: the answer is one of two
use Rattle.failing_alloc.specs.contracts.allocator.FailingAlloc as whole
use Rattle.failing_alloc.specs.contracts.allocator.Requests as count
use Rattle.failing_alloc.specs.contracts.allocator.Requests.refuses as counting
use Rattle.std.proofs.Common.{◌≡◌, ℕ, ◌+◌, Bool, List, [], ◌∷◌, refl, ap}
use Rattle.std.proofs.alloc.Calls.{Al, α, seen}
use base.Fml.{Lft, Share, Fml, ftrue, fsep, flft}
use base.Logic.{SProp, ent, sep, id⊢}
use contract.Monad.{Fun}
use denote.Builtin.{bool}
use denote.Memory.{hidden_shr}
use denote.Opens.{unhide}
use denote.Param.{param}
use denote.Steps.{nothing, only}
use denote.Triple.Call.{calls_at}
use denote.Triple.Spec.{triple_of}
use denote.Triple.Statement.{Contract, Triple}
use mir.Syntax.{Place, Body, Opd as Operand, seq, call}
use mir.Val.{Val, vptr, vbool}
use prog.Memory.{Memory, size, align, up}
use prog.Routine.{Routine}
use prog.Wp.{Env, Calls, Loops}
use seplogic.Ra.Ura.{Ura}
use sound.WpLaws.{FmC}
use types.Kit.{Item, ‵, raw, ◌⊛◌, some, later, ◌$◌, ◌∵◌, !, Post, Seq, runs, lands, qed, done, drop, move, keep, use1, use2, split, join, fsplit, fjoin, feq_i, feq_l, pick, await}
use types.Logic.{Logic, sem}
use types.Run.{Opds}

abbrev pub seen_count : Lft → ℕ × ℕ → count.the_row.Denot → Fml
seen_count κ p n = hidden_shr count.the_row κ n p.0 p.1

module _ (Z : Al) where
  abbrev pub within_at : ℕ → ℕ → ℕ × ℕ
  within_at b o = (b, o + up (align (α Z)) 0)

  abbrev pub count_at : ℕ → ℕ → ℕ × ℕ
  count_at b o = (b, o + up 8 (up (align (α Z)) 0 + size (α Z)))

  module _ {M : Type 1} {𝓤 : Ura M} (𝓛 : Logic 𝓤) (κ : Lft) (r : (whole.the_row Z.row).Denot) (b o : ℕ) where
    pub shows_both : ent 𝓤 (sem 𝓛 (hidden_shr (whole.the_row (param 0 Z.row)) κ r b o)) (sep 𝓤 (sem 𝓛 (seen Z κ (within_at b o) r.within)) (sem 𝓛 (seen_count κ (count_at b o) r.requests)))
    shows_both =
        qed 𝓛 (‵ (hidden_shr (whole.the_row (param 0 Z.row)) κ r b o) ∷ []) ∵ unhide ! $ fsplit ! $ fsplit ! $
        use1 𝓛 (‵ (seen Z κ (within_at b o) r.within)) (id⊢ 𝓤 _) $ move ! (1 ∷ []) $ fsplit ! $
        use1 𝓛 (‵ (seen_count κ (count_at b o) r.requests)) (id⊢ 𝓤 _) $ keep ! (2 ∷ 0 ∷ []) $ done !

module _ {M : Type 1} {𝓤 : Ura M} (𝓛 : Logic 𝓤) (at_mem : Memory → SProp 𝓤) (run : Routine → Fun 𝓤) where
  abbrev pub Counts : Contract 𝓤
  Counts = triple_of 𝓛 counting.signature (counting.spec 𝓛 at_mem run)

  abbrev pub at_count : Lft → Share → ℕ × ℕ → count.the_row.Denot → Counts.Ghost
  at_count κ s p n = (((κ, tt), (s, tt), tt, (record { ref_ptr = p; now = n }, tt), (vptr p.0 p.1 ∷ [], tt)), tt)

module _ {M : Type 1} {𝓤 : Ura M} {𝓛 : Logic 𝓤} {K : Type 0} {Γ : List (Item 𝓤)} {E : Env 𝓤 𝓛.H} {C : Calls 𝓤 𝓛.H} {Λ : Loops 𝓤 𝓛.H} {q : Post 𝓤 𝓛.H} {d : Place} {rest : Body} {xs : List Operand} where
  open 𝓛 use {H}

  module _ (at_mem : Memory → SProp 𝓤) (run : Routine → Fun 𝓤) (κ : Lft) (s : Share) (p : ℕ × ℕ) (n : count.the_row.Denot) where
    -- [the count; the token of its lifetime]
    pub counted : K → FmC 𝓤 H 𝓛.laws C → Triple 𝓤 (C counting.Key.name) (Counts 𝓛 at_mem run)
        → Opds K 𝓛 (raw ((Counts 𝓛 at_mem run).pre (at_count 𝓛 at_mem run κ s p n)) ∷ Γ) E xs ((Counts 𝓛 at_mem run).args (at_count 𝓛 at_mem run κ s p n))
        → ((y : Bool) (v : Val) → v ≡ vbool y → Seq K 𝓛 (‵ (flft κ s) ∷ Γ) (lands C Λ E d v rest q))
        → Seq K 𝓛 (‵ (seen_count κ p n) ∷ ‵ (flft κ s) ∷ Γ) (runs C Λ E (seq (call counting.Key.name xs d) rest) q)
    counted t fm met os next =
        use2 𝓛 (raw ((Counts 𝓛 at_mem run).pre (at_count 𝓛 at_mem run κ s p n)))
        (qed 𝓛 (‵ (seen_count κ p n) ∷ ‵ (flft κ s) ∷ []) ∵
        feq_i ! (List Val) (vptr p.0 p.1 ∷ []) (vptr p.0 p.1 ∷ []) refl $ fjoin ! $ nothing ! $ move ! (1 ∷ 0 ∷ []) $ fjoin ! $
        nothing ! $ move ! (2 ∷ 0 ∷ 1 ∷ []) $ join ! $ join ! $ nothing ! $ move ! (1 ∷ 0 ∷ []) $ join ! $ done !) $
        calls_at t fm (Counts 𝓛 at_mem run) met (at_count 𝓛 at_mem run κ s p n) os (λ v.
        use1 𝓛 (later (some (λ (y : Bool). ((‵ (flft κ s) ⊛ ‵ ftrue) ⊛ ‵ (bool.own_val y (v ∷ []))) ⊛
        some (λ (ws : Unit {0} × Unit {0}). ‵ (fsep ftrue ftrue) ⊛ ‵ ftrue)))) (id⊢ 𝓤 _) $
        await t tt $ pick t (λ y. split t $ move t (1 ∷ []) $ drop t $ split t $ move t (1 ∷ []) $ feq_l t (λ is. split t $ move t (1 ∷ []) $ drop t $ next y v (ap only is))))
