-- The allocator within, at its two calls, as steps of a walk. What comes of a block is what the allocator within says of it. Assumes `Logic`.
--     Block                    what the caller says of a block's size and alignment, as numbers
--     Reply, reply_val         one of the two answers to a request; its value in the machine
--     reply_owns               what comes with it: with a block its memory, and the right to give it back
--     asked                    the allocator within is asked for a block, and answers
--     returned                 it gets a block back
use Rattle.std.proofs.Common.{◌≡◌, ℕ, ◌<◌, ◌^◌, Bool, List, ◌∷◌}
use Rattle.std.proofs.alloc.Calls.{Al, seen, token, got, answer_val, takes_key, gives_key, Takes, Gives, at_takes, at_gives, Takes-goes, Takes-gives, Gives-goes, Gives-Gives}
use base.Fml.{Lft, Share, Fml, flft, froom}
use base.Logic.{SProp}
use contract.BorrowLft.{◌⊑◌}
use contract.Monad.{Fun}
use denote.RawPtr.{block_ptr}
use denote.Triple.Call.{calls_at}
use denote.Triple.Statement.{Triple}
use mir.Syntax.{Ty, Place, Body, Opd as Operand, seq, call}
use mir.Val.{Val, vunit}
use prog.Memory.{Memory, size, align, capped}
use prog.Routine.{Routine}
use prog.Wp.{Env, Calls, Loops}
use seplogic.Ra.Ura.{Ura}
use sound.WpLaws.{FmC}
use types.Kit.{Item, ‵, raw, ◌⊛◌, some, later, given, ◌$◌, Post, Seq, runs, lands, use1, use2, split, pick, learn, await}
use types.Logic.{Logic}
use types.Run.{Opds}

pub record Block (τ : Ty) (n a : ℕ) : Type 0 where
  pub is_size : capped (size τ) ≡ n
  pub is_align : capped (align τ) ≡ a
  pub size_fits : n < 2 ^ 64
  pub align_fits : a < 2 ^ 64

abbrev pub Reply : Type 0
Reply = Bool × (ℕ × ℕ)

abbrev pub reply_val : Reply → Val
reply_val c = answer_val c.0 c.1.0 c.1.1

abbrev pub reply_owns : (Z : Al) → Z.row.Denot → Ty → Reply → Fml
reply_owns Z h τ c = got (token Z h) τ c.0 c.1.0 c.1.1

module _ (Z : Al) {M : Type 1} {𝓤 : Ura M} {𝓛 : Logic 𝓤} {K : Type 0} {Γ : List (Item 𝓤)} {E : Env 𝓤 𝓛.H} {C : Calls 𝓤 𝓛.H} {Λ : Loops 𝓤 𝓛.H} {q : Post 𝓤 𝓛.H} {d : Place} {rest : Body} {xs : List Operand} where
  open 𝓛 use {H}

  module _ (at_mem : Memory → SProp 𝓤) (run : Routine → Fun 𝓤) (κ : Lft) (s : Share) (p : ℕ × ℕ) (h : Z.row.Denot) (n a : ℕ) (τ : Ty) where
    -- [the allocator within; the token of its lifetime]
    pub asked : K → FmC 𝓤 H 𝓛.laws C → Triple 𝓤 (C (takes_key Z)) (Takes Z 𝓛 at_mem run) → κ ⊑ Z.row.lives → Block τ n a
        → Opds K 𝓛 (raw ((Takes Z 𝓛 at_mem run).pre (at_takes Z 𝓛 at_mem run κ s p h n a τ)) ∷ Γ) E xs ((Takes Z 𝓛 at_mem run).args (at_takes Z 𝓛 at_mem run κ s p h n a τ))
        → ((c : Reply) (v : Val) → v ≡ reply_val c → Seq K 𝓛 (‵ (reply_owns Z h τ c) ∷ ‵ (flft κ s) ∷ Γ) (lands C Λ E d v rest q))
        → Seq K 𝓛 (‵ (seen Z κ p h) ∷ ‵ (flft κ s) ∷ Γ) (runs C Λ E (seq (call (takes_key Z) xs d) rest) q)
    asked t fm met le w os next =
        use2 𝓛 (raw ((Takes Z 𝓛 at_mem run).pre (at_takes Z 𝓛 at_mem run κ s p h n a τ))) (Takes-goes Z 𝓛 at_mem run κ s p h le n a τ w.is_size w.is_align w.size_fits w.align_fits) $
        calls_at t fm (Takes Z 𝓛 at_mem run) met (at_takes Z 𝓛 at_mem run κ s p h n a τ) os (λ v.
        use1 𝓛 (later (some (λ (c : Reply). given (v ≡ reply_val c) (‵ (reply_owns Z h τ c))) ⊛ ‵ (flft κ s))) (Takes-gives Z 𝓛 at_mem run κ s p h n a τ v) $
        await t tt $ split t $ pick t (λ c. learn t (λ is. next c v is)))

    -- [the block's memory and the right to give it back; the allocator within; the token of its lifetime]
    pub returned : K → FmC 𝓤 H 𝓛.laws C → Triple 𝓤 (C (gives_key Z)) (Gives Z 𝓛 at_mem run) → κ ⊑ Z.row.lives → Block τ n a → (b o : ℕ)
        → Opds K 𝓛 (raw ((Gives Z 𝓛 at_mem run).pre (at_gives Z 𝓛 at_mem run κ s p h b o n a τ)) ∷ Γ) E xs ((Gives Z 𝓛 at_mem run).args (at_gives Z 𝓛 at_mem run κ s p h b o n a τ))
        → ((v : Val) → v ≡ vunit → Seq K 𝓛 (‵ (flft κ s) ∷ Γ) (lands C Λ E d v rest q))
        → Seq K 𝓛 ((‵ (froom τ b o) ⊛ ‵ (token Z h τ (block_ptr b o)) ⊛ ‵ (seen Z κ p h) ⊛ ‵ (flft κ s)) ∷ Γ) (runs C Λ E (seq (call (gives_key Z) xs d) rest) q)
    returned t fm met le w b o os next =
        use1 𝓛 (raw ((Gives Z 𝓛 at_mem run).pre (at_gives Z 𝓛 at_mem run κ s p h b o n a τ))) (Gives-goes Z 𝓛 at_mem run κ s p h le b o n a τ w.is_size w.is_align w.size_fits w.align_fits) $
        calls_at t fm (Gives Z 𝓛 at_mem run) met (at_gives Z 𝓛 at_mem run κ s p h b o n a τ) os (λ v.
        use1 𝓛 (later (given (v ≡ vunit) (‵ (flft κ s)))) (Gives-Gives Z 𝓛 at_mem run κ s p h b o n a τ v) $
        await t tt $ learn t (λ is. next v is))
