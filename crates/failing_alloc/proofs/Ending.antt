-- How the two methods end. Assumes `Logic`.
--     blanks, blank      what is left of so many parameters of which nothing is kept; it is made of nothing
--     reply_of           an answer as contracts see it
--     reply_made         the value of an answer is made of nothing
--     owns_as_said       what comes with an answer is what the contract says
--     after              the code after its first n statements
use Prim.Native.Nat.{zero, suc}
use Rattle.failing_alloc.proofs.Within.{Reply, reply_val, reply_owns}
use Rattle.std.proofs.Common.{ℕ, true, false, [], ◌∷◌, Ok, Err}
use Rattle.std.proofs.alloc.Calls.{Al, token, Answer, Answer-Ok, Answer-err}
use Rattle.std.specs.Allocator.{block_if_ok}
use base.Fml.{Fml, ftrue, fsep}
use base.Logic.{ent, sep, emp, via, id⊢, emp∗, mono_r}
use denote.RawPtr.{block_ptr}
use mir.Syntax.{Ty, Body, seq}
use seplogic.Ra.Ura.{Ura}
use types.Logic.{Logic, sem}

abbrev pub blanks : ℕ → Fml
blanks zero = ftrue
blanks (suc n) = fsep ftrue (blanks n)

module _ {M : Type 1} {𝓤 : Ura M} (𝓛 : Logic 𝓤) where
  pub blank : (n : ℕ) → ent 𝓤 (emp 𝓤) (sem 𝓛 (blanks n))
  blank zero = id⊢ 𝓤 (emp 𝓤)
  blank (suc n) = via 𝓤 (sep 𝓤 (emp 𝓤) (emp 𝓤)) (emp∗ 𝓤 (emp 𝓤)) (mono_r 𝓤 (emp 𝓤) (blank n))

abbrev pub reply_of : Reply → Answer.Denot
reply_of (true, p) = Ok (block_ptr p.0 p.1)
reply_of (false, p) = Err (record {})

module _ {M : Type 1} {𝓤 : Ura M} (𝓛 : Logic 𝓤) where
  pub reply_made : (c : Reply) → ent 𝓤 (emp 𝓤) (sem 𝓛 (Answer.own_val (reply_of c) (reply_val c ∷ [])))
  reply_made (true, p) = Answer-Ok 𝓛 p.0 p.1
  reply_made (false, p) = Answer-err 𝓛

  pub owns_as_said : (Z : Al) (h : Z.row.Denot) (τ : Ty) (c : Reply) → ent 𝓤 (sem 𝓛 (reply_owns Z h τ c)) (sem 𝓛 (block_if_ok (token Z h) τ (reply_of c)))
  owns_as_said Z h τ (true, p) = id⊢ 𝓤 _
  owns_as_said Z h τ (false, p) = id⊢ 𝓤 _

abbrev pub after : ℕ → Body → Body
after zero b = b
after (suc n) (seq a b) = after n b
after (suc n) b = b
