-- `into_bare` asks whether the pointer is null: if so nothing is behind it, else what was there goes with it.
use mathlib.Core.Path.{◌≡◌, refl, sym}
use mathlib.Core.List.{List, [], ◌∷◌, ◌++◌}
use lib.Dec.{lit<}
use seplogic.Ra.Ura.{Ura}
use mir.Raw.{raw as lain}
use mir.Val.{Val, of_list}
use base.Logic.{SProp, guard_i}
use base.Fml.{Fml, ftrue, fsep}
use prog.Model.{Model}
use prog.Wp.{WpFn}
use types.Logic.{Logic, sem}
use contract.Monad.{fact_use}
use contract.Running.{Running, MachineTables, tables}
use types.Kit.{Sq, ‵, prop, at_ret, given, ◌⊛◌, ◌$◌, ◌∵◌, !, qed, move, drop, use0, use1, learn, split, join, fsplit, fjoin, feq_l, regoal, suffices, done}
use types.Match.{live}
use types.Part.{agg, whole, sub}
use types.Run.{enter, of_opd, lit, bin, and_then, no_more, stop, fld, first, branches, skips, exec, returns, returns_within}
use types.ByLocal.{alloc_all, pass_all, free_all, look_at, get, get_in, sets, env}
use denote.Exit.{yes}
use denote.Memory.{lone}
use denote.RattleType.{RattleType}
use denote.RawPtr.{Ptr, block_ptr, null_ptr, Testable, tests_null, in_a_block}
use denote.Signature.{plain}
use denote.Steps.{nothing}
use denote.Triple.Walked.{Stays, walk_of, says, stay_dropped, Goes-dropped, ends_at}
use base.Logic.{never, fst∗}
use Rattle.std.specs.Prelude.{Some, None}
use Rattle.core.specs.declared.option.Option as option
use Rattle.core.specs.contracts.option.Option as Option
use Rattle.std.proofs.raw_atomic.Walks.{proved_at}
use Rattle.std.proofs.GlobalToken.{dealloc_token-Testable}
use Rattle.core.proofs.option.Made.{Some-of, none_of}
use Rattle.purvilgo_c.specs.Ownership.{owns_boxed, owns_held, frees}
use Rattle.purvilgo_c.specs.declared.bare.Bare as declared
use Rattle.c_values.specs.RegistryValue.{RegistryValue}
use Rattle.c_values.specs.contracts.registry.Registry as Registry
use Rattle.purvilgo_c.specs.contracts.bare.Bare as Bare
use Rattle.purvilgo_c.specs.contracts.handle.Handle as Handle
use Rattle.purvilgo_c.specs.contracts.handle.Handle.into_bare as f
use Rattle.purvilgo_c.proofs.Handles.{word, handle_out, bare_in}
use Rattle.purvilgo_c.proofs.handle.Handle.into_bare.Statement.{statement}
use Rattle.purvilgo_c.proofs.handle.Handle.into_bare.Code as code

abbrev R : RattleType
R = Registry.the_row

abbrev stayed : Stays f.ended.signature.params f.ended.kept
stayed = (stay_dropped (plain (λ _. Handle.the_row)) yes, tt)

module _ {M : Type 1} {𝓤 : Ura M} (𝓛 : Logic 𝓤) (𝓜 : Model 𝓤 𝓛.H) (𝓡 : Running 𝓤 𝓛.H 𝓜) where
  abbrev 𝓣 : MachineTables 𝓤 𝓛.H 𝓜
  𝓣 = tables 𝓤 𝓛.H 𝓜 𝓡 𝓡.env

  abbrev Ghost : Type 0
  Ghost = (walk_of 𝓛 f.ended stayed (f.clauses 𝓛 𝓜.mem 𝓡.returns)).Ghost

  abbrev post : Ghost → Val → SProp 𝓤
  post = (walk_of 𝓛 f.ended stayed (f.clauses 𝓛 𝓜.mem 𝓡.returns)).post

  opened : (y : Ghost) (p : Ptr) (held : option.Option RegistryValue) → y.0.3.0.held ≡ held
      → Sq 𝓛 (‵ (owns_held p held) ∷ []) (prop (WpFn 𝓤 𝓛.H 𝓣.C 𝓣.Λ code.function (word p ∷ []) (post y)))
  opened y p None is =
      feq_l ! (λ e. regoal ! (λ (q : Ptr). prop (WpFn 𝓤 𝓛.H 𝓣.C 𝓣.Λ code.function (word q ∷ []) (post y))) e refl $
      enter ! _ _ _ _ _ $ alloc_all ! (λ l. pass_all ! refl ((tt, (record { fits = lit< tt }, tt)), tt) $
      sets ! (of_opd ! (get_in ! (fld ! refl (stop !)) (sub ! 0 refl (whole !)))) refl (tt, record { fits = lit< tt }) $
      sets ! (bin ! (get ! refl) (lit ! tt) (tests_null null_ptr (lit< tt))) refl (tt, tt) $
      first ! $ branches ! (get ! refl)
      (λ t. sets ! (agg ! (and_then ! (lit ! tt) (no_more !))) refl (tt, (record { fits = lit< tt }, tt)) $
      returns_within ! (post y) refl (look_at ! 0 refl) $ free_all ! refl $
      use0 𝓛 (‵ ((Option.the_row (Bare.the_row R)).own_val None (live 0 (of_list []) ∷ []))) (none_of 𝓛 (Bare.the_row R)) $
      suffices ! _ (ends_at 𝓛 f.ended stayed (f.clauses 𝓛 𝓜.mem 𝓡.returns) y (live 0 (of_list [])) None (tt, tt) (tt, tt)) $ says ! (sym is) $
      nothing ! $ nothing ! $ join ! $ nothing ! $ done !)
      (λ t. absurd t)))
  opened y p (Some d) is =
      in_a_block ! p (λ q. owns_boxed R q d) (fst∗ 𝓤 (never 𝓤) (sem 𝓛 (frees (lain (lone R.mir)) null_ptr))) (λ b o e.
      let at : Ptr = block_ptr b o in
      let made : declared.Bare RegistryValue = record { at = at; value = d } in
      let tested : Fml = frees (lain (lone R.mir)) at in
      regoal ! (λ (q : Ptr). prop (WpFn 𝓤 𝓛.H 𝓣.C 𝓣.Λ code.function (word q ∷ []) (post y))) e refl $
      fsplit ! $ move ! (1 ∷ []) $
      use1 𝓛 (given (Testable at) (‵ tested)) (fact_use 𝓤 (Testable at) (dealloc_token-Testable 𝓛 (record { memory = record { seal = tt } }) (lain (lone R.mir)) at) (λ may. guard_i 𝓤 (Testable at) (sem 𝓛 tested) may)) $ learn ! (λ may.
      move ! (1 ∷ []) $ fjoin ! $
      enter ! _ _ _ _ _ $ alloc_all ! (λ l. pass_all ! refl ((tt, (tt, tt)), tt) $
      sets ! (of_opd ! (get_in ! (fld ! refl (stop !)) (sub ! 0 refl (whole !)))) refl (tt, tt) $
      sets ! (bin ! (get ! refl) (lit ! tt) (tests_null at may)) refl (tt, tt) $
      first ! $ branches ! (get ! refl)
      (λ t. absurd t)
      (λ t. skips ! $ exec ! 𝓣.C 𝓣.Λ (env code.Mir.locals l) code.Mir.t-4 (at_ret _ (post y)) $
      sets ! (of_opd ! (get ! refl)) refl (tt, tt) $
      sets ! (agg ! (and_then ! (get ! refl) (no_more !))) refl (tt, (tt, tt)) $
      sets ! (agg ! (and_then ! (lit ! tt) (and_then ! (get ! refl) (no_more !)))) refl (tt, (record { fits = lit< tt }, ((tt, tt), tt))) $
      returns ! (look_at ! 0 refl) $ free_all ! refl $ bare_in R ! b o d $
      use1 𝓛 (‵ ((Option.the_row (Bare.the_row R)).own_val (Some made) (live 1 (of_list (word at ∷ [])) ∷ []))) (Some-of 𝓛 (Bare.the_row R) made (word at)) $
      suffices ! _ (ends_at 𝓛 f.ended stayed (f.clauses 𝓛 𝓜.mem 𝓡.returns) y (live 1 (of_list (word at ∷ []))) (Some made) (tt, tt) (tt, tt)) $ says ! (sym is) $
      nothing ! $ nothing ! $ join ! $ nothing ! $ done !))))

pub into_bare_spec : {M : Type 1} → statement M
into_bare_spec 𝓤 𝓛 𝓜 𝓡 wired =
    proved_at 𝓛 f.ended stayed (f.clauses 𝓛 𝓜.mem 𝓡.returns) 𝓜 𝓡 (Goes-dropped 𝓛 0 (plain (λ _. Handle.the_row)) yes (λ κs x w. refl), tt)
    f.Key.name code.function (code.unfolded 𝓤 𝓛.H 𝓜 𝓡 wired) (λ y are.
    let h = y.0.3.0 in
    qed 𝓛 ((‵ ftrue ⊛ ‵ (fsep (Handle.the_row.own_val h y.0.4.0) ftrue)) ∷ ‵ ftrue ∷ []) ∵
    split ! $ drop ! $ fsplit ! $ handle_out ! h y.0.4.0 (λ vs_are.
    move ! (1 ∷ 2 ∷ []) $ drop ! $ drop ! $
    regoal ! (λ (ws : List Val). prop (WpFn 𝓤 𝓛.H (𝓣 𝓛 𝓜 𝓡).C (𝓣 𝓛 𝓜 𝓡).Λ code.function (ws ++ []) (post 𝓛 𝓜 𝓡 y))) vs_are refl $
    opened 𝓛 𝓜 𝓡 y h.at h.held refl))
