-- `of` moves the pointer, and what is behind it goes with it.
use mathlib.Core.Path.{refl}
use mathlib.Core.List.{List, [], ◌∷◌, ◌++◌}
use mir.Val.{Val}
use prog.Wp.{WpFn}
use base.Fml.{ftrue, fsep}
use contract.Running.{tables}
use types.Kit.{‵, prop, ◌⊛◌, ◌$◌, ◌∵◌, !, qed, move, drop, split, join, fsplit, regoal, suffices, done}
use types.Part.{agg, whole, sub}
use types.Run.{enter, of_opd, and_then, no_more, stop, fld, returns}
use types.ByLocal.{alloc_all, pass_all, free_all, look_at, get, get_in, sets}
use denote.Exit.{yes}
use denote.RattleType.{RattleType}
use denote.RawPtr.{block_ptr}
use denote.Signature.{plain}
use denote.Steps.{nothing}
use denote.Triple.Walked.{Stays, walk_of, says, stay_dropped, Goes-dropped, ends_at}
use Rattle.std.specs.Prelude.{Some}
use Rattle.std.proofs.raw_atomic.Walks.{proved_at}
use Rattle.purvilgo_c.specs.declared.handle.Handle.{Handle}
use Rattle.c_values.specs.contracts.registry.Registry as Registry
use Rattle.purvilgo_c.specs.contracts.bare.Bare as Bare
use Rattle.purvilgo_c.specs.contracts.handle.Handle.of as f
use Rattle.purvilgo_c.proofs.Handles.{word, bare_out, handle_in}
use Rattle.purvilgo_c.proofs.handle.Handle.of.Statement.{statement}
use Rattle.purvilgo_c.proofs.handle.Handle.of.Code as code

abbrev From : RattleType
From = Bare.the_row Registry.the_row

abbrev stayed : Stays f.ended.signature.params f.ended.kept
stayed = (stay_dropped (plain (λ _. From)) yes, tt)

pub of_spec : {M : Type 1} → statement M
of_spec 𝓤 𝓛 𝓜 𝓡 wired =
    let c = f.clauses 𝓛 𝓜.mem 𝓡.returns in let W = walk_of 𝓛 f.ended stayed c in let 𝓣 = tables 𝓤 𝓛.H 𝓜 𝓡 𝓡.env in
    proved_at 𝓛 f.ended stayed c 𝓜 𝓡 (Goes-dropped 𝓛 0 (plain (λ _. From)) yes (λ κs x w. refl), tt)
    f.Key.name code.function (code.unfolded 𝓤 𝓛.H 𝓜 𝓡 wired) (λ y are.
    let bare = y.0.3.0 in
    qed 𝓛 ((‵ ftrue ⊛ ‵ (fsep (From.own_val bare y.0.4.0) ftrue)) ∷ ‵ ftrue ∷ []) ∵
    split ! $ drop ! $ fsplit ! $ bare_out Registry.the_row ! bare y.0.4.0 (λ b o e is.
    let made : Handle = record { at = block_ptr b o; held = Some bare.value } in
    move ! (1 ∷ 2 ∷ []) $ drop ! $ drop ! $
    regoal ! (λ (ws : List Val). prop (WpFn 𝓤 𝓛.H 𝓣.C 𝓣.Λ code.function (ws ++ []) (W.post y))) is refl $
    enter ! _ _ _ _ _ $ alloc_all ! (λ l. pass_all ! refl ((tt, (tt, tt)), tt) $
    sets ! (of_opd ! (get_in ! (fld ! refl (stop !)) (sub ! 0 refl (whole !)))) refl (tt, tt) $
    sets ! (of_opd ! (get ! refl)) refl (tt, tt) $
    sets ! (agg ! (and_then ! (get ! refl) (no_more !))) refl (tt, (tt, tt)) $
    returns ! (look_at ! 0 refl) $ free_all ! refl $ handle_in ! made $
    suffices ! _ (ends_at 𝓛 f.ended stayed c y (word (block_ptr b o)) made (tt, tt) (tt, tt)) $ says ! refl $
    nothing ! $ nothing ! $ join ! $ nothing ! $ done !)))
