-- `shut` makes a null pointer, which owns nothing.
use mathlib.Core.Path.{refl}
use mathlib.Core.List.{[], ◌∷◌}
use Rattle.std.specs.Prelude.{None}
use lib.Dec.{lit<}
use base.Fml.{ftrue}
use types.Kit.{‵, raw, ◌$◌, ◌∵◌, !, qed, drop, feq_i, suffices, done}
use types.Part.{agg}
use types.Run.{enter, lit, and_then, no_more, returns}
use types.ByLocal.{alloc_all, pass_all, free_all, look_at, sets}
use contract.Running.{tables}
use denote.RawPtr.{Ptr, null_ptr}
use denote.Steps.{nothing}
use denote.Triple.Entry.{on_entry}
use denote.Triple.Walked.{Stays, walk_of, says, ends_at}
use Rattle.std.proofs.raw_atomic.Walks.{proved}
use Rattle.purvilgo_c.specs.contracts.handle.Handle.shut as f
use Rattle.purvilgo_c.specs.declared.handle.Handle.{Handle}
use Rattle.purvilgo_c.proofs.Handles.{word, handle_in}
use Rattle.purvilgo_c.proofs.handle.Handle.shut.Statement.{statement}
use Rattle.purvilgo_c.proofs.handle.Handle.shut.Code as code

abbrev stayed : Stays f.ended.signature.params f.ended.kept
stayed = tt

pub shut_spec : {M : Type 1} → statement M
shut_spec 𝓤 𝓛 𝓜 𝓡 wired =
    let c = f.clauses 𝓛 𝓜.mem 𝓡.returns in let W = walk_of 𝓛 f.ended stayed c in let 𝓣 = tables 𝓤 𝓛.H 𝓜 𝓡 𝓡.env in
    proved 𝓛 f.ended stayed c 𝓜 𝓡 tt
    f.Key.name code.function (code.unfolded 𝓤 𝓛.H 𝓜 𝓡 wired)
    (λ κs. tt) (λ κs. tt) (λ κs qs bounds a n are.
    let y : W.Ghost = ((κs, qs, bounds, a, tt), tt) in
    let made : Handle = record { at = null_ptr; held = None } in
    qed 𝓛 (raw (on_entry 𝓛 f.signature κs qs a tt) ∷ ‵ ftrue ∷ []) ∵ drop ! $ drop ! $
    enter ! _ _ _ _ _ $ alloc_all ! (λ l. pass_all ! refl tt $
    sets ! (agg ! (and_then ! (lit ! tt) (no_more !))) refl (tt, (record { fits = lit< tt }, tt)) $
    returns ! (look_at ! 0 refl) $ free_all ! refl $
    feq_i ! Ptr null_ptr null_ptr refl $ handle_in ! made $
    suffices ! _ (ends_at 𝓛 f.ended stayed c y (word null_ptr) made tt tt) $ says ! refl $
    nothing ! $ nothing ! $ done !))
