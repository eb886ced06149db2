use Rattle.std.proofs.Common.{◌≡◌, ◌∙◌, ℕ, false, List, [], ◌∷◌, ◌++◌, subst}
use Rattle.std.specs.List.{list_any}
use Rattle.std.specs.Str.{bytes_eq}
use Rattle.register_tables.specs.declared.submitters.SubmitterEntries.{SubmitterEntries}
use Rattle.register_tables.proofs.Noted.{noted-new, at_known, kept_keys, is_true, is_false}
use Rattle.register_tables.proofs.submitters.note.Goals as goal

pub returns-in_ok-push-clause-noted : goal.returns-in_ok-push-clause-noted
returns-in_ok-push-clause-noted g c =
    let cs : List SubmitterEntries = c.args.counts.now.items in
    let s : List ℕ = c.args.submitter in
    let new : list_any (bytes_eq s) c.args.known.now.keys ≡ false = is_false c.in-Ok.is_new (list_any (bytes_eq s) c.args.known.now.keys) c.in-Ok.ensures.added c.if-is_new.true in
    let pushed : c.push.new.self.items ≡ cs ++ record { submitter = s; entries = 1 } ∷ [] = c.in_ok-push.ensures.items in
    pushed
    ∙ noted-new cs s (subst (λ (ks : List (List ℕ)). list_any (bytes_eq s) ks ≡ false) c.requires new)

pub returns-else-is_new-clause-known : goal.returns-else-is_new-clause-known
returns-else-is_new-clause-known g c =
    let known = is_true c.in-Ok.is_new (list_any (bytes_eq c.args.submitter) c.args.known.now.keys) c.in-Ok.ensures.added c.if-is_new.false in
    kept_keys c.args.counts.now.items c.args.known.now.keys c.insert_full.new.self.keys c.args.submitter c.in-Ok.place c.index.result.now c.index_mut.result.now c.counted.result
    c.requires known c.in-Ok.ensures.keys c.in-Ok.ensures.index c.index.ensures c.index_mut.ensures.value c.counted.ensures

pub returns-else-is_new-clause-noted : goal.returns-else-is_new-clause-noted
returns-else-is_new-clause-noted g c =
    let known = is_true c.in-Ok.is_new (list_any (bytes_eq c.args.submitter) c.args.known.now.keys) c.in-Ok.ensures.added c.if-is_new.false in
    at_known c.args.counts.now.items c.args.known.now.keys c.args.submitter c.in-Ok.place c.index.result.now c.index_mut.result.now c.counted.result
    c.requires known c.in-Ok.ensures.index c.index.ensures c.index_mut.ensures.value c.counted.ensures
