use Rattle.std.proofs.Common.{◌≡◌, ◌∙◌, ◌-◌, ◌∷◌, ◌++◌, ℕ, Bool, List, [], true, false, ap, sym, refl, drop, bytes_eq, Bor}
use Rattle.std.specs.Prelude.{map, not}
use Rattle.std.specs.List.{list_any}
use Rattle.run_options.specs.ListFault.{is_repeated}
use Rattle.run_options.proofs.FileLists.{repeated_in, names_before, insert_new, known_more}
use Rattle.run_options.proofs.lists.set_of.Goals as goal

turned : (a b : Bool) → a ≡ not b → b ≡ not a
turned a true e = sym (ap not e)
turned a false e = sym (ap not e)

pub returns-then-not-branch : goal.returns-then-not-branch
returns-then-not-branch c =
    let files : List (Bor (List ℕ)) = c.args.files.now in
    let i : ℕ = c.loop-index.index in
    let name : List ℕ = c.as_bytes.result.now in
    let names : List (List ℕ) = map (λ file. file.now) (drop i files) in
    let before : map (λ file. file.now) (drop (i - 1) files) ≡ name ∷ names =
    names_before files i (record { ref_ptr = (0, 0); now = [] }) c.loop-index-test.true c.loop-index.auto.index ∙ ap (λ (n : List ℕ). n ∷ names) (sym c.as_bytes.ensures.value) in
    let known : list_any (bytes_eq name) names ≡ true =
    sym (c.loop-index.invariant.same (bytes_eq name)) ∙ turned c.in_ok-insert.field-0 _ c.in_ok-insert.ensures.added ∙ ap not c.if-not-branch.true in
    let here : is_repeated (name ∷ names) ≡ true = rw known refl in
    repeated_in files (i - 1) (rw before here)

pub loop-index-preserved : goal.loop-index-preserved
loop-index-preserved c =
    let files : List (Bor (List ℕ)) = c.args.files.now in
    let i : ℕ = c.loop-index.index in
    let key : Bor (List ℕ) = c.as_bytes.result in
    let names : List (List ℕ) = map (λ file. file.now) (drop i files) in
    let before : map (λ file. file.now) (drop (i - 1) files) ≡ key.now ∷ names =
    names_before files i (record { ref_ptr = (0, 0); now = [] }) c.loop-index-test.true c.loop-index.auto.index ∙ ap (λ (n : List ℕ). n ∷ names) (sym c.as_bytes.ensures.value) in
    let absent : list_any (λ other. bytes_eq key.now other.now) c.loop-index.names.keys ≡ false =
    turned c.in_ok-insert.field-0 _ c.in_ok-insert.ensures.added ∙ ap not c.if-not-branch.false in
    let other : list_any (bytes_eq key.now) names ≡ false = sym (c.loop-index.invariant.same (bytes_eq key.now)) ∙ absent in
    let keys : c.insert.new.self.keys ≡ c.loop-index.names.keys ++ key ∷ [] = c.in_ok-insert.ensures.keys ∙ insert_new c.loop-index.names.keys key absent in
    rw (before, keys) (record {
      apart = rw (c.loop-index.invariant.apart, other) refl;
      same = known_more c.loop-index.names.keys key names c.loop-index.invariant.same;
    })
