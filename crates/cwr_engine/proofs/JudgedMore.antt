-- One transaction more is judged, and at last all of a file.
use Rattle.std.proofs.Common.{◌≡◌, ◌∙◌, ℕ, List, [], ◌∷◌, ◌++◌, Option, map, ap, sym, refl}
use Rattle.cwr_record.specs.declared.control.Header.{Header}
use Rattle.cwr_grammar.specs.RawParts.{RawParts}
use Rattle.cwr_grammar.specs.Visiting.{WasGiven}
use Rattle.cwr_rules.specs.Calls.{call_of}
use Rattle.cwr_engine.specs.Judged.{JudgedValue, WasJudged, judged_of}
use Rattle.cwr_engine.specs.CallCollector.{HasCollected}

map_more : {X Y : Type 0} (f : X → Y) (xs : List X) (x : X) → map f (xs ++ x ∷ []) ≡ map f xs ++ f x ∷ []
map_more f [] x = refl
map_more f (y ∷ xs) x = ap (λ l. f y ∷ l) (map_more f xs x)

pub judged_more : (submitter : List ℕ) (judged next : List JudgedValue) (whole : List RawParts) (t : RawParts) (now : JudgedValue)
    → HasCollected submitter judged whole → now.group ≡ t.group → now.sequence ≡ t.sequence → now.call ≡ call_of submitter t
    → next ≡ judged ++ now ∷ [] → HasCollected submitter next (whole ++ t ∷ [])
judged_more submitter judged next whole t now so_far group sequence call is =
    let now_is : now ≡ judged_of submitter t = λ i. record { group = group i; sequence = sequence i; call = call i } in
    record {
      clean = so_far.clean;
      judged_are = is ∙ ((λ i. so_far.judged_are i ++ now_is i ∷ []) ∙ sym (map_more (judged_of submitter) whole t));
    }

pub judged_whole : (K : Option Header → List RawParts → Option RawParts → Type 0) (text : List ℕ) (head : Header) (groups records : ℕ) (submitter : List ℕ) (judged : List JudgedValue)
    (was : WasGiven K text head groups records) → submitter ≡ head.sender → HasCollected submitter judged was.transactions → WasJudged text head judged
judged_whole K text head groups records submitter judged was sender so_far = record {
  file = was.file;
  transactions = was.transactions;
  formed = was.formed;
  header = was.submission.header;
  found = was.submission.transactions;
  are = record { judged_are = so_far.judged_are ∙ ap (λ (s : List ℕ). map (judged_of s) was.transactions) sender; bounds = was.bounds };
}
