use Rattle.std.proofs.Common.{ℕ, List, [], ◌∷◌, ◌++◌, codes}
use Rattle.register_tables.specs.declared.tally.Tally.{Tally}
use Rattle.work_registry.specs.Rows.{rows_of}
use Rattle.register_tables.specs.JsonValues.{count_data}
use Rattle.register_tables.specs.SummaryJson.{conflicts_data, shares_data, submitters_data}
use Rattle.register_tables.proofs.JsonObjects.{groups, named, object_of, written}
use Rattle.serde_json.specs.Data.{Data}
use Rattle.register_tables.proofs.summary_object.put_summary_members.Goals as goal

pub returns : goal.returns
returns g c =
    let tally : Tally = c.args.numbers.tally in
    let conflicts : Data = conflicts_data c.args.top.now in
    let left : Data = shares_data (rows_of c.args.book.now.history) in
    let most : Data = submitters_data c.args.most.now in
    let first : List (List ℕ × Data) =
    (codes "accepted", count_data tally.accepted)
    ∷ (codes "conflicts", count_data tally.conflicts)
    ∷ (codes "current_claims", count_data tally.current)
    ∷ (codes "duplicates", count_data tally.duplicates)
    ∷ (codes "entries", count_data c.args.numbers.entries)
    ∷ [] in
    let last : List (List ℕ × Data) =
    (codes "rejected", count_data tally.rejected) ∷ (codes "submitters", count_data c.args.numbers.submitters) ∷ (codes "works", count_data c.args.numbers.works) ∷ [] in
    object_of c.args.out.now c.begin_object.new.self c.put_members-2.new.out c.end_object.new.self
    (first ++ (codes "largest_conflicts", conflicts) ∷ (codes "left", left) ∷ (codes "most_entries", most) ∷ last)
    (written c.in_ok-begin_object.ensures.ok c.in_ok-begin_object.ensures.room.0)
    (groups c.begin_object.new.self c.put_members.new.out c.put_members-2.new.out first ((codes "largest_conflicts", conflicts) ∷ (codes "left", left) ∷ (codes "most_entries", most) ∷ last) c.in_ok-put_members.ensures
    (groups c.put_members.new.out c.put_conflicts.new.out c.put_members-2.new.out ((codes "largest_conflicts", conflicts) ∷ []) ((codes "left", left) ∷ (codes "most_entries", most) ∷ last)
    (named c.put_members.new.out c.key.new.self c.put_conflicts.new.out (codes "largest_conflicts") conflicts (written c.in_ok-key.ensures.ok c.in_ok-key.ensures.room.0) c.in_ok-put_conflicts.ensures)
    (groups c.put_conflicts.new.out c.put_shares.new.out c.put_members-2.new.out ((codes "left", left) ∷ []) ((codes "most_entries", most) ∷ last)
    (named c.put_conflicts.new.out c.key-2.new.self c.put_shares.new.out (codes "left") left (written c.in_ok-key-2.ensures.ok c.in_ok-key-2.ensures.room.0) c.in_ok-put_shares.ensures)
    (groups c.put_shares.new.out c.put_submitters.new.out c.put_members-2.new.out ((codes "most_entries", most) ∷ []) last
    (named c.put_shares.new.out c.key-3.new.self c.put_submitters.new.out (codes "most_entries") most (written c.in_ok-key-3.ensures.ok c.in_ok-key-3.ensures.room.0) c.in_ok-put_submitters.ensures)
    c.in_ok-put_members-2.ensures))))
    (written c.in_ok-end_object.ensures.ok c.in_ok-end_object.ensures.room.0)
