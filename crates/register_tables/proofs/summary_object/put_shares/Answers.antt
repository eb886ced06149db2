use Rattle.std.proofs.Common.{List, [], ◌∷◌, codes, subst}
use Rattle.work_registry.specs.Rows.{Row, rows_of}
use Rattle.register_tables.specs.declared.shares.Bands.{Bands}
use Rattle.register_tables.specs.JsonValues.{value_tokens, Adds}
use Rattle.register_tables.specs.SummaryJson.{bands_data, right_data}
use Rattle.register_tables.proofs.JsonObjects.{groups, named, object_of, written}
use Rattle.serde_json.specs.Data.{Data}
use Rattle.register_tables.proofs.summary_object.put_shares.Goals as goal

pub returns : goal.returns
returns g c =
    let rows : List Row = rows_of c.args.book.now.history in
    let mechanical : Data = right_data 1 rows in
    let performing : Data = right_data 0 rows in
    let synchronization : Data = right_data 2 rows in
    object_of c.args.out.now c.begin_object.new.self c.put_bands-3.new.out c.end_object.new.self
    ((codes "mechanical", mechanical) ∷ (codes "performing", performing) ∷ (codes "synchronization", synchronization) ∷ [])
    (written c.in_ok-begin_object.ensures.ok c.in_ok-begin_object.ensures.room.0)
    (groups c.begin_object.new.self c.put_bands.new.out c.put_bands-3.new.out ((codes "mechanical", mechanical) ∷ []) ((codes "performing", performing) ∷ (codes "synchronization", synchronization) ∷ [])
    (named c.begin_object.new.self c.key.new.self c.put_bands.new.out (codes "mechanical") mechanical (written c.in_ok-key.ensures.ok c.in_ok-key.ensures.room.0)
    (subst (λ (bands : Bands). Adds c.key.new.self c.put_bands.new.out (value_tokens (bands_data bands))) c.bands_of.ensures c.in_ok-put_bands.ensures))
    (groups c.put_bands.new.out c.put_bands-2.new.out c.put_bands-3.new.out ((codes "performing", performing) ∷ []) ((codes "synchronization", synchronization) ∷ [])
    (named c.put_bands.new.out c.key-2.new.self c.put_bands-2.new.out (codes "performing") performing (written c.in_ok-key-2.ensures.ok c.in_ok-key-2.ensures.room.0)
    (subst (λ (bands : Bands). Adds c.key-2.new.self c.put_bands-2.new.out (value_tokens (bands_data bands))) c.bands_of-2.ensures c.in_ok-put_bands-2.ensures))
    (named c.put_bands-2.new.out c.key-3.new.self c.put_bands-3.new.out (codes "synchronization") synchronization (written c.in_ok-key-3.ensures.ok c.in_ok-key-3.ensures.room.0)
    (subst (λ (bands : Bands). Adds c.key-3.new.self c.put_bands-3.new.out (value_tokens (bands_data bands))) c.bands_of-3.ensures c.in_ok-put_bands-3.ensures))))
    (written c.in_ok-end_object.ensures.ok c.in_ok-end_object.ensures.room.0)
