use Rattle.std.proofs.Common.{◌≡◌, ◌∙◌, ◌+◌, length, ap, sym, subst, refl}
use Rattle.std.specs.Prelude.{option_and_then}
use Rattle.std.proofs.lemmas.Option.{slice_get_read}
use Rattle.cwr_verify.proofs.Turns.{AreWaitingBelow, all_wait, nobody, none_comes, one_comes}
use Rattle.cwr_verify.specs.Wanting.{next_key, next_of}
use Rattle.cwr_verify.proofs.wanted.waiting_of.Goals as goal
use Rattle.cwr_verify.proofs.wanted.waiting_of.Goals.{in-Some+in_ok-insert, in_default}

pub loop-file-init : goal.loop-file-init
loop-file-init g c = nobody c.args.wanted.now c.new-waiting.result c.new-waiting.ensures.empty

pub loop-file-preserved : goal.loop-file-preserved
loop-file-preserved g c =
    let its : next_of c.args.wanted.now c.loop-file.file ≡ next_key c.index-wanted-file.result =
    ap (option_and_then next_key)
    (slice_get_read c.args.wanted.now (length c.args.wanted.now) c.loop-file.file c.index-wanted-file.result refl c.loop-file-test.true c.index-wanted-file.is) in
    elim c.match-next_key.branch [
      | in-Some+in_ok-insert w ↦
          subst (AreWaitingBelow (c.loop-file.file + 1) c.args.wanted.now) (sym w.waiting-is)
          (one_comes c.loop-file.file c.args.wanted.now c.loop-file.waiting w.insert.new.self w.in-Some.key (its ∙ sym w.in-Some.ensures) w.in_ok-insert.ensures.updates c.loop-file.invariant)
      | in_default w ↦
          subst (AreWaitingBelow (c.loop-file.file + 1) c.args.wanted.now) (sym w.waiting-is)
          (none_comes c.loop-file.file c.args.wanted.now c.loop-file.waiting (its ∙ sym w.in_default.ensures) c.loop-file.invariant)
    ]

pub returns : goal.returns
returns g c = all_wait c.loop-file.file c.args.wanted.now c.loop-file.waiting c.loop-file-test.false c.loop-file.invariant
