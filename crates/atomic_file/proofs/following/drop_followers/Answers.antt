use Rattle.std.proofs.Common.{rules}
use Rattle.atomic_file.proofs.Drops.{Becomes-none, Becomes-drop, Becomes-all, Leads-dropped}
use Rattle.atomic_file.proofs.following.drop_followers.Goals as goal

pub loop-at-init : goal.loop-at-init
loop-at-init g c = record {
  told = Becomes-none _;
  now = search rules;
  time = search rules;
  same = search rules;
}

pub loop-at-preserved : goal.loop-at-preserved
loop-at-preserved g c = record {
  told = Becomes-drop _ _ _ _ c.loop-at.invariant.told c.drop_follower.ensures.told;
  now = search rules;
  time = search rules;
  same = search rules;
}

pub returns-clause-told : goal.returns-clause-told
returns-clause-told g c =
    Becomes-all _ _ _ _ c.followers-at-end.ensures.number c.followers-at-end.ensures.each (search rules) c.loop-at.invariant.told

pub returns-clause-none : goal.returns-clause-none
returns-clause-none g c = Leads-dropped _ _
    (Becomes-all _ _ _ _ c.followers-at-end.ensures.number c.followers-at-end.ensures.each (search rules) c.loop-at.invariant.told)
