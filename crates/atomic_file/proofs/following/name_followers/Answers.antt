use Rattle.std.proofs.Common.{rules}
use Rattle.atomic_file.proofs.Followers.{Leads-put, Leads-all, Leads-there, Leads-none, Following-begin, Following-put, Following-found, Following-less}
use Rattle.atomic_file.proofs.following.name_followers.Goals as goal

pub loop-at-init : goal.loop-at-init
loop-at-init g c = record {
  told = Leads-none _ c.followers-at-end.ensures.each c.requires.synced;
  any_moment = search rules;
  after = Following-begin _ _;
  same = search rules;
}

pub loop-at-preserved : goal.loop-at-preserved
loop-at-preserved g c =
    let after = Following-put _ _ _ _ _ _ _ _ c.followers-at-end.ensures.number (search rules) c.is_refused.ensures (search rules) c.loop-at.invariant.told c.loop-at.invariant.after c.put_follower.ensures.now in
    record {
      told = Leads-put _ _ _ _ _ _ c.followers-at-end.ensures.number (search rules) c.loop-at.invariant.told c.put_follower.ensures.placed c.put_follower.ensures.refused;
      any_moment = Following-found _ _ _ _ _ _ c.loop-at.invariant.any_moment c.put_follower.ensures.time after;
      after = after;
      same = search rules;
    }

pub returns-clause-any_moment : goal.returns-clause-any_moment
returns-clause-any_moment g c =
    Following-found _ _ _ _ _ _ c.loop-at.invariant.any_moment c.sync_follower_names.ensures.time
    (Following-less _ _ _ _ c.loop-at.invariant.after c.sync_follower_names.ensures.now)

pub returns-clause-after : goal.returns-clause-after
returns-clause-after g c = Following-less _ _ _ _ c.loop-at.invariant.after c.sync_follower_names.ensures.now

pub returns-clause-each : goal.returns-clause-each
returns-clause-each g c =
    Leads-all _ _ _ _ _ c.followers-at-end.ensures.number (search rules) c.loop-at.invariant.told c.sync_follower_names.ensures.told

pub returns-clause-there : goal.returns-clause-there
returns-clause-there g c = Leads-there _ _ _
    (Leads-all _ _ _ _ _ c.followers-at-end.ensures.number (search rules) c.loop-at.invariant.told c.sync_follower_names.ensures.told)
    c.sync_follower_names.ensures.durable
