use Rattle.atomic_file.proofs.Synced.{all_synced, since_follow, follow_after, leads, follow, are_there}
use Rattle.atomic_file.proofs.following.put_followers.Goals as goal

pub name_followers-requires : goal.name_followers-requires
name_followers-requires g c = record { synced = all_synced _ _ c.sync_followers.ensures.told }

pub returns-clause-any_moment : goal.returns-clause-any_moment
returns-clause-any_moment g c =
    since_follow _ _ _ _ _ _ _ c.sync_followers.ensures.told c.sync_followers.ensures.now c.sync_followers.ensures.time c.name_followers.ensures.any_moment

pub returns-clause-after : goal.returns-clause-after
returns-clause-after g c = follow_after _ _ _ _ _ c.sync_followers.ensures.told c.sync_followers.ensures.now c.name_followers.ensures.after

pub returns-clause-each : goal.returns-clause-each
returns-clause-each g c = leads _ _ _ _ _ c.sync_followers.ensures.told follow c.name_followers.ensures.each

pub returns-clause-there : goal.returns-clause-there
returns-clause-there g c = leads _ _ _ _ _ c.sync_followers.ensures.told (are_there _) c.name_followers.ensures.there
