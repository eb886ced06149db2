use Rattle.std.proofs.Common.{◌≡◌, ◌⊎◌, inl, refl, rules}
use Rattle.std.specs.Prelude.{Some}
use Rattle.atomic_file.specs.Names.{with_file, HasNoneBeside}
use Rattle.atomic_file.specs.Keeping.{FileFirst, MayFollow}
use Rattle.atomic_file.proofs.Synced.{all_synced, settled, since_kept, leads, leads_same, somes, follow_text, are_there, first_same, whole_same, followers_same, sent_same, if_ok}
use Rattle.atomic_file.proofs.keeping.keep_chunks.Goals as goal

pub keep_synced-requires : goal.keep_synced-requires
keep_synced-requires g c = record {
  works = search rules;
  settled = settled _ _ _ _ c.sync_followers.ensures.told c.requires.settled c.sync_followers.ensures.now;
  synced = all_synced _ _ c.sync_followers.ensures.told;
  short = c.requires.short;
}

pub returns-clause-any_moment : goal.returns-clause-any_moment
returns-clause-any_moment g c =
    since_kept (λ s. FileFirst s.names (g.T.Chunks.left c.args.text.now)) _ _ _ _ _ _ _
    c.sync_followers.ensures.told c.requires.settled c.sync_followers.ensures.now c.sync_followers.ensures.time
    (λ s. inl refl) (first_same _) c.keep_synced.ensures.any_moment

pub returns-clause-whole : goal.returns-clause-whole
returns-clause-whole g c =
    since_kept (λ s c'. (c' ≡ s.names) ⊎ MayFollow s (with_file (g.T.Chunks.left c.args.text.now) s.names) c') _ _ _ _ _ _ _
    c.sync_followers.ensures.told c.requires.settled c.sync_followers.ensures.now c.sync_followers.ensures.time
    (λ s. inl refl) (whole_same _) c.keep_synced.ensures.whole

pub returns-clause-kept : goal.returns-clause-kept
returns-clause-kept g c =
    if_ok _ (leads_same (λ t. t.names.file ≡ Some (g.T.Chunks.left c.args.text.now)) _ _ _ c.sync_followers.ensures.told) c.keep_synced.ensures.kept

pub returns-clause-stays : goal.returns-clause-stays
returns-clause-stays g c =
    if_ok _ (somes _ _ _ _ c.sync_followers.ensures.told (λ s m on stays. stays)) c.keep_synced.ensures.stays

pub returns-clause-each : goal.returns-clause-each
returns-clause-each g c =
    if_ok _ (leads _ _ _ _ _ c.sync_followers.ensures.told (follow_text _)) c.keep_synced.ensures.each

pub returns-clause-there : goal.returns-clause-there
returns-clause-there g c =
    if_ok _ (leads _ _ _ _ _ c.sync_followers.ensures.told (are_there _)) c.keep_synced.ensures.there

pub returns-clause-withheld : goal.returns-clause-withheld
returns-clause-withheld g c = λ failed.
    since_kept (λ s c'. c'.followers ≡ s.names.followers) _ _ _ _ _ _ _
    c.sync_followers.ensures.told c.requires.settled c.sync_followers.ensures.now c.sync_followers.ensures.time
    (λ s. refl) followers_same (c.keep_synced.ensures.withheld failed)

pub returns-clause-dropped : goal.returns-clause-dropped
returns-clause-dropped g c = λ failed.
    leads_same HasNoneBeside _ _ _ c.sync_followers.ensures.told (c.keep_synced.ensures.dropped failed)

pub returns-clause-sent : goal.returns-clause-sent
returns-clause-sent g c = sent_same _ _ _ _ _ c.sync_followers.ensures.told c.keep_synced.ensures.sent
