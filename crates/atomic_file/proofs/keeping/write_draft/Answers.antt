use Rattle.std.proofs.Common.{rules}
use Rattle.atomic_file.proofs.Drafting.{next-chunk, chunk-within, whole_chunk-within, drop-chunk, Becomes-chunk, Becomes-whole_chunk}
use Rattle.atomic_file.proofs.keeping.write_draft.Goals as goal

pub returns-in-Err-write_chunk-clause-few : goal.returns-in-Err-write_chunk-clause-few
returns-in-Err-write_chunk-clause-few g c =
    let cut = next-chunk _ _ _ _ _ c.loop-chunk.invariant.left c.advance.ensures.text c.chunk-chunk.ensures in
    chunk-within _ _ _ _ _ cut c.in-Err-write_chunk.ensures.few c.loop-chunk.invariant.within

pub returns-in-Err-write_chunk-clause-sent : goal.returns-in-Err-write_chunk-clause-sent
returns-in-Err-write_chunk-clause-sent g c =
    let cut = next-chunk _ _ _ _ _ c.loop-chunk.invariant.left c.advance.ensures.text c.chunk-chunk.ensures in
    Becomes-chunk _ _ _ _ _ _ _ _ cut c.in-Err-write_chunk.ensures.few c.loop-chunk.invariant.went_out c.in-Err-write_chunk.ensures.sent

pub loop-chunk-preserved : goal.loop-chunk-preserved
loop-chunk-preserved g c =
    let cut = next-chunk _ _ _ _ _ c.loop-chunk.invariant.left c.advance.ensures.text c.chunk-chunk.ensures in
    record {
      within = whole_chunk-within _ _ _ _ cut c.loop-chunk.invariant.within;
      left = drop-chunk _ _ _ _ cut;
      works = search rules;
      went_out = Becomes-whole_chunk _ _ _ _ _ _ _ cut c.loop-chunk.invariant.went_out c.in_default-write_chunk.ensures.whole;
      any_moment = search rules;
      after = search rules;
    }
