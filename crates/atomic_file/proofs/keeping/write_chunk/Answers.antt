use Rattle.std.proofs.Common.{rules}
use Rattle.byte_streams.proofs.lemmas.Rest.{rest_from}
use Rattle.atomic_file.proofs.Drafting.{Becomes-begun, Becomes-more}
use Rattle.atomic_file.proofs.keeping.write_chunk.Goals as goal

pub loop-sent-init : goal.loop-sent-init
loop-sent-init g c = record {
  within = search rules;
  works = search rules;
  went_out = Becomes-begun (g.P.Storage.told c.args.storage.now) c.args.chunk.now;
  now = search rules;
  time = search rules;
}

pub loop-sent-preserved : goal.loop-sent-preserved
loop-sent-preserved g c = record {
  within = search rules;
  works = search rules;
  went_out = Becomes-more _ _ _ _ _ _ c.loop-sent.invariant.went_out (rw rest_from at c.in-Ok.ensures.wrote);
  now = search rules;
  time = search rules;
}
