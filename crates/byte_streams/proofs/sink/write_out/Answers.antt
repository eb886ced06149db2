use Rattle.std.proofs.Common.{rules}
use Rattle.byte_streams.proofs.Sending.{Appends-more}
use Rattle.byte_streams.proofs.lemmas.Rest.{rest_from}
use Rattle.byte_streams.proofs.sink.write_out.Goals as goal

pub loop-sent-preserved : goal.loop-sent-preserved
loop-sent-preserved g c = record {
  within = search rules;
  works = search rules;
  went_out = Appends-more _ _ _ _ _ _ c.loop-sent.invariant.went_out (rw rest_from at c.in-Ok.ensures.bytes);
}
