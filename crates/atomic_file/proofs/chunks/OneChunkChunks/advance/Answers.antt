use Rattle.std.proofs.Common.{sym, append-nil}
use Rattle.atomic_file.proofs.chunks.OneChunkChunks.advance.Goals as goal

pub returns-clause-text : goal.returns-clause-text
returns-clause-text c = sym (append-nil c.args.self.now.left.now)
