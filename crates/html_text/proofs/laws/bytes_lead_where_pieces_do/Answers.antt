use Rattle.html_text.proofs.ContextsOfBytes.{read}
use Rattle.html_text.proofs.laws.bytes_lead_where_pieces_do.Goals as goal

pub returns : goal.returns
returns c = record { read = read }
