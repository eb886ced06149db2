-- What the ACK lines of one acknowledgement have in common.
use Rattle.cwr_record.specs.Stamp.{StampParts}
use Rattle.cwr_record.specs.declared.control.Header.{Header}

-- what every ACK line of an acknowledgement takes from outside its transaction: the stamp and the acknowledged file's
-- header
pub record Form : Type 0 where
  -- who acknowledges, and when
  pub stamp : StampParts
  -- the header of the acknowledged file
  pub header : Header
