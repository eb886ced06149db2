-- What the pages say about the answers of an acknowledgement.
use Rattle.std.specs.Prelude.{ℕ, List, ◌++◌, codes}
use Rattle.cwr_record.specs.Kinds.{status_text}
use Rattle.cwr_record.specs.declared.status.Status.{Status}
use Rattle.cwr_record.specs.declared.status.Status.TheVariants.{Accepted, Duplicate, Conflict, Rejected}
use Rattle.rule_pages.specs.Pages.{heading_text, line_text}

-- what an answer is called
abbrev pub answer_title : Status → List ℕ
answer_title Accepted = codes "accepted"
answer_title Duplicate = codes "duplicate"
answer_title Conflict = codes "conflict"
answer_title Rejected = codes "rejected"

-- what an answer means
abbrev pub meaning_of : Status → List ℕ
meaning_of Accepted = codes "the claim is registered, as the current one under its submitter and submitter work number"
meaning_of Duplicate = codes "nothing is changed: what was registered before stands"
meaning_of Conflict = codes "nothing is registered: claims on a work meet that cannot stand beside one another, and the registry does not choose"
meaning_of Rejected = codes "nothing is registered: the transaction breaks rules"

-- what an answer is given for
abbrev pub given_for : Status → List ℕ
given_for Accepted = codes "a transaction that breaks no rule, is no duplicate, and meets no claim that it cannot stand beside"
given_for Duplicate = codes "an NWR under a submitter work number that this submitter has registered already"
given_for Conflict = codes "shares that come to more than 100.06 per cent in a right, with those of the other claims on the work; or an ISWC that is another than the work's, or that of another work"
given_for Rejected = codes "faults of J1 to J15, for each of which an MSG record stands behind the ACK record"

-- what a publisher does after an answer
abbrev pub done_then : Status → List ℕ
done_then Accepted = codes "keep the work number of the ACK record; to change the claim, send REV under the same submitter work number"
done_then Duplicate = codes "nothing, where it was sent twice; to change the claim, send REV; a work of its own needs a submitter work number of its own"
done_then Conflict = codes "ask the society which claims meet, by the work number of the ACK record (purvilgo history --work N REGISTER prints it); settle it with the other submitter, and send it again"
done_then Rejected = codes "see what the rules of the MSG records require (purvilgo explain 011) and what stands in the file (purvilgo check --long FILE); correct it, and send it again"

-- an answer's page: four lines, each with LF at its end
abbrev pub answer_text : Status → List ℕ
answer_text s =
    heading_text (status_text s) (answer_title s)
    ++ line_text (codes "means") (meaning_of s)
    ++ line_text (codes "given for") (given_for s)
    ++ line_text (codes "then") (done_then s)
