-- Where in the record order a transaction stands after some of its records.
use Rattle.std.specs.Prelude.{List, [], ◌∷◌, Option, Some, None, option_and_then}
use Rattle.cwr_rules.specs.declared.last_block.LastBlock.{LastBlock}
use Rattle.cwr_rules.specs.declared.last_block.LastBlock.TheVariants.{Free, AtPublisher, AtWriter, AtOtherWriter, AtTitles}
use Rattle.cwr_rules.specs.declared.record.Record.{Record}
use Rattle.cwr_rules.specs.declared.record.Record.TheVariants.{Spu, Opu, Spt, Swr, Owr, Swt, Pwr, Alt, Xrf, Carried}

-- where the order stands once a new block begins; `None` where the titles (ALT, XRF) have begun
abbrev pub opened : LastBlock → LastBlock → Option LastBlock
opened AtTitles place = None
opened _ place = Some place

-- after an SPT: allowed only behind an SPU and its SPT
abbrev pub after_publisher_territory : LastBlock → Option LastBlock
after_publisher_territory AtPublisher = Some AtPublisher
after_publisher_territory _ = None

-- after an SWT: allowed only behind an SWR and its SWT and PWR
abbrev pub after_writer_territory : LastBlock → Option LastBlock
after_writer_territory AtWriter = Some AtWriter
after_writer_territory _ = None

-- after a PWR: allowed only behind an SWR, an OWR, and their SWT and PWR
abbrev pub after_link : LastBlock → Option LastBlock
after_link AtWriter = Some AtWriter
after_link AtOtherWriter = Some AtOtherWriter
after_link _ = None

-- where the order stands after one record more; `None` where the record may not stand there
abbrev pub next_block : LastBlock → Record → Option LastBlock
next_block place (Spu party shares) = opened place AtPublisher
next_block place (Opu party shares) = opened place Free
next_block place (Swr party shares) = opened place AtWriter
next_block place (Owr shares) = opened place AtOtherWriter
next_block place (Spt party shares territory) = after_publisher_territory place
next_block place (Swt party shares territory) = after_writer_territory place
next_block place (Pwr publisher) = after_link place
next_block place Alt = Some AtTitles
next_block place Xrf = Some AtTitles
next_block place (Carried name) = Some place

-- where the order stands after these records, the newest first; `None` once the order is broken
abbrev pub last_block : List Record → Option LastBlock
last_block [] = Some Free
last_block (r ∷ before) = option_and_then (λ place. next_block place r) (last_block before)
