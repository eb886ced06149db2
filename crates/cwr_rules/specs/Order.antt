-- The order of a transaction's records, as a pattern of their types.
use Rattle.std.specs.Prelude.{ℕ, ◌≡◌, List, [], ◌∷◌, ◌++◌, map, replicate, Option, Some, None}
use Rattle.std.specs.List.{flat_map, filter_map}
use Rattle.cwr_rules.specs.declared.record.Record.{Record}
use Rattle.cwr_rules.specs.declared.record.Record.TheVariants.{Spu, Opu, Spt, Swr, Owr, Swt, Pwr, Alt, Xrf, Carried}

-- the types of the records that have a place in the order; others are carried along
pub data DetailType : Type 0 where
  SPU : DetailType
  OPU : DetailType
  SPT : DetailType
  SWR : DetailType
  OWR : DetailType
  SWT : DetailType
  PWR : DetailType
  ALT : DetailType
  XRF : DetailType

-- what may follow a writer of the submitter, in any mixture: SWT and PWR
pub data OfWriter : Type 0 where
  ATerritory : OfWriter
  ALink : OfWriter

-- what may end a transaction, in any mixture: ALT and XRF
pub data Ending : Type 0 where
  ATitle : Ending
  AReference : Ending

-- a publisher or a writer with the records that belong to it; a number is how many SPT, or PWR, follow
pub data Block : Type 0 where
  OfPublisher : ℕ → Block
  OfOtherPublisher : Block
  OfWriterOfSubmitter : List OfWriter → Block
  OfOtherWriter : ℕ → Block

-- the record type of what may follow a writer of the submitter
abbrev pub of_writer : OfWriter → DetailType
of_writer ATerritory = SWT
of_writer ALink = PWR

-- the record type of what may end a transaction
abbrev pub ending : Ending → DetailType
ending ATitle = ALT
ending AReference = XRF

-- the types of a block's records: SPU and any SPT; OPU; SWR and any SWT and PWR; OWR and any PWR
abbrev pub block : Block → List DetailType
block (OfPublisher n) = SPU ∷ replicate n SPT
block OfOtherPublisher = OPU ∷ []
block (OfWriterOfSubmitter records) = SWR ∷ map of_writer records
block (OfOtherWriter n) = OWR ∷ replicate n PWR

-- the types of a whole transaction's records: any blocks, then any ALT and XRF
abbrev pub in_order : List Block → List Ending → List DetailType
in_order blocks endings = flat_map block blocks ++ map ending endings

-- the types can be continued to a list that is in order
abbrev pub IsPrefix : List DetailType → Type 0
IsPrefix types = (blocks : List Block) × (endings : List Ending) × (rest : List DetailType) × (types ++ rest ≡ in_order blocks endings)

-- the type of a record in the order; `None` for a record that is carried along
abbrev pub detail_type : Record → Option DetailType
detail_type (Spu party shares) = Some SPU
detail_type (Opu party shares) = Some OPU
detail_type (Spt party shares territory) = Some SPT
detail_type (Swr party shares) = Some SWR
detail_type (Owr shares) = Some OWR
detail_type (Swt party shares territory) = Some SWT
detail_type (Pwr publisher) = Some PWR
detail_type Alt = Some ALT
detail_type Xrf = Some XRF
detail_type (Carried name) = None

-- the types of the records, without those that are carried along
abbrev pub types : List Record → List DetailType
types records = filter_map detail_type records
