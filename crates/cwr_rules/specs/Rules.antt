-- The rules of single records. Each is a test of a record and of the records before it, the newest first.
use Rattle.std.specs.Prelude.{ℕ, Bool, true, false, not, ◌&&◌, ◌||◌, ◌==◌, List, ◌∷◌, codes, find, Option, Some, None, is_some, is_none, option_map}
use Rattle.std.specs.List.{list_any, filter_map}
use Rattle.std.specs.Str.{bytes_eq}
use Rattle.cwr_rules.specs.Totals.{shares_of}
use Rattle.cwr_rules.specs.LastBlock.{last_block}
use Rattle.cwr_rules.specs.declared.record.Shares.{Shares}
use Rattle.cwr_rules.specs.declared.record.Territory.{Territory}
use Rattle.cwr_rules.specs.declared.record.Record.{Record}
use Rattle.cwr_rules.specs.declared.record.Record.TheVariants.{Spu, Opu, Spt, Swr, Owr, Swt, Pwr, Alt, Xrf, Carried}

-- the record type, as the first three bytes of the line
abbrev pub name_of : Record → List ℕ
name_of (Spu party shares) = codes "SPU"
name_of (Opu party shares) = codes "OPU"
name_of (Spt party shares territory) = codes "SPT"
name_of (Swr party shares) = codes "SWR"
name_of (Owr shares) = codes "OWR"
name_of (Swt party shares territory) = codes "SWT"
name_of (Pwr publisher) = codes "PWR"
name_of Alt = codes "ALT"
name_of Xrf = codes "XRF"
name_of (Carried name) = name

-- the record is an SPU, a publisher of the submitter
abbrev pub is_spu : Record → Bool
is_spu (Spu party shares) = true
is_spu _ = false

-- the record is an SWR, a writer of the submitter
abbrev pub is_swr : Record → Bool
is_swr (Swr party shares) = true
is_swr _ = false

-- the record is an SWR or an OWR
abbrev pub is_writer : Record → Bool
is_writer (Swr party shares) = true
is_writer (Owr shares) = true
is_writer _ = false

-- the party of an SPU or SWR; `None` where its number is blank, and for any other record
abbrev pub controlled_party : Record → Option (List ℕ)
controlled_party (Spu party shares) = party
controlled_party (Swr party shares) = party
controlled_party _ = None

-- the party of the last record that passes, the newest first: `None` where there is no such record, `Some None` where
-- its number is blank
abbrev pub last_party : (Record → Bool) → List Record → Option (Option (List ℕ))
last_party p before = option_map controlled_party (find p before)

-- the party of an SPU or OPU; `None` where its number is blank, and for any other record
abbrev pub publisher_party : Record → Option (List ℕ)
publisher_party (Spu party shares) = party
publisher_party (Opu party shares) = party
publisher_party _ = None

-- the parties of all SPU and OPU whose numbers are not blank, in order
abbrev pub publishers : List Record → List (List ℕ)
publishers records = filter_map publisher_party records

-- J1: the records before are in order, and with this one they no longer are
abbrev pub is_out_of_order : List Record → Record → Bool
is_out_of_order before r = is_some (last_block before) && is_none (last_block (r ∷ before))

-- the shares of all three rights are valid
abbrev pub are_valid : Shares → Bool
are_valid shares = is_some shares.performing && is_some shares.mechanical && is_some shares.synchronization

-- J6: a share of the record is not valid
abbrev pub has_wrong_share : Record → Bool
has_wrong_share r = not (are_valid (shares_of r))

-- J7: an SPU or SWR has no interested party number
abbrev pub is_nameless : Record → Bool
is_nameless (Spu party shares) = is_none party
is_nameless (Swr party shares) = is_none party
is_nameless _ = false

-- the parties differ; a blank one is equal to a blank one alone
abbrev pub differ : Option (List ℕ) → Option (List ℕ) → Bool
differ None None = false
differ (Some p) (Some q) = not (bytes_eq p q)
differ _ _ = true

-- there was such a record before, and its party is another than this one
abbrev pub is_other : Option (Option (List ℕ)) → Option (List ℕ) → Bool
is_other None party = false
is_other (Some last) party = differ last party

-- J8: an SPT of another party than that of the last SPU, or an SWT of another party than that of the last SWR
abbrev pub is_of_another_party : List Record → Record → Bool
is_of_another_party before (Spt party shares territory) = is_other (last_party is_spu before) party
is_of_another_party before (Swt party shares territory) = is_other (last_party is_swr before) party
is_of_another_party before _ = false

-- there is a record, and it is an SWR
abbrev pub is_swr_at : Option Record → Bool
is_swr_at None = false
is_swr_at (Some r) = is_swr r

-- of the SWR and OWR before, the last one is an SWR
abbrev pub follows_swr : List Record → Bool
follows_swr before = is_swr_at (find is_writer before)

-- the party is one of the list
abbrev pub is_party_of : List (List ℕ) → List ℕ → Bool
is_party_of parties party = list_any (λ p. bytes_eq p party) parties

-- the party is given, and is none of the list
abbrev pub is_unknown : List (List ℕ) → Option (List ℕ) → Bool
is_unknown parties None = false
is_unknown parties (Some party) = not (is_party_of parties party)

-- J9: a PWR behind an SWR names a publisher that is not among these parties, those of the transaction's SPU and OPU
abbrev pub has_unknown_publisher : List (List ℕ) → List Record → Record → Bool
has_unknown_publisher parties before (Pwr publisher) = follows_swr before && is_unknown parties publisher
has_unknown_publisher parties before _ = false

-- a territory whose indicator is neither I nor E, or whose TIS code is not valid
abbrev pub is_wrong : Territory → Bool
is_wrong territory = not ((territory.indicator == 73) || (territory.indicator == 69)) || is_none territory.code

-- J14: the indicator or the TIS code of an SPT or SWT is not valid
abbrev pub has_wrong_territory : Record → Bool
has_wrong_territory (Spt party shares territory) = is_wrong territory
has_wrong_territory (Swt party shares territory) = is_wrong territory
has_wrong_territory _ = false
