-- The totals of a transaction's shares, in hundredths of one per cent.
use Rattle.std.specs.Prelude.{ℕ, ◌+◌, Bool, true, false, ◌||◌, ◌==◌, nat_lt, if◌then◌else◌, List, [], ◌∷◌, filter, Option, Some, None}
use Rattle.std.specs.List.{list_any, filter_map}
use Rattle.cwr_field.specs.Share.{max_whole}
use Rattle.cwr_rules.specs.declared.totals.Totals.{Totals}
use Rattle.cwr_rules.specs.declared.record.Shares.{Shares}
use Rattle.cwr_rules.specs.declared.record.Territory.{Territory}
use Rattle.cwr_rules.specs.declared.record.Record.{Record}
use Rattle.cwr_rules.specs.declared.record.Record.TheVariants.{Spu, Opu, Spt, Swr, Owr, Swt}

-- a share that is not valid, `None`, counts 0
abbrev pub valued : Option ℕ → ℕ
valued None = 0
valued (Some share) = share

-- the shares of a record that names none: 0 in each right
abbrev pub no_shares : Shares
no_shares = record { performing = Some 0; mechanical = Some 0; synchronization = Some 0 }

-- the shares that a record names: its ownership shares, or its collection shares in a territory
abbrev pub shares_of : Record → Shares
shares_of (Spu party shares) = shares
shares_of (Opu party shares) = shares
shares_of (Spt party shares territory) = shares
shares_of (Swr party shares) = shares
shares_of (Owr shares) = shares
shares_of (Swt party shares territory) = shares
shares_of _ = no_shares

-- the records that have ownership shares: SPU, OPU, SWR, OWR
abbrev pub owns : Record → Bool
owns (Spu party shares) = true
owns (Opu party shares) = true
owns (Swr party shares) = true
owns (Owr shares) = true
owns _ = false

-- the records of the parties that the submitter controls: SPU, SWR
abbrev pub controls : Record → Bool
controls (Spu party shares) = true
controls (Swr party shares) = true
controls _ = false

-- the TIS code of a territory with the indicator I; `None` where it is excluded, or its code is not valid
abbrev pub included_in : Territory → Option ℕ
included_in territory = if territory.indicator == 73 then territory.code else None

-- the TIS code that an SPT or SWT includes; `None` for an exclusion, and for any other record
abbrev pub included : Record → Option ℕ
included (Spt party shares territory) = included_in territory
included (Swt party shares territory) = included_in territory
included _ = None

-- there is a TIS code, and it is this one
abbrev pub is_code : Option ℕ → ℕ → Bool
is_code None code = false
is_code (Some other) code = other == code

-- the record is an SPT or SWT that includes the territory with this code
abbrev pub collects_at : ℕ → Record → Bool
collects_at code r = is_code (included r) code

-- the shares of one right over the records, added up; one that is not valid counts 0
abbrev pub total : (Shares → Option ℕ) → List Record → ℕ
total right [] = 0
total right (r ∷ records) = total right records + valued (right (shares_of r))

-- the share of the performing right
abbrev pub performing_share : Shares → Option ℕ
performing_share s = s.performing

-- the share of the mechanical right
abbrev pub mechanical_share : Shares → Option ℕ
mechanical_share s = s.mechanical

-- the share of the synchronization right
abbrev pub synchronization_share : Shares → Option ℕ
synchronization_share s = s.synchronization

-- the totals of the three rights over the records that pass
abbrev pub totals_of : (Record → Bool) → List Record → Totals
totals_of p records = record {
  performing = total performing_share (filter p records);
  mechanical = total mechanical_share (filter p records);
  synchronization = total synchronization_share (filter p records);
}

-- the ownership totals of the three rights, over SPU, OPU, SWR and OWR
abbrev pub ownership : List Record → Totals
ownership records = totals_of owns records

-- the control totals of the three rights, over SPU and SWR: what the submitter's parties own
abbrev pub control : List Record → Totals
control records = totals_of controls records

-- the collection totals of the three rights in the territory with this code, over the SPT and SWT that include it
abbrev pub collection : ℕ → List Record → Totals
collection code records = totals_of (collects_at code) records

-- in some right the total is above 100.06 per cent
abbrev pub is_over : Totals → Bool
is_over totals = nat_lt max_whole totals.performing || nat_lt max_whole totals.mechanical || nat_lt max_whole totals.synchronization

-- the TIS codes that the records include, in their order; a code may be there more than once
abbrev pub codes_of : List Record → List ℕ
codes_of records = filter_map included records

-- J15: in some territory the collection total of some right is above 100.06 per cent
abbrev pub is_over_somewhere : List Record → Bool
is_over_somewhere records = list_any (λ code. is_over (collection code records)) (codes_of records)
