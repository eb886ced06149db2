-- The table of the current claims.
use Rattle.std.specs.Prelude.{ℕ, ◌==◌, ◌&&◌, Bool, false, List, [], ◌∷◌, ◌++◌, Option, Some, None, codes, filter, slice_index}
use Rattle.std.specs.List.{flat_map}
use Rattle.work_registry.specs.declared.claim.Claim.{Claim}
use Rattle.work_registry.specs.EntryValue.{EntryValue}
use Rattle.work_registry.specs.Rows.{Row, key_of, rows_of}
use Rattle.work_registry.specs.Claims.{claim_of}
use Rattle.work_registry.specs.ReplyParts.{work_in, version_in}
use Rattle.register_tables.specs.declared.form.Form.{Form}
use Rattle.register_tables.specs.declared.wanted.Wanted.{Wanted}
use Rattle.register_tables.specs.CsvRows.{csv_line, number_field, iswc_field}
use Rattle.register_tables.specs.Fields.{text_field, share_field, performing_name, mechanical_name, synchronization_name}
use Rattle.register_tables.specs.Wanted.{is_wanted}

-- there is a claim and a version, and the version is the claim's
abbrev pub is_version_of : Option Claim → Option ℕ → Bool
is_version_of None version = false
is_version_of (Some claim) None = false
is_version_of (Some claim) (Some version) = claim.version == version

-- the entry was accepted, and made the claim that is in force under its key
abbrev pub is_current : List Row → EntryValue → Bool
is_current rows e = is_version_of (claim_of (key_of e.call) rows) (version_in e.reply)

-- the entries of a history that made the claims in force, in the order of the history
abbrev pub current_entries : List EntryValue → List EntryValue
current_entries history = filter (is_current (rows_of history)) history

-- the names of the columns
abbrev pub claims_header : Form → List (List ℕ)
claims_header form =
    codes "submitter"
    ∷ codes "number"
    ∷ codes "work"
    ∷ codes "version"
    ∷ codes "title"
    ∷ codes "iswc"
    ∷ performing_name form
    ∷ mechanical_name form
    ∷ synchronization_name form
    ∷ []

-- the fields of a claim: its submitter and submitter work number, its work and version, and title, ISWC and control of
-- its call
abbrev pub claim_fields : Form → EntryValue → List (List ℕ)
claim_fields form e =
    text_field form e.call.submitter
    ∷ text_field form e.call.number
    ∷ number_field (work_in e.reply)
    ∷ number_field (version_in e.reply)
    ∷ text_field form e.call.title
    ∷ iswc_field e.call.iswc
    ∷ share_field form (slice_index e.call.control 0)
    ∷ share_field form (slice_index e.call.control 1)
    ∷ share_field form (slice_index e.call.control 2)
    ∷ []

-- the CSV line of a claim
abbrev pub claim_line : Form → EntryValue → List ℕ
claim_line form e = csv_line (claim_fields form e)

-- the entry made a claim in force, and is wanted
abbrev pub is_listed : Wanted → List Row → EntryValue → Bool
is_listed wanted rows e = is_current rows e && is_wanted wanted e

-- the table of the claims in force: a header line, and a line for each that is wanted, in the order of the history
abbrev pub claims_text : Form → Wanted → List EntryValue → List ℕ
claims_text form wanted history =
    csv_line (claims_header form) ++ flat_map (claim_line form) (filter (is_listed wanted (rows_of history)) history)
