-- The head of a work's registration, and the records that name the work otherwise (CWR 2.2): NWR, REV, ALT, XRF.
use Rattle.std.specs.Prelude.{List, [], ◌∷◌, codes}
use Rattle.cwr_record.specs.Layout.{Part}
use Rattle.cwr_record.specs.Columns as column
use Rattle.cwr_record.specs.Parts.{kind, one_of, number, optional_day, optional_time, code, text}
use Rattle.cwr_record.specs.Kinds.{work_kind_code}
use Rattle.cwr_record.specs.declared.works.WorkHead.{WorkHead}
use Rattle.cwr_record.specs.declared.works.AltTitle.{AltTitle}
use Rattle.cwr_record.specs.declared.works.CrossRef.{CrossRef}

-- NWR, New Work Registration, and REV, Revised Registration
abbrev pub work_head : List (Part WorkHead)
work_head =
    one_of (codes "NWR") (codes "REV") (λ x. work_kind_code x.kind)  -- Record Type
    ∷ number column.prefix_transaction (λ x. x.prefix.transaction)  -- Transaction Sequence #
    ∷ number column.prefix_detail (λ x. x.prefix.detail)  -- Record Sequence #
    ∷ text column.work_head_title (λ x. x.title)  -- Work Title
    ∷ text column.work_head_language (λ x. x.language)  -- Language Code
    ∷ text column.work_head_submitter_number (λ x. x.submitter_number)  -- Submitter Work #
    ∷ code column.work_head_iswc (λ x. x.iswc)  -- ISWC
    ∷ optional_day column.work_head_copyright_date (λ x. x.copyright_date)  -- Copyright Date
    ∷ text column.work_head_copyright_number (λ x. x.copyright_number)  -- Copyright Number
    ∷ text column.work_head_distribution_category (λ x. x.distribution_category)  -- Musical Work Distribution Category
    ∷ optional_time column.work_head_duration (λ x. x.duration)  -- Duration
    ∷ text column.work_head_recorded_indicator (λ x. x.recorded_indicator)  -- Recorded Indicator
    ∷ text column.work_head_text_music_relationship (λ x. x.text_music_relationship)  -- Text Music Relationship
    ∷ text column.work_head_composite_type (λ x. x.composite_type)  -- Composite Type
    ∷ text column.work_head_version_type (λ x. x.version_type)  -- Version Type
    ∷ text column.work_head_excerpt_type (λ x. x.excerpt_type)  -- Excerpt Type
    ∷ text column.work_head_arrangement (λ x. x.arrangement)  -- Music Arrangement
    ∷ text column.work_head_lyric_adaptation (λ x. x.lyric_adaptation)  -- Lyric Adaptation
    ∷ text column.work_head_contact_name (λ x. x.contact_name)  -- Contact Name
    ∷ text column.work_head_contact_id (λ x. x.contact_id)  -- Contact ID
    ∷ []

-- ALT, Alternate Title
abbrev pub alt_title : List (Part AltTitle)
alt_title =
    kind (codes "ALT")  -- Record Type
    ∷ number column.prefix_transaction (λ x. x.prefix.transaction)  -- Transaction Sequence #
    ∷ number column.prefix_detail (λ x. x.prefix.detail)  -- Record Sequence #
    ∷ text column.alt_title_title (λ x. x.title)  -- Alternate Title
    ∷ text column.alt_title_title_type (λ x. x.title_type)  -- Title Type
    ∷ text column.alt_title_language (λ x. x.language)  -- Language Code
    ∷ []

-- XRF, Work ID Cross Reference; past the prefix the layout is that of this registry
abbrev pub cross_ref : List (Part CrossRef)
cross_ref =
    kind (codes "XRF")  -- Record Type
    ∷ number column.prefix_transaction (λ x. x.prefix.transaction)  -- Transaction Sequence #
    ∷ number column.prefix_detail (λ x. x.prefix.detail)  -- Record Sequence #
    ∷ text column.cross_ref_organisation (λ x. x.organisation)  -- Organisation Code
    ∷ text column.cross_ref_identifier (λ x. x.identifier)  -- Identifier
    ∷ text column.cross_ref_identifier_type (λ x. x.identifier_type)  -- Identifier Type
    ∷ text column.cross_ref_validity (λ x. x.validity)  -- Validity
    ∷ []
