use Rattle.std.proofs.Common.{◌≡◌, ◌∙◌, List, ℕ, Option, Some, ap, ap₂, sym}
use Rattle.work_registry.specs.declared.claim.Claim.{Claim}
use Rattle.work_registry.specs.Claims.{claim_of}
use Rattle.work_registry.specs.Rows.{Row, key_of, rows_of}
use Rattle.register_tables.specs.ClaimsTable.{is_version_of}
use Rattle.register_tables.proofs.claims.is_in_force.Goals as goal

pub returns-in-Some : goal.returns-in-Some
returns-in-Some g c =
    let rows : List Row = rows_of c.args.book.now.history in
    let is : Some c.in-Some.claim ≡ claim_of (key_of c.args.call.now) rows =
    sym c.in-Some.is ∙ c.claim.ensures ∙ ap₂ (λ (s n : List ℕ). claim_of (record { submitter = s; number = n }) rows) c.submitter.ensures.value c.number.ensures.value in
    ap (λ (claim : Option Claim). is_version_of claim (Some c.args.version)) is
