-- What files that were sent were read as.
use Rattle.std.specs.Prelude.{◌≡◌, List}
use Rattle.std.specs.List.{AllZip}
use Rattle.cwr_verify.specs.Reading.{IsReadingOf}
use Rattle.cwr_verify.specs.Sent.{Sent}
use Rattle.cwr_verify.specs.declared.sent.ReadFile.{ReadFile}

-- the file was read from this text, and has this acknowledgement
abbrev pub IsReadFrom : {Z : Type 0} → Sent → ReadFile Z → Type 0
IsReadFrom sent file = IsReadingOf sent.text file.text × (sent.acknowledgement ≡ file.acknowledgement.now)

-- each of the files was read from the one that was sent at its place
abbrev pub AreReadFrom : {Z : Type 0} → List Sent → List (ReadFile Z) → Type 0
AreReadFrom sent files = AllZip IsReadFrom sent files
