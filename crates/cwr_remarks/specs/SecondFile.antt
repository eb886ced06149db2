-- A second file behind the first: the file is refused for a line after its TRL, and that line is an HDR.
use Rattle.std.specs.Prelude.{◌&&◌, ◌==◌, List, [], ◌∷◌, Some, codes, if◌then◌else◌}
use Rattle.std.specs.Str.{bytes_eq}
use Rattle.cwr_report.specs.declared.file_finding.FileFinding.{FileFinding}
use Rattle.cwr_remarks.specs.declared.remark.Remark.{Remark}
use Rattle.cwr_remarks.specs.declared.remark.Remarked.TheVariants.{SecondFile}

-- the remark that a second file begins at the faulty line, where it does
abbrev pub second_file : FileFinding → List Remark
second_file refused =
    if (refused.number == 11) && bytes_eq refused.rtype (codes "HDR") then record { line = refused.line; rtype = Some refused.rtype; what = SecondFile } ∷ []
    else []
