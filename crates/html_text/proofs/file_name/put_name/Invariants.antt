use Rattle.std.proofs.Common.{◌≡◌, ◌++◌, drop}
use Rattle.html_text.specs.FileNames.{file_name}
use Rattle.html_text.specs.Pieces.{page_text}
use Rattle.html_text.proofs.file_name.put_name.Given as goal

-- what is written and what is left make the whole
abbrev pub invariant-loop-byte : goal.invariant-loop-byte
invariant-loop-byte g l = l.out.items ++ page_text (file_name (drop l.byte-index l.name)) ≡ l.fn.out.items ++ page_text (file_name l.fn.name)
