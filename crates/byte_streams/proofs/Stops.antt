-- Reading goes on from where other bytes were read.
use Rattle.std.proofs.Common.{◌≡◌, ℕ, ◌+◌, Bool, List, ◌++◌, length, Option, arith, length-append}
use Rattle.std.specs.Io.KnownBytes.{Consumes}
use Rattle.byte_streams.specs.Window.{WindowState, IsStopped}
use Rattle.byte_streams.proofs.lemmas.Given.{both}
use Rattle.byte_streams.specs.declared.reading.ReadRefused.{ReadRefused}
use Rattle.byte_streams.specs.declared.reading.ReadRefused.TheVariants.{Memory, Read, TooLong}

pub stopped_on : (f g : WindowState) (a b c : Option (List ℕ)) (xs : List ℕ) (failed : Bool) (why : ReadRefused) → Consumes a b xs → g.read ≡ f.read + length xs → g.limit ≡ f.limit
    → IsStopped g b c failed why → IsStopped f a c failed why
stopped_on f g a b c xs failed Memory p read limit h = h
stopped_on f g a b c xs failed Read p read limit h = h
stopped_on f g a b c xs failed TooLong p read limit h =
    let more = h.1.0 in
    let long = h.1.1.1 in
    let sum = length-append xs more in
    (h.0, (xs ++ more, (both a b c xs more p h.1.1.0, omega (arith, sum, read, limit, long))))
