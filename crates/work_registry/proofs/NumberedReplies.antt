-- The replies of a history have works and versions of eight digits.
use Rattle.std.proofs.Common.{◌<◌, ◌≤◌, ℕ, suc, List, [], ◌∷◌, length, take, drop, slice_index_or, arith, sym, subst}
use Rattle.std.specs.List.{AllByRecursion}
use Rattle.std.proofs.lemmas.List.{take-append-drop, length-take}
use Rattle.work_registry.specs.declared.reply.Reply.{Reply}
use Rattle.work_registry.specs.EntryValue.{EntryValue}
use Rattle.work_registry.specs.History.{IsHistory}
use Rattle.work_registry.specs.Numbers.{IsNumbered, max_entries}
use Rattle.work_registry.proofs.GrowingBooks.{history-begin}
use Rattle.work_registry.proofs.SoundHistories.{reply-within}

from_each : (h : List EntryValue) → ((j : ℕ) (d : EntryValue) → j < length h → IsNumbered (slice_index_or h j d).reply) → AllByRecursion (λ e. IsNumbered e.reply) h
from_each [] f = tt
from_each (e ∷ es) f = (f 0 e (omega arith), from_each es (λ j d lt. f (suc j) d (omega (arith, lt))))

pub numbered : (h : List EntryValue) → IsHistory h → length h ≤ max_entries → AllByRecursion (λ e. IsNumbered e.reply) h
numbered h is le = from_each h each
  where
    each : (j : ℕ) (d : EntryValue) → j < length h → IsNumbered (slice_index_or h j d).reply
    each j d lt =
        let P : List EntryValue → Type 0 = λ es. IsHistory es in
        let before : IsHistory (take j h) = history-begin (take j h) (drop j h) (subst P (sym (take-append-drop j h)) is) in
        let few : length (take j h) < max_entries = omega (arith, lt, le, length-take j h) in
        let Q : Reply → Type 0 = λ r. IsNumbered r in
        subst Q (sym (is j d lt)) (reply-within (take j h) (slice_index_or h j d).call before few)
