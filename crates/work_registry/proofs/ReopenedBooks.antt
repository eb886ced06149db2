-- A book whose entries are all made entries of the opening.
use Rattle.std.proofs.Common.{◌≡◌, ◌∙◌, ◌+◌, ◌≤◌, ap, sym, Bool, true, false, cond, ℕ, List, [], ◌∷◌, ◌++◌, map, length, refl, arith, append_assoc, zero, suc, take, drop}
use Rattle.std.specs.Prelude.{◌==◌, ◌&&◌, if◌then◌else◌}
use Rattle.std.proofs.lemmas.Bool.Decides.{nat_tests}
use Rattle.std.proofs.lemmas.List.{length-map}
use Rattle.work_registry.specs.EntryValue.{EntryValue, entry_of}
use Rattle.work_registry.specs.Rows.{Row, rows_of, rows_of_entry}
use Rattle.work_registry.specs.Replay.{is_opening, opening_count}
use Rattle.work_registry.specs.Register.{opened}
use Rattle.work_registry.specs.Indexes.{IsBook}
use Rattle.work_registry.proofs.SoundHistories.{Follows, follows-rest}

follows-opened : (h : List EntryValue) (rows : List Row) → Follows rows h → Follows rows (map opened h)
follows-opened [] rows f j d lt = absurd (omega arith)
follows-opened (x ∷ xs) rows f zero d lt = f zero d (omega arith)
follows-opened (x ∷ xs) rows f (suc j) d lt =
    rw (← append_assoc rows (rows_of_entry x.call x.reply) (rows_of (take j (map opened xs))))
    (follows-opened xs (rows ++ rows_of_entry x.call x.reply) (follows-rest rows x xs f) j d (omega arith))

pub book-opened : (h : List EntryValue) (limit : ℕ) → IsBook h limit → IsBook (map opened h) limit
book-opened h limit b = record { lawful = follows-opened h [] b.lawful; fits = rw length-map b.fits; least = b.least; most = b.most }

count_inside_with : (b : Bool) (n m : ℕ) → n ≤ m → cond b (1 + n) 0 ≤ suc m
count_inside_with true n m le = omega (arith, le)
count_inside_with false n m le = omega arith

pub count_inside : (h : List EntryValue) → opening_count h ≤ length h
count_inside [] = omega arith
count_inside (e ∷ h) = count_inside_with (e.session == 0) (opening_count h) (length h) (count_inside h)

eq_next : (n m : ℕ) → (1 + n == suc m) ≡ (n == m)
eq_next n m = by (n == m) refl where
  by : (c : Bool) → (n == m) ≡ c → (1 + n == suc m) ≡ c
  by true is = grind (arith, nat_tests)
  by false is = grind (arith, nat_tests)

-- one more at the end, of `size` of which `n` are of the opening up to the first that is not
abbrev count_more : ℕ → ℕ → Bool → ℕ
count_more n size first = if (n == size) && first then n + 1 else n

count_push_with : (b first : Bool) (n m size : ℕ) → m ≡ count_more n size first → cond b (1 + m) 0 ≡ count_more (cond b (1 + n) 0) (suc size) first
count_push_with true first n m size is =
    ap (λ (k : ℕ). 1 + k) is ∙ both ((n == size) && first) ∙ ap (λ (b : Bool). if b && first then (1 + n) + 1 else 1 + n) (sym (eq_next n size)) where
      both : (c : Bool) → 1 + (if c then n + 1 else n) ≡ (if c then (1 + n) + 1 else 1 + n)
      both true = omega arith
      both false = refl
count_push_with false first n m size is = by (0 == suc size) (grind (arith, nat_tests)) where
  by : (c : Bool) → c ≡ false → 0 ≡ (if c && first then 0 + 1 else 0)
  by false e = refl
  by true e = absurd cc

-- the count with an entry more
pub count_push : (h : List EntryValue) (e : EntryValue) (n size : ℕ) → n ≡ opening_count h → size ≡ length h
    → opening_count (h ++ e ∷ []) ≡ (if (n == size) && (e.session == 0) then n + 1 else n)
count_push h e n size is count = rw (is, count) (by h) where
  by : (h : List EntryValue) → opening_count (h ++ e ∷ []) ≡ count_more (opening_count h) (length h) (e.session == 0)
  by [] = refl
  by (x ∷ h) = count_push_with (x.session == 0) (e.session == 0) (opening_count h) (opening_count (h ++ e ∷ [])) (length h) (by h)

pub count_opened : (h : List EntryValue) → opening_count (map opened h) ≡ length (map opened h)
count_opened [] = refl
count_opened (e ∷ h) = let is = count_opened h in omega (arith, is)

is_opening_with : (b all : Bool) (n m : ℕ) → (n == m) ≡ all → (cond b (1 + n) 0 == suc m) ≡ (b && all)
is_opening_with true all n m is = eq_next n m ∙ is
is_opening_with false all n m is = grind (arith, nat_tests)

pub is_opening_count : (h : List EntryValue) → (opening_count h == length h) ≡ is_opening h
is_opening_count [] = refl
is_opening_count (e ∷ h) = is_opening_with (e.session == 0) (is_opening h) (opening_count h) (length h) (is_opening_count h)

pub count_all : (h : List EntryValue) → is_opening h ≡ true → opening_count h ≡ length h
count_all h all = let e = is_opening_count h ∙ all in grind (arith, nat_tests)

opened_with : (b : Bool) (e : EntryValue) (h : List EntryValue) (n : ℕ) → (e.session == 0) ≡ b → take n h ++ map opened (drop n h) ≡ map opened h
    → take (cond b (1 + n) 0) (e ∷ h) ++ map opened (drop (cond b (1 + n) 0) (e ∷ h)) ≡ map opened (e ∷ h)
opened_with true e h n is rest =
    let z : e.session ≡ 0 = grind (arith, nat_tests) in
    rw (one_and n) (ap (λ (es : List EntryValue). e ∷ es) rest ∙ ap (λ (s : ℕ). entry_of s e.call e.reply ∷ map opened h) z) where
      one_and : (n : ℕ) → 1 + n ≡ suc n
      one_and n = omega arith
opened_with false e h n is rest = refl

-- those that are of the opening already stay as they are
pub opened_behind : (h : List EntryValue) → take (opening_count h) h ++ map opened (drop (opening_count h) h) ≡ map opened h
opened_behind [] = refl
opened_behind (e ∷ h) = opened_with (e.session == 0) e h (opening_count h) refl (opened_behind h)
