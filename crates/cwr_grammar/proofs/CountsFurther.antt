-- The counts of groups and records, one line further.
use Rattle.std.proofs.Common.{◌≡◌, ℕ, suc, ◌+◌, true, false, List, ◌∷◌, arith, sym, ap, ◌∙◌}
use Rattle.cwr_grammar.specs.declared.role.Role.{Role}
use Rattle.cwr_grammar.specs.declared.role.Role.TheVariants.{FileHeader, GroupHeader, TransactionHeader, Detail, GroupTrailer, FileTrailer, Unnamed}
use Rattle.cwr_grammar.specs.Roles.{role_of}
use Rattle.cwr_grammar.specs.Before.{groups, is_file_trailer}
use Rattle.cwr_grammar.specs.Collected.{group_count, group_count_at, record_count, record_count_at}

groups_advance_at : (role : Role) (before : List Role) (n total : ℕ) → is_file_trailer role ≡ false → groups before + group_count_at role n ≡ total → groups (role ∷ before) + n ≡ total
groups_advance_at (GroupHeader k i) before n total e h = omega (arith, h)
groups_advance_at (FileHeader valid) before n total e h = h
groups_advance_at Unnamed before n total e h = h
groups_advance_at (GroupTrailer i t r) before n total e h = h
groups_advance_at (TransactionHeader k j d) before n total e h = h
groups_advance_at (Detail j d) before n total e h = h
groups_advance_at (FileTrailer a b c) before n total e h = absurd cc

records_advance_at : (role : Role) (l n total : ℕ) → is_file_trailer role ≡ false → l + record_count_at role n ≡ total → suc l + n ≡ total
records_advance_at (GroupHeader k i) l n total e h = omega (arith, h)
records_advance_at (FileHeader valid) l n total e h = omega (arith, h)
records_advance_at Unnamed l n total e h = omega (arith, h)
records_advance_at (GroupTrailer i t r) l n total e h = omega (arith, h)
records_advance_at (TransactionHeader k j d) l n total e h = omega (arith, h)
records_advance_at (Detail j d) l n total e h = omega (arith, h)
records_advance_at (FileTrailer a b c) l n total e h = absurd cc

groups_end_at : (role : Role) (before : List Role) (n total : ℕ) → is_file_trailer role ≡ true → groups before + group_count_at role n ≡ total → groups (role ∷ before) ≡ total
groups_end_at (FileTrailer a b c) before n total e h = omega (arith, h)
groups_end_at (GroupHeader k i) before n total e h = absurd cc
groups_end_at (FileHeader valid) before n total e h = absurd cc
groups_end_at Unnamed before n total e h = absurd cc
groups_end_at (GroupTrailer i t r) before n total e h = absurd cc
groups_end_at (TransactionHeader k j d) before n total e h = absurd cc
groups_end_at (Detail j d) before n total e h = absurd cc

records_end_at : (role : Role) (l n total : ℕ) → is_file_trailer role ≡ true → l + record_count_at role n ≡ total → suc l ≡ total
records_end_at (FileTrailer a b c) l n total e h = omega (arith, h)
records_end_at (GroupHeader k i) l n total e h = absurd cc
records_end_at (FileHeader valid) l n total e h = absurd cc
records_end_at Unnamed l n total e h = absurd cc
records_end_at (GroupTrailer i t r) l n total e h = absurd cc
records_end_at (TransactionHeader k j d) l n total e h = absurd cc
records_end_at (Detail j d) l n total e h = absurd cc

pub groups_advance : (role : Role) (before : List Role) (line : List ℕ) (text rest : List (List ℕ)) (total : ℕ) → text ≡ line ∷ rest → role_of line ≡ role → is_file_trailer role ≡ false
    → groups before + group_count text ≡ total → groups (role ∷ before) + group_count rest ≡ total
groups_advance role before line text rest total split p e h =
    groups_advance_at role before (group_count rest) total e (ap (λ (k : Role). groups before + group_count_at k (group_count rest)) (sym p) ∙ ap (λ (ls : List (List ℕ)). groups before + group_count ls) (sym split) ∙ h)

pub records_advance : (role : Role) (l : ℕ) (line : List ℕ) (text rest : List (List ℕ)) (total : ℕ) → text ≡ line ∷ rest → role_of line ≡ role → is_file_trailer role ≡ false
    → l + record_count text ≡ total → suc l + record_count rest ≡ total
records_advance role l line text rest total split p e h =
    records_advance_at role l (record_count rest) total e (ap (λ (k : Role). l + record_count_at k (record_count rest)) (sym p) ∙ ap (λ (ls : List (List ℕ)). l + record_count ls) (sym split) ∙ h)

pub groups_end : (role : Role) (before : List Role) (line : List ℕ) (text rest : List (List ℕ)) (total : ℕ) → text ≡ line ∷ rest → role_of line ≡ role → is_file_trailer role ≡ true
    → groups before + group_count text ≡ total → groups (role ∷ before) ≡ total
groups_end role before line text rest total split p e h =
    groups_end_at role before (group_count rest) total e (ap (λ (k : Role). groups before + group_count_at k (group_count rest)) (sym p) ∙ ap (λ (ls : List (List ℕ)). groups before + group_count ls) (sym split) ∙ h)

pub records_end : (role : Role) (l : ℕ) (line : List ℕ) (text rest : List (List ℕ)) (total : ℕ) → text ≡ line ∷ rest → role_of line ≡ role → is_file_trailer role ≡ true
    → l + record_count text ≡ total → suc l ≡ total
records_end role l line text rest total split p e h =
    records_end_at role l (record_count rest) total e (ap (λ (k : Role). l + record_count_at k (record_count rest)) (sym p) ∙ ap (λ (ls : List (List ℕ)). l + record_count ls) (sym split) ∙ h)
