-- Lines stand for one file at most.
use Rattle.std.proofs.Common.{◌≡◌, ℕ, ◌+◌, List, [], ◌∷◌, ◌++◌, Some, None, refl, sym, ap, ◌∙◌, append_assoc}
use Rattle.cwr_grammar.specs.declared.role.Role.{Role}
use Rattle.cwr_grammar.specs.declared.role.Role.TheVariants.{FileHeader, GroupHeader, TransactionHeader, Detail, GroupTrailer, FileTrailer, Unnamed}
use Rattle.cwr_record.specs.declared.works.WorkKind.{WorkKind}
use Rattle.cwr_grammar.specs.Roles.{role_of}
use Rattle.cwr_grammar.specs.File.{File, FileGroup, IsFile, AreGroups, AreTransactions, AreDetails, lines_of_groups, joined}
use Rattle.cwr_grammar.proofs.FileParts.{group_parts}

-- what lines begin with: groups, transactions before the first group head, details before the first head
pub record Cut : Type 0 where
  pub groups : List FileGroup
  pub transactions : List (List (List ℕ))
  pub details : List (List ℕ)
  pub end : List ℕ
  pub trailer : List ℕ
  pub tail : List (List ℕ)

abbrev cut_at : Role → List ℕ → List (List ℕ) → Cut → Cut
cut_at (Detail j d) line rest c = record { groups = c.groups; transactions = c.transactions; details = line ∷ c.details; end = c.end; trailer = c.trailer; tail = c.tail }
cut_at (TransactionHeader k j d) line rest c = record { groups = c.groups; transactions = (line ∷ c.details) ∷ c.transactions; details = []; end = c.end; trailer = c.trailer; tail = c.tail }
cut_at (GroupTrailer i t r) line rest c = record { groups = c.groups; transactions = []; details = []; end = line; trailer = c.trailer; tail = c.tail }
cut_at (GroupHeader (Some k) i) line rest c = record { groups = record { kind = k; head = line; transactions = c.transactions; trailer = c.end } ∷ c.groups; transactions = []; details = []; end = []; trailer = c.trailer; tail = c.tail }
cut_at (GroupHeader None i) line rest c = c
cut_at (FileTrailer g t r) line rest c = record { groups = []; transactions = []; details = []; end = []; trailer = line; tail = rest }
cut_at (FileHeader valid) line rest c = c
cut_at Unnamed line rest c = c

abbrev cut : List (List ℕ) → Cut
cut [] = record { groups = []; transactions = []; details = []; end = []; trailer = []; tail = [] }
cut (line ∷ rest) = cut_at (role_of line) line rest (cut rest)

cut_line : (line : List ℕ) (kind : Role) (rest : List (List ℕ)) (c : Cut) → role_of line ≡ kind → cut rest ≡ c → cut (line ∷ rest) ≡ cut_at kind line rest c
cut_line line kind rest c p q = ap (λ (k : Role). cut_at k line rest (cut rest)) p ∙ ap (cut_at kind line rest) q

cut_details : (j d : ℕ) (ds rest : List (List ℕ)) (gs : List FileGroup) (ts : List (List (List ℕ))) (end trailer : List ℕ) (tail : List (List ℕ)) → AreDetails j d ds
    → cut rest ≡ record { groups = gs; transactions = ts; details = []; end = end; trailer = trailer; tail = tail }
    → cut (ds ++ rest) ≡ record { groups = gs; transactions = ts; details = ds; end = end; trailer = trailer; tail = tail }
cut_details j d [] rest gs ts end trailer tail h e = e
cut_details j d (line ∷ ds) rest gs ts end trailer tail h e = cut_line line _ (ds ++ rest) _ h.0 (cut_details j (d + 1) ds rest gs ts end trailer tail h.1 e)

cut_transactions : (k : WorkKind) (j : ℕ) (ts : List (List (List ℕ))) (rest : List (List ℕ)) (gs : List FileGroup) (end trailer : List ℕ) (tail : List (List ℕ)) → AreTransactions k j ts
    → cut rest ≡ record { groups = gs; transactions = []; details = []; end = end; trailer = trailer; tail = tail }
    → cut (joined ts ++ rest) ≡ record { groups = gs; transactions = ts; details = []; end = end; trailer = trailer; tail = tail }
cut_transactions k j [] rest gs end trailer tail h e = e
cut_transactions k j ([] ∷ ts) rest gs end trailer tail h e = absurd h.0
cut_transactions k j ((line ∷ ds) ∷ ts) rest gs end trailer tail h e =
    ap (λ (xs : List (List ℕ)). cut (line ∷ xs)) (append_assoc ds (joined ts) rest)
    ∙ cut_line line _ (ds ++ (joined ts ++ rest)) _ h.0.0 (cut_details j 1 ds (joined ts ++ rest) gs ts end trailer tail h.0.1 (cut_transactions k (j + 1) ts rest gs end trailer tail h.1 e))

cut_groups : (i : ℕ) (gs : List FileGroup) (rest : List (List ℕ)) (trailer : List ℕ) (tail : List (List ℕ)) → AreGroups i gs
    → cut rest ≡ record { groups = []; transactions = []; details = []; end = []; trailer = trailer; tail = tail }
    → cut (lines_of_groups gs ++ rest) ≡ record { groups = gs; transactions = []; details = []; end = []; trailer = trailer; tail = tail }
cut_groups i [] rest trailer tail h e = e
cut_groups i (g ∷ gs) rest trailer tail (head, others) e =
    let after = cut_line g.trailer _ (lines_of_groups gs ++ rest) _ head.trailer (cut_groups (i + 1) gs rest trailer tail others e) in
    let body = cut_transactions g.kind 0 g.transactions (g.trailer ∷ (lines_of_groups gs ++ rest)) gs g.trailer trailer tail head.transactions after in
    ap cut (group_parts g (lines_of_groups gs) rest) ∙ cut_line g.head _ (joined g.transactions ++ (g.trailer ∷ (lines_of_groups gs ++ rest))) _ head.head body

abbrev file_cut : List (List ℕ) → File
file_cut [] = record { header = []; groups = []; trailer = []; tail = [] }
file_cut (line ∷ rest) = record { header = line; groups = (cut rest).groups; trailer = (cut rest).trailer; tail = (cut rest).tail }

file_is : (text : List (List ℕ)) (f : File) → IsFile text f → file_cut text ≡ f
file_is text f h =
    ap file_cut (h.lines ∙ ap (λ (xs : List (List ℕ)). f.header ∷ xs) (append_assoc (lines_of_groups f.groups) (f.trailer ∷ []) f.tail))
    ∙ ap (λ (c : Cut). record { header = f.header; groups = c.groups; trailer = c.trailer; tail = c.tail }) (cut_groups 1 f.groups (f.trailer ∷ f.tail) f.trailer f.tail h.groups (cut_line f.trailer _ f.tail (cut f.tail) h.trailer refl))

pub one_file : (text : List (List ℕ)) (f g : File) → IsFile text f → IsFile text g → f ≡ g
one_file text f g h i = sym (file_is text f h) ∙ file_is text g i
