-- Lines whose types are those of an envelope are cut into its groups.
use Rattle.std.proofs.Common.{◌≡◌, ℕ, zero, suc, ◌+◌, List, [], ◌∷◌, ◌++◌, length, map, Some, arith, refl, sym, ap, ◌∙◌, append_assoc, length-append}
use Rattle.cwr_grammar.specs.declared.role.Role.{Role}
use Rattle.cwr_grammar.specs.declared.role.Role.TheVariants.{GroupHeader, TransactionHeader, Detail, GroupTrailer}
use Rattle.cwr_record.specs.declared.works.WorkKind.{WorkKind}
use Rattle.cwr_grammar.specs.Roles.{role_of}
use Rattle.cwr_grammar.proofs.Enveloped.{Group, transaction, transactions_from, size, all_transactions_of, all_lines_of, group_text, groups_from}
use Rattle.cwr_grammar.specs.File.{FileGroup, AreGroups, AreTransactions, AreDetails, lines_of_groups, joined, transactions_in}
use Rattle.cwr_grammar.proofs.Accepted.{details_from}
use Rattle.cwr_grammar.proofs.Complete.{group_end_is}

pub record FirstIs (xs : List (List ℕ)) (y : Role) (ys : List Role) : Type 0 where
  pub line : List ℕ
  pub rest : List (List ℕ)
  pub is : xs ≡ line ∷ rest
  pub read : role_of line ≡ y
  pub others : map role_of rest ≡ ys

abbrev head_of : Role → List Role → Role
head_of d [] = d
head_of d (y ∷ ys) = y

abbrev tail_of : List Role → List Role
tail_of [] = []
tail_of (y ∷ ys) = ys

pub first_is : (xs : List (List ℕ)) (y : Role) (ys : List Role) → map role_of xs ≡ y ∷ ys → FirstIs xs y ys
first_is [] y ys e = absurd cc
first_is (x ∷ xs) y ys e = record { line = x; rest = xs; is = refl; read = ap (head_of y) e; others = ap tail_of e }

pub record DetailsCut (j d n : ℕ) (xs : List (List ℕ)) (after : List Role) : Type 0 where
  pub details : List (List ℕ)
  pub rest : List (List ℕ)
  pub is : xs ≡ details ++ rest
  pub are : AreDetails j d details
  pub others : map role_of rest ≡ after
  pub count : length details ≡ n

details_cut : (n j d : ℕ) (xs : List (List ℕ)) (after : List Role) → map role_of xs ≡ details_from j d n ++ after → DetailsCut j d n xs after
details_cut zero j d xs after e = record { details = []; rest = xs; is = refl; are = tt; others = e; count = refl }
details_cut (suc n) j d xs after e =
    let first = first_is xs (Detail (Some j) (Some d)) (details_from j (d + 1) n ++ after) e in
    let more = details_cut n j (d + 1) first.rest after first.others in
    record {
      details = first.line ∷ more.details;
      rest = more.rest;
      is = first.is ∙ ap (λ (ls : List (List ℕ)). first.line ∷ ls) more.is;
      are = (first.read, more.are);
      others = more.others;
      count = ap suc more.count;
    }

pub record TransactionsCut (k : WorkKind) (j : ℕ) (ns : List ℕ) (xs : List (List ℕ)) (after : List Role) : Type 0 where
  pub transactions : List (List (List ℕ))
  pub rest : List (List ℕ)
  pub is : xs ≡ joined transactions ++ rest
  pub are : AreTransactions k j transactions
  pub others : map role_of rest ≡ after
  pub count : length transactions ≡ length ns
  pub lines : length (joined transactions) ≡ size ns

transactions_cut : (ns : List ℕ) (k : WorkKind) (j : ℕ) (xs : List (List ℕ)) (after : List Role) → map role_of xs ≡ transactions_from k j ns ++ after → TransactionsCut k j ns xs after
transactions_cut [] k j xs after e = record { transactions = []; rest = xs; is = refl; are = tt; others = e; count = refl; lines = refl }
transactions_cut (n ∷ ns) k j xs after e =
    let first = first_is xs (TransactionHeader (Some k) (Some j) (Some 0)) (details_from j 1 n ++ (transactions_from k (j + 1) ns ++ after)) (e ∙ append_assoc (transaction k j n) (transactions_from k (j + 1) ns) after) in
    let here = details_cut n j 1 first.rest (transactions_from k (j + 1) ns ++ after) first.others in
    let more = transactions_cut ns k (j + 1) here.rest after here.others in
    record {
      transactions = (first.line ∷ here.details) ∷ more.transactions;
      rest = more.rest;
      is = first.is ∙ ap (λ (ls : List (List ℕ)). first.line ∷ ls) (here.is ∙ ap (λ (ls : List (List ℕ)). here.details ++ ls) more.is ∙ sym (append_assoc here.details (joined more.transactions) more.rest));
      are = ((first.read, here.are), more.are);
      others = more.others;
      count = ap suc more.count;
      lines = omega (arith, here.count, more.lines, length-append here.details (joined more.transactions));
    }

pub record GroupsCut (i : ℕ) (gs : List Group) (xs : List (List ℕ)) (after : List Role) : Type 0 where
  pub groups : List FileGroup
  pub rest : List (List ℕ)
  pub is : xs ≡ lines_of_groups groups ++ rest
  pub are : AreGroups i groups
  pub others : map role_of rest ≡ after
  pub count : length groups ≡ length gs
  pub transactions : transactions_in groups ≡ all_transactions_of gs
  pub lines : length (lines_of_groups groups) ≡ all_lines_of gs

group_joined : (head trailer : List ℕ) (ts : List (List (List ℕ))) (others rest : List (List ℕ)) → head ∷ (joined ts ++ (trailer ∷ (others ++ rest))) ≡ head ∷ joined ts ++ trailer ∷ [] ++ others ++ rest
group_joined head trailer ts others rest =
    sym (append_assoc (head ∷ joined ts ++ trailer ∷ []) others rest ∙ ap (λ (xs : List (List ℕ)). head ∷ xs) (append_assoc (joined ts) (trailer ∷ []) (others ++ rest)))

pub groups_cut : (gs : List Group) (i : ℕ) (xs : List (List ℕ)) (after : List Role) → map role_of xs ≡ groups_from i gs ++ after → GroupsCut i gs xs after
groups_cut [] i xs after e = record { groups = []; rest = xs; is = refl; are = tt; others = e; count = refl; transactions = refl; lines = refl }
groups_cut (g ∷ gs) i xs after e =
    let end = GroupTrailer (Some i) (Some (length g.details)) (Some (2 + size g.details)) in
    let grouped : groups_from i (g ∷ gs) ++ after ≡ GroupHeader (Some g.kind) (Some i) ∷ (transactions_from g.kind 0 g.details ++ (GroupTrailer (Some i) (Some (length g.details)) (Some (2 + size g.details)) ∷ (groups_from (i + 1) gs ++ after))) =
    append_assoc (group_text i g) (groups_from (i + 1) gs) after ∙ ap (λ (y : List Role). GroupHeader (Some g.kind) (Some i) ∷ y) (append_assoc (transactions_from g.kind 0 g.details) (end ∷ []) (groups_from (i + 1) gs ++ after)) in
    let first = first_is xs _ _ (e ∙ grouped) in
    let here = transactions_cut g.details g.kind 0 first.rest _ first.others in
    let last = first_is here.rest _ _ here.others in
    let more = groups_cut gs (i + 1) last.rest after last.others in
    record {
      groups = record { kind = g.kind; head = first.line; transactions = here.transactions; trailer = last.line } ∷ more.groups;
      rest = more.rest;
      is =
          first.is
          ∙ ap (λ (ls : List (List ℕ)). first.line ∷ ls) (here.is ∙ ap (λ (ls : List (List ℕ)). joined here.transactions ++ ls) (last.is ∙ ap (λ (ls : List (List ℕ)). last.line ∷ ls) more.is))
          ∙ group_joined first.line last.line here.transactions (lines_of_groups more.groups) more.rest;
      are = (
        record { head = first.read; transactions = here.are; trailer = last.read ∙ group_end_is i (length g.details) (2 + size g.details) (length here.transactions) (2 + length (joined here.transactions)) (sym here.count) (omega (arith, here.lines)) },
        more.are,
      );
      others = more.others;
      count = ap suc more.count;
      transactions = omega (arith, here.count, more.transactions);
      lines = omega (
        arith,
        here.lines,
        more.lines,
        length-append (first.line ∷ joined here.transactions ++ last.line ∷ []) (lines_of_groups more.groups),
        length-append (joined here.transactions) (last.line ∷ []),
      );
    }
