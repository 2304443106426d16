-- What becomes of one more instance, by the table of owners.
use Rattle.std.proofs.Common.{◌≡◌, ◌∙◌, ◌+◌, ◌++◌, ◌∷◌, [], ℕ, List, Option, None, Some, cond, length, sym, ap, subst, arith}
use Rattle.std.proofs.lemmas.List.{length_push}
use Rattle.gl_match.specs.declared.role.Pick.{Pick}
use Rattle.gl_match.specs.declared.role.Pick.TheVariants.{Taken, Over}
use Rattle.gl_match.specs.Graph.{is_in}
use Rattle.gl_match.specs.Choice.{is_taken}
use Rattle.gl_cover.specs.Owners.{Keeps, least_owner, owner_at}
use Rattle.gl_match.specs.Picks.{chosen_after, first_that, meets, over_or, pick_after}
use Rattle.gl_cover.proofs.Finding.{found, owner_of, owner_push}

by_table : (first : ℕ) (chosen : List (List ℕ)) (owners : List (Option ℕ)) (next : ℕ) (set : List ℕ) (o : Option ℕ) → Keeps first chosen owners next → o ≡ least_owner owners set → o ≡ first_that (meets set) first chosen
by_table first chosen owners next set o h is = is ∙ found first chosen owners set h.owners_are

pub pick_over : (first : ℕ) (chosen : List (List ℕ)) (owners : List (Option ℕ)) (next : ℕ) (set : List ℕ) (number : ℕ) → Keeps first chosen owners next → Some number ≡ least_owner owners set → Over number ≡ pick_after first chosen set
pick_over first chosen owners next set number h is = ap (λ o. over_or o (first + length chosen)) (by_table first chosen owners next set (Some number) h is)

pub pick_next : (first : ℕ) (chosen : List (List ℕ)) (owners : List (Option ℕ)) (next : ℕ) (set : List ℕ) → Keeps first chosen owners next → None ≡ least_owner owners set → Taken next ≡ pick_after first chosen set
pick_next first chosen owners next set h is = ap Taken h.next_is ∙ ap (λ o. over_or o (first + length chosen)) (by_table first chosen owners next set None h is)

pub kept_over : (first : ℕ) (chosen : List (List ℕ)) (owners : List (Option ℕ)) (next : ℕ) (set : List ℕ) (number : ℕ) → Keeps first chosen owners next → Some number ≡ least_owner owners set → Keeps first (chosen_after first chosen set) owners next
kept_over first chosen owners next set number h is =
    let same : chosen ≡ chosen_after first chosen set = ap (λ (p : Pick). cond (is_taken p) (chosen ++ set ∷ []) chosen) (pick_over first chosen owners next set number h is) in
    subst (λ (ss : List (List ℕ)). Keeps first ss owners next) same h

pub kept_next : (first : ℕ) (chosen : List (List ℕ)) (owners new : List (Option ℕ)) (next : ℕ) (set : List ℕ) → Keeps first chosen owners next → None ≡ least_owner owners set → ((dev : ℕ) → owner_at new dev ≡ cond (is_in set dev) (Some next) (owner_at owners dev)) → Keeps first (chosen_after first chosen set) new (next + 1)
kept_next first chosen owners new next set h is given =
    let more : chosen ++ set ∷ [] ≡ chosen_after first chosen set = ap (λ (p : Pick). cond (is_taken p) (chosen ++ set ∷ []) chosen) (pick_next first chosen owners next set h is) in
    let none : first_that (meets set) first chosen ≡ None = sym (by_table first chosen owners next set None h is) in
    let all : Keeps first (chosen ++ set ∷ []) new (next + 1) = record {
      owners_are = λ dev.
          given dev
          ∙ ap (λ o. cond (is_in set dev) (Some next) o) (h.owners_are dev)
          ∙ ap (λ k. cond (is_in set dev) (Some k) (owner_of first chosen dev)) h.next_is
          ∙ sym (owner_push first chosen set dev none);
      next_is = omega (arith, h.next_is, length_push chosen set);
    } in
    subst (λ (ss : List (List ℕ)). Keeps first ss new (next + 1)) more all
