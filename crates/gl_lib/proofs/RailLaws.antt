-- The rails of a run, from the names that are inserted.
use Rattle.std.proofs.Common.{◌≡◌, ◌+◌, ◌≤◌, ℕ, List, [], ◌∷◌, ◌++◌, length, length-append, sym, ap, ◌∙◌, subst, arith}
use Rattle.std.specs.Prelude.{not, filter, codes}
use Rattle.indexmap.specs.IndexSet.{insert_all}
use Rattle.gl_text.specs.LogicalLines.{same_text}
use Rattle.gl_text.specs.Decks.{once}
use Rattle.std.specs.List.{AllByRecursion}
use Rattle.gl_text.specs.Cards.{global}
use Rattle.gl_printed.specs.ReadCards.{IsFine}
use Rattle.gl_printed.specs.FlatDecks.{AreRails as Rails}
use Rattle.gl_printed.proofs.Each.{each_append, each_filter}
use Rattle.gl_base.specs.Rails.{run_rails, AreRails}
use Rattle.gl_base.proofs.OnceLaws.{length_filter}
use Rattle.gl_base.proofs.TextLaws.{rails_are, names_fewer}
use Rattle.gl_lib.proofs.InsertLaws.{both_inserted}

pub rails_inserted : (start first second rails deck library : List (List ℕ)) → start ≡ [] → first ≡ insert_all same_text start deck → second ≡ insert_all same_text first library → rails ≡ filter (λ name. not (same_text name (codes "0"))) second → rails ≡ run_rails deck library
rails_inserted start first second rails deck library empty one two e =
    e ∙ ap (filter (λ name. not (same_text name (codes "0")))) (both_inserted start first second deck library empty one two)

pub rails_sound : (rails deck library : List (List ℕ)) → rails ≡ run_rails deck library → AreRails rails
rails_sound rails deck library e = subst AreRails (sym e) (rails_are deck library)

pub rails_few : (rails deck library : List (List ℕ)) → rails ≡ run_rails deck library → length rails ≤ length deck + length library
rails_few rails deck library e =
    let same = ap length e in
    omega (arith, same, length_filter (λ name. not (same_text name (codes "0"))) (once (deck ++ library)), names_fewer (deck ++ library), length-append deck library)

-- what holds of each name holds of each that stands once
each_once_of : (P : List ℕ → Type 0) (names : List (List ℕ)) → AllByRecursion P names → AllByRecursion P (once names)
each_once_of P [] h = tt
each_once_of P (n ∷ ns) h = (h.0, each_filter P (λ m. not (same_text n m)) (once ns) (each_once_of P ns h.1))

-- the rails of a run from fine names can be the rails of a flat deck
pub rails_fine : (deck library : List (List ℕ)) → AllByRecursion (λ n. IsFine (global (n ∷ []))) deck → AllByRecursion (λ n. IsFine (global (n ∷ []))) library → Rails (run_rails deck library)
rails_fine deck library first second =
    let P : List ℕ → Type 0 = λ n. IsFine (global (n ∷ [])) in
    let are = rails_are deck library in
    record {
      fine = each_filter P (λ name. not (same_text name (codes "0"))) (once (deck ++ library)) (each_once_of P (deck ++ library) (each_append P deck library first second));
      differ = are.differ;
      no_zero = are.no_zero;
    }
