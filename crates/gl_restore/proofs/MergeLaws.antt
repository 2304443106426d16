-- Old names that an earlier line has, looked for with a table of those before.
use Rattle.std.proofs.Common.{◌≡◌, ◌+◌, ◌<◌, ℕ, List, [], ◌∷◌, ◌++◌, Bool, true, false, cond, not, length, take, get_or, sym, ap, ◌∙◌}
use Rattle.std.proofs.lemmas.List.{map-append, take_more}
use Rattle.indexmap.specs.IndexSet.{insert_key}
use Rattle.gl_text.specs.LogicalLines.{same_text}
use Rattle.gl_text.specs.Decks.{is_in}
use Rattle.gl_lifting.specs.Renaming.{is_merged, old_names}
use Rattle.gl_restore.proofs.LineLaws.{Line}

negated : (b : Bool) (c : Bool) → c ≡ not b → b ≡ not c
negated true c e = sym (ap not e)
negated false c e = sym (ap not e)

-- whether a name was new says whether its line merges
pub merged_is : (lines : List Line) (keys : List (List ℕ)) (old : List ℕ) (line : Line) (fresh : Bool) → keys ≡ old_names lines → old ≡ line.1 → fresh ≡ not (is_in old keys)
    → is_merged lines line ≡ not fresh
merged_is lines keys old line fresh keys_are old_is e =
    ap (is_in line.1) (sym keys_are) ∙ ap (λ n. is_in n keys) (sym old_is) ∙ negated (is_in old keys) fresh e

-- a new name goes behind the others
pub olds_more : (lines : List Line) (i : ℕ) (line : Line) (keys more : List (List ℕ)) (old : List ℕ) (fresh : Bool) → i < length lines → line ≡ get_or lines i line
    → keys ≡ old_names (take i lines) → old ≡ line.1 → fresh ≡ not (is_in old keys) → fresh ≡ true → more ≡ insert_key same_text keys old → more ≡ old_names (take (i + 1) lines)
olds_more lines i line keys more old fresh lt is keys_are old_is e on more_is =
    more_is
    ∙ ap (λ b. cond b keys (keys ++ old ∷ [])) (negated (is_in old keys) fresh e ∙ ap not on)
    ∙ ap (λ (ks : List (List ℕ)). ks ++ old ∷ []) keys_are
    ∙ ap (λ (n : List ℕ). old_names (take i lines) ++ n ∷ []) old_is
    ∙ sym (map-append (λ (n : Line). n.1) (take i lines) (line ∷ []))
    ∙ ap old_names (sym (take_more lines i line lt ∙ ap (λ (n : Line). take i lines ++ n ∷ []) (sym is)))
