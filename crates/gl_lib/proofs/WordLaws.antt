-- The type words of models: the first of each name.
use Rattle.std.proofs.Common.{◌≡◌, ◌+◌, ◌<◌, ◌≤◌, ℕ, List, [], ◌∷◌, ◌++◌, Bool, true, false, cond, Option, None, Some, length, drop, get_or, refl, sym, ap, ◌∙◌}
use Rattle.std.specs.Prelude.{find, option_map}
use Rattle.std.proofs.lemmas.List.{drop_more, drop_all}
use Rattle.gl_text.specs.LogicalLines.{same_text}
use Rattle.gl_text.specs.Cards.{Model}
use Rattle.gl_base.specs.TypeNames.{word_of}
use Rattle.gl_lib.specs.Keys.{first_of}

first_assoc : (a b c : Option (List ℕ)) → first_of (first_of a b) c ≡ first_of a (first_of b c)
first_assoc None b c = refl
first_assoc (Some x) b c = refl

first_none : (a : Option (List ℕ)) → first_of a None ≡ a
first_none None = refl
first_none (Some x) = refl

-- the first model, then the others
pub word_cons : (m : Model) (ms : List Model) (name : List ℕ) → word_of (m ∷ ms) name ≡ first_of (word_of (m ∷ []) name) (word_of ms name)
word_cons m ms name = go (same_text m.name name) where
  go : (b : Bool) → option_map (λ (x : Model). x.word) (cond b (Some m) (find (λ (x : Model). same_text x.name name) ms)) ≡ first_of (option_map (λ (x : Model). x.word) (cond b (Some m) None)) (word_of ms name)
  go true = refl
  go false = refl

pub word_append : (ms ns : List Model) (name : List ℕ) → word_of (ms ++ ns) name ≡ first_of (word_of ms name) (word_of ns name)
word_append [] ns name = refl
word_append (m ∷ ms) ns name =
    word_cons m (ms ++ ns) name
    ∙ ap (first_of (word_of (m ∷ []) name)) (word_append ms ns name)
    ∙ sym (first_assoc (word_of (m ∷ []) name) (word_of ms name) (word_of ns name))
    ∙ ap (λ w. first_of w (word_of ns name)) (sym (word_cons m ms name))

-- one step of a loop over models; before and after are the words of one name
pub word_step : (models : List Model) (i : ℕ) (m : Model) (name : List ℕ) (before after whole : Option (List ℕ)) → i < length models → m ≡ get_or models i m → after ≡ first_of before (word_of (m ∷ []) name) → first_of before (word_of (drop i models) name) ≡ whole → first_of after (word_of (drop (i + 1) models) name) ≡ whole
word_step models i m name before after whole lt m_is after_is so_far =
    let rest : List Model = drop (i + 1) models in
    let split : drop i models ≡ m ∷ rest = drop_more models i m lt ∙ ap (λ c. c ∷ rest) (sym m_is) in
    ap (λ w. first_of w (word_of rest name)) after_is
    ∙ first_assoc before (word_of (m ∷ []) name) (word_of rest name)
    ∙ ap (first_of before) (sym (word_cons m rest name) ∙ ap (λ ms. word_of ms name) (sym split))
    ∙ so_far

-- at its end
pub word_done : (models : List Model) (i : ℕ) (name : List ℕ) (now whole : Option (List ℕ)) → length models ≤ i → first_of now (word_of (drop i models) name) ≡ whole → now ≡ whole
word_done models i name now whole past e =
    sym (first_none now) ∙ ap (λ ms. first_of now (word_of ms name)) (sym (drop_all i models past)) ∙ e

-- the deck's models and then the library's, from no word
pub words_read : (start first second : Option (List ℕ)) (deck library : List Model) (name : List ℕ) → start ≡ None → first ≡ first_of start (word_of deck name) → second ≡ first_of first (word_of library name) → second ≡ word_of (deck ++ library) name
words_read start first second deck library name none one two =
    two
    ∙ ap (λ w. first_of w (word_of library name)) (one ∙ ap (λ w. first_of w (word_of deck name)) none)
    ∙ sym (word_append deck library name)
