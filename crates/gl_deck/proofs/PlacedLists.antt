-- Lists over the cards that were placed, and tables that grow.
use Rattle.std.proofs.Common.{◌≡◌, ◌<◌, ℕ, List, [], ◌∷◌, ◌++◌, cond, eqb, true, false, Bool, Option, Some, None, refl, sym, ap, ◌∙◌, arith, inl, inr}
use Rattle.std.specs.Prelude.{filter_map, ⊤, length, option_to_list}
use Rattle.std.specs.List.{cons_option}
use Rattle.std.specs.Map.{lookup}
use Rattle.std.proofs.lemmas.Bool.{cases_Bool, eqb-true}
use Rattle.std.proofs.lemmas.List.{append-nil}
use Rattle.std.proofs.lemmas.List.Elements.{filter_map-append}
use Rattle.std.specs.Cmp.{nat_eq_equiv}
use Rattle.indexmap.specs.IndexMap.{insert_entry}
use Rattle.gl_text.specs.LogicalLines.{same_text}
use Rattle.gl_text.specs.Cards.{Card, call}
use Rattle.gl_text.specs.Decks.{Body, Sub, Scope, Placed, Named, in_scope, of_model, named, body_of}
use Rattle.gl_deck.specs.Calls.{Site}
use Rattle.gl_deck.specs.Drafts.{scope_of}

-- ---- lists over placed cards

abbrev pub placed : Option Sub → ℕ → Card → Placed
placed cur l card = record { scope = scope_of cur; line = l; card = card }

-- what stands in the table of names of the scope that begins at a line
abbrev pub entry_at : ℕ → ℕ → Named → Option (List ℕ × ℕ)
entry_at t line (in_scope s n) = cond (eqb t s) (Some (n, line)) None
entry_at t line _ = None

abbrev pub name_in : ℕ → Placed → Option (List ℕ × ℕ)
name_in t p = entry_at t p.line (named p)

abbrev pub names_in : ℕ → List Placed → List (List ℕ × ℕ)
names_in t cards = filter_map (name_in t) cards

-- what stands in the table of models
abbrev pub model_entry : ℕ → Named → Option (List ℕ × ℕ)
model_entry line (of_model n) = Some (n, line)
model_entry line _ = None

abbrev pub model_name : Placed → Option (List ℕ × ℕ)
model_name p = model_entry p.line (named p)

abbrev pub body_in : ℕ → Placed → Option Body
body_in t p = cond (eqb p.scope.line t) (body_of p) None

abbrev pub site_by : Scope → ℕ → Card → Option Site
site_by scope line (call c) = Some (record { line = line; scope = scope; sub = c.sub; nodes = length c.nodes })
site_by scope line _ = None

abbrev pub site_at : Placed → Option Site
site_at p = site_by p.scope p.line p.card

single : {X : Type 0} (o : Option X) → cons_option o [] ≡ option_to_list o
single None = refl
single (Some x) = refl

pub push : {X : Type 0} (h : Placed → Option X) (cards : List Placed) (p : Placed) → filter_map h (cards ++ p ∷ []) ≡ filter_map h cards ++ option_to_list (h p)
push h cards p = filter_map-append h cards (p ∷ []) ∙ ap (λ t. filter_map h cards ++ t) (single (h p))

-- a part that is a list over the cards is one over the cards and one more
pub grown : {X : Type 0} (h : Placed → Option X) (cards : List Placed) (p : Placed) (old new : List X) → old ≡ filter_map h cards → new ≡ old ++ option_to_list (h p) → new ≡ filter_map h (cards ++ p ∷ [])
grown h cards p old new e step = step ∙ ap (λ t. t ++ option_to_list (h p)) e ∙ sym (push h cards p)

pub none_more : {X : Type 0} (xs : List X) (b : Bool) → xs ≡ xs ++ option_to_list (cond b None None)
none_more xs true = sym (append-nil xs)
none_more xs false = sym (append-nil xs)

-- ---- numbers of lines

pub apart : (m n : ℕ) → m < n → eqb m n ≡ false
apart m n h = elim (cases_Bool (eqb m n)) [
  | inl t ↦ absurd (let e = eqb-true m n t in omega arith)
  | inr f ↦ f
]

pub apart_back : (m n : ℕ) → m < n → eqb n m ≡ false
apart_back m n h = elim (cases_Bool (eqb n m)) [
  | inl t ↦ absurd (let e = eqb-true n m t in omega arith)
  | inr f ↦ f
]

pub same_number : (n : ℕ) → eqb n n ≡ true
same_number n = nat_eq_equiv.refl n

-- an open subcircuit has a line
abbrev pub IsNumbered : Option Sub → Type 0
IsNumbered None = ⊤
IsNumbered (Some s) = 0 < s.line

-- ---- a name that is not in a table goes last

absent_by : {X : Type 0} (b : Bool) (k : List ℕ) (v : X) (e : List ℕ × X) (es : List (List ℕ × X)) → cond b (Some e.1) (lookup (same_text k) es) ≡ None
    → (lookup (same_text k) es ≡ None → insert_entry same_text es k v ≡ es ++ (k, v) ∷ []) → cond b ((e.0, v) ∷ es) (e ∷ insert_entry same_text es k v) ≡ e ∷ (es ++ (k, v) ∷ [])
absent_by true k v e es h rest = absurd cc
absent_by false k v e es h rest = ap (λ t. e ∷ t) (rest h)

pub absent : {X : Type 0} (k : List ℕ) (v : X) (es : List (List ℕ × X)) → lookup (same_text k) es ≡ None → insert_entry same_text es k v ≡ es ++ (k, v) ∷ []
absent k v [] h = refl
absent k v (e ∷ es) h = absent_by (same_text k e.0) k v e es h (absent k v es)
