-- A name is taken behind placed cards exactly where it is in the tables of their draft.
use Rattle.std.proofs.Common.{◌≡◌, ℕ, List, [], ◌∷◌, map, cond, eqb, true, false, Bool, Option, Some, None, refl, sym, ap, ◌∙◌}
use Rattle.std.specs.Prelude.{filter_map, find, option_map, ◌&&◌}
use Rattle.std.specs.List.{cons_option}
use Rattle.std.specs.Map.{lookup, keys_of, values_of}
use Rattle.std.proofs.lemmas.List.{append-nil}
use Rattle.gl_text.specs.LogicalLines.{Fault, same_text, duplicate_name}
use Rattle.gl_text.specs.Cards.{Head, Card, dev, call, model, subckt, ends, global, ended, passed}
use Rattle.gl_text.specs.Decks.{Sub, Scope, Placed, in_scope, of_model, of_sub, nothing, named, same_named, duplicate}
use Rattle.gl_deck.specs.Bodies.{names_of}
use Rattle.gl_deck.specs.Drafts.{Draft, scope_of, names_at, known_at}
use Rattle.gl_deck.proofs.PlacedLists.{placed, entry_at, names_in, model_entry, model_name}
use Rattle.gl_deck.proofs.SubSteps.{head_in, head_at, head_part, heads_of}

abbrev pub first_line : ℕ → Option Placed → Option Fault
first_line l found = option_map (λ (q : Placed). duplicate_name l q.line) found

abbrev pub known_first : ℕ → Option ℕ → Option Fault
known_first l found = option_map (λ first. duplicate_name l first) found

-- by whether the first card has the name
name_by : (y : Bool) (l : ℕ) (q : Placed) (rest : Option Placed) (names : Option ℕ) → first_line l rest ≡ known_first l names → first_line l (cond y (Some q) rest) ≡ known_first l (cond y (Some q.line) names)
name_by true l q rest names h = refl
name_by false l q rest names h = h

scope_by : (x : Bool) (n m : List ℕ) (l : ℕ) (q : Placed) (rest : Option Placed) (names : List (List ℕ × ℕ)) → first_line l rest ≡ known_first l (lookup (same_text n) names)
    → first_line l (cond (x && same_text n m) (Some q) rest) ≡ known_first l (lookup (same_text n) (cons_option (cond x (Some (m, q.line)) None) names))
scope_by true n m l q rest names h = name_by (same_text n m) l q rest (lookup (same_text n) names) h
scope_by false n m l q rest names h = h

in_scope_by : (t : ℕ) (n : List ℕ) (l : ℕ) (s : Scope) (k : ℕ) (card : Card) (rest : Option Placed) (names : List (List ℕ × ℕ)) → first_line l rest ≡ known_first l (lookup (same_text n) names)
    → first_line l (cond (same_named (in_scope t n) (named (record { scope = s; line = k; card = card }))) (Some (record { scope = s; line = k; card = card })) rest)
    ≡ known_first l (lookup (same_text n) (cons_option (entry_at t k (named (record { scope = s; line = k; card = card }))) names))
in_scope_by t n l s k (dev c) rest names h = scope_by (eqb t s.line) n c.name l (record { scope = s; line = k; card = dev c }) rest names h
in_scope_by t n l s k (call c) rest names h = scope_by (eqb t s.line) n c.name l (record { scope = s; line = k; card = call c }) rest names h
in_scope_by t n l s k (model m) rest names h = h
in_scope_by t n l s k (subckt g) rest names h = h
in_scope_by t n l s k (ends name) rest names h = h
in_scope_by t n l s k (global gs) rest names h = h
in_scope_by t n l s k ended rest names h = h
in_scope_by t n l s k (passed text) rest names h = h

found_in_scope : (t : ℕ) (n : List ℕ) (l : ℕ) (cards : List Placed) → first_line l (find (λ (q : Placed). same_named (in_scope t n) (named q)) cards) ≡ known_first l (lookup (same_text n) (names_in t cards))
found_in_scope t n l [] = refl
found_in_scope t n l (q ∷ qs) = in_scope_by t n l q.scope q.line q.card (find (λ (r : Placed). same_named (in_scope t n) (named r)) qs) (names_in t qs) (found_in_scope t n l qs)

of_model_by : (n : List ℕ) (l : ℕ) (s : Scope) (k : ℕ) (card : Card) (rest : Option Placed) (names : List (List ℕ × ℕ)) → first_line l rest ≡ known_first l (lookup (same_text n) names)
    → first_line l (cond (same_named (of_model n) (named (record { scope = s; line = k; card = card }))) (Some (record { scope = s; line = k; card = card })) rest)
    ≡ known_first l (lookup (same_text n) (cons_option (model_entry k (named (record { scope = s; line = k; card = card }))) names))
of_model_by n l s k (dev c) rest names h = h
of_model_by n l s k (call c) rest names h = h
of_model_by n l s k (model m) rest names h = name_by (same_text n m.name) l (record { scope = s; line = k; card = model m }) rest (lookup (same_text n) names) h
of_model_by n l s k (subckt g) rest names h = h
of_model_by n l s k (ends name) rest names h = h
of_model_by n l s k (global gs) rest names h = h
of_model_by n l s k ended rest names h = h
of_model_by n l s k (passed text) rest names h = h

pub found_model : (n : List ℕ) (l : ℕ) (cards : List Placed) → first_line l (find (λ (q : Placed). same_named (of_model n) (named q)) cards) ≡ known_first l (lookup (same_text n) (filter_map model_name cards))
found_model n l [] = refl
found_model n l (q ∷ qs) = of_model_by n l q.scope q.line q.card (find (λ (r : Placed). same_named (of_model n) (named r)) qs) (filter_map model_name qs) (found_model n l qs)

-- the line of the first head of a name
abbrev head_line : List ℕ → List (ℕ × Head) → Option ℕ
head_line n [] = None
head_line n (x ∷ xs) = cond (same_text n x.1.name) (Some x.0) (head_line n xs)

of_sub_by : (n : List ℕ) (l : ℕ) (s : Scope) (k : ℕ) (card : Card) (rest : Option Placed) (hs : List (ℕ × Head)) → first_line l rest ≡ known_first l (head_line n hs)
    → first_line l (cond (same_named (of_sub n) (named (record { scope = s; line = k; card = card }))) (Some (record { scope = s; line = k; card = card })) rest)
    ≡ known_first l (head_line n (cons_option (head_in k card) hs))
of_sub_by n l s k (dev c) rest hs h = h
of_sub_by n l s k (call c) rest hs h = h
of_sub_by n l s k (model m) rest hs h = h
of_sub_by n l s k (subckt g) rest hs h = name_by (same_text n g.name) l (record { scope = s; line = k; card = subckt g }) rest (head_line n hs) h
of_sub_by n l s k (ends name) rest hs h = h
of_sub_by n l s k (global gs) rest hs h = h
of_sub_by n l s k ended rest hs h = h
of_sub_by n l s k (passed text) rest hs h = h

found_sub : (n : List ℕ) (l : ℕ) (cards : List Placed) → first_line l (find (λ (q : Placed). same_named (of_sub n) (named q)) cards) ≡ known_first l (head_line n (filter_map head_at cards))
found_sub n l [] = refl
found_sub n l (q ∷ qs) = of_sub_by n l q.scope q.line q.card (find (λ (r : Placed). same_named (of_sub n) (named r)) qs) (filter_map head_at qs) (found_sub n l qs)

line_by : (b : Bool) (s : Sub) (o : Option Sub) (r : Option ℕ) → option_map (λ (t : Sub). t.line) o ≡ r → option_map (λ (t : Sub). t.line) (cond b (Some s) o) ≡ cond b (Some s.line) r
line_by true s o r h = refl
line_by false s o r h = h

-- a table of subcircuits has the lines of their heads
sub_line : (n : List ℕ) (subs : List (List ℕ × Sub)) → keys_of subs ≡ names_of (values_of subs) → option_map (λ (s : Sub). s.line) (lookup (same_text n) subs) ≡ head_line n (map head_part (values_of subs))
sub_line n [] h = refl
sub_line n (e ∷ es) h =
    let key : e.0 ≡ e.1.head.name = cc in
    let rest : keys_of es ≡ names_of (values_of es) = cc in
    line_by (same_text n e.0) e.1 (lookup (same_text n) es) (head_line n (map head_part (values_of es))) (sub_line n es rest)
    ∙ ap (λ k. cond (same_text n k) (Some e.1.line) (head_line n (map head_part (values_of es)))) key

pub found_nothing : (l : ℕ) (cards : List Placed) → first_line l (find (λ (q : Placed). same_named nothing (named q)) cards) ≡ None
found_nothing l [] = refl
found_nothing l (q ∷ qs) = found_nothing l qs

-- what a draft has of the names of cards
pub record HasNames (cards : List Placed) (cur : Option Sub) (d : Draft) : Type 0 where
  pub here : names_at cur d ≡ names_in (scope_of cur).line cards
  pub of_models : d.model_names ≡ filter_map model_name cards
  pub heads : heads_of d.subs cur ≡ filter_map head_at cards
  pub subs_named : keys_of d.subs ≡ names_of (values_of d.subs)

abbrev pub dup_at : Option Sub → Draft → ℕ → Card → Option Fault
dup_at cur d l card = option_map (λ first. duplicate_name l first) (known_at cur d card)

pub dup_here : (cards : List Placed) (cur : Option Sub) (d : Draft) (l : ℕ) (n : List ℕ) → names_at cur d ≡ names_in (scope_of cur).line cards
    → first_line l (find (λ (q : Placed). same_named (in_scope (scope_of cur).line n) (named q)) cards) ≡ known_first l (lookup (same_text n) (names_at cur d))
dup_here cards cur d l n h = found_in_scope (scope_of cur).line n l cards ∙ ap (λ ns. known_first l (lookup (same_text n) ns)) (sym h)

dup_sub : (cards : List Placed) (d : Draft) (l : ℕ) (n : List ℕ) → heads_of d.subs None ≡ filter_map head_at cards → keys_of d.subs ≡ names_of (values_of d.subs)
    → first_line l (find (λ (q : Placed). same_named (of_sub n) (named q)) cards) ≡ known_first l (option_map (λ (s : Sub). s.line) (lookup (same_text n) d.subs))
dup_sub cards d l n h k =
    found_sub n l cards ∙ ap (λ hs. known_first l (head_line n hs)) (sym (sym (append-nil (map head_part (values_of d.subs))) ∙ h))
    ∙ ap (known_first l) (sym (sub_line n d.subs k))

-- a name is taken behind the cards exactly where it is in the draft; a `.subckt` inside a subcircuit is refused before
pub dup_top : (cards : List Placed) (d : Draft) (l : ℕ) (card : Card) → HasNames cards None d → duplicate cards (placed None l card) ≡ dup_at None d l card
dup_top cards d l (dev c) h = dup_here cards None d l c.name h.here
dup_top cards d l (call c) h = dup_here cards None d l c.name h.here
dup_top cards d l (model m) h = found_model m.name l cards ∙ ap (λ ns. known_first l (lookup (same_text m.name) ns)) (sym h.of_models)
dup_top cards d l (subckt g) h = dup_sub cards d l g.name h.heads h.subs_named
dup_top cards d l (ends name) h = found_nothing l cards
dup_top cards d l (global names) h = found_nothing l cards
dup_top cards d l ended h = found_nothing l cards
dup_top cards d l (passed text) h = found_nothing l cards
