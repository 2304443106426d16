-- A subcircuit that is added to a table.
use Rattle.std.proofs.Common.{◌≡◌, ℕ, List, [], ◌∷◌, cond, Bool, true, false, All, refl, sym, ap, ◌∙◌}
use Rattle.std.proofs.lemmas.List.Elements.{All-cons, All-head, All-tail}
use Rattle.std.specs.Map.{keys_of, values_of, lookup}
use Rattle.indexmap.specs.IndexMap.{insert_entry}
use Rattle.gl_text.specs.LogicalLines.{same_text}
use Rattle.gl_text.specs.Decks.{Sub, find_sub}
use Rattle.gl_deck.specs.Bodies.{names_of, table_of}
use Rattle.gl_text.proofs.Names.{exact}
use Rattle.gl_deck.proofs.CallLaws.{found_by}

abbrev Keyed : List (List ℕ × Sub) → Type 0
Keyed es = keys_of es ≡ names_of (values_of es)

keyed_by : (b : Bool) (k n : List ℕ) (s v : Sub) (es new : List (List ℕ × Sub)) → same_text k n ≡ b → k ≡ v.head.name → n ≡ s.head.name → Keyed es → Keyed new → Keyed (cond b ((n, v) ∷ es) ((n, s) ∷ new))
keyed_by true k n s v es new e f g h i = let same = exact k n e in cc
keyed_by false k n s v es new e f g h i = cc

pub keyed_more : (es : List (List ℕ × Sub)) (k : List ℕ) (v : Sub) → k ≡ v.head.name → Keyed es → Keyed (insert_entry same_text es k v)
keyed_more [] k v f h = ap (λ n. n ∷ []) f
keyed_more (e ∷ es) k v f h =
    let head : e.0 ≡ e.1.head.name = cc in
    let tail : Keyed es = cc in
    keyed_by (same_text k e.0) k e.0 e.1 v es (insert_entry same_text es k v) refl f head tail (keyed_more es k v f tail)

all_by : (P : Sub → Type 0) (b : Bool) (n : List ℕ) (s v : Sub) (es new : List (List ℕ × Sub)) → P s → P v → All P (values_of es) → All P (values_of new) → All P (values_of (cond b ((n, v) ∷ es) ((n, s) ∷ new)))
all_by P true n s v es new p q h i = All-cons P v (values_of es) q h
all_by P false n s v es new p q h i = All-cons P s (values_of new) p i

pub all_more : (P : Sub → Type 0) (es : List (List ℕ × Sub)) (k : List ℕ) (v : Sub) → P v → All P (values_of es) → All P (values_of (insert_entry same_text es k v))
all_more P [] k v q h = All-cons P v [] q h
all_more P (e ∷ es) k v q h =
    let head = All-head P e.1 (values_of es) h in
    let tail = All-tail P e.1 (values_of es) h in
    all_by P (same_text k e.0) e.0 e.1 v es (insert_entry same_text es k v) head q tail (all_more P es k v q tail)

-- ---- subcircuits under their names

pub values_there : (subs : List Sub) → values_of (table_of subs) ≡ subs
values_there [] = refl
values_there (s ∷ ss) = ap (λ xs. s ∷ xs) (values_there ss)

-- what is found there
pub found_there : (subs : List Sub) (n : List ℕ) → lookup (same_text n) (table_of subs) ≡ find_sub subs n
found_there [] n = refl
found_there (s ∷ ss) n = found_by n s.head.name s.head.name s (lookup (same_text n) (table_of ss)) (find_sub ss n) refl (found_there ss n)

-- a table whose keys are the names
table_is : (es : List (List ℕ × Sub)) → Keyed es → table_of (values_of es) ≡ es
table_is [] h = refl
table_is (e ∷ es) h =
    let head : e.0 ≡ e.1.head.name = cc in
    let tail : Keyed es = cc in
    ap (λ n. (n, e.1) ∷ table_of (values_of es)) (sym head) ∙ ap (λ xs. e ∷ xs) (table_is es tail)

pub table_more : (old new : List (List ℕ × Sub)) (k : List ℕ) (s : Sub) → Keyed old → k ≡ s.head.name → new ≡ insert_entry same_text old k s
    → table_of (values_of new) ≡ insert_entry same_text (table_of (values_of old)) s.head.name s
table_more old new k s h n e =
    ap (λ es. table_of (values_of es)) e ∙ table_is (insert_entry same_text old k s) (keyed_more old k s n h)
    ∙ ap (λ m. insert_entry same_text old m s) n ∙ ap (λ es. insert_entry same_text es s.head.name s) (sym (table_is old h))
