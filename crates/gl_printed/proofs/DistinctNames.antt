-- Placed cards whose names differ, by scope and by namespace, are those with no duplicate.
use Rattle.std.proofs.Common.{◌≡◌, ℕ, List, [], ◌∷◌, ◌++◌, map, cond, eqb, true, false, Bool, Option, Some, None, refl, sym, ap, ◌∙◌, subst, eqb-true, eq-eqb, append-nil, is_some, find, filter_map, option_map}
use Rattle.std.specs.Prelude.{◌&&◌, ◌||◌, if◌then◌else◌, ◌==◌}
use Rattle.std.specs.List.{cons_option}
use Rattle.std.proofs.lemmas.List.{map-append}
use Rattle.std.proofs.lemmas.List.Elements.{filter_map-append}
use Rattle.gl_text.specs.LogicalLines.{Fault, duplicate_name, same_text}
use Rattle.gl_text.specs.Cards.{Model, Head, Card, dev, call, model, subckt}
use Rattle.gl_text.specs.Decks.{Body, dev_at, call_at, Scope, Placed, Named, in_scope, of_model, of_sub, nothing, named, same_named, duplicate, is_in, has_twice, body_of, model_of, body_name}
use Rattle.gl_printed.proofs.NamesTwice.{twice_middle, twice_more}
use Rattle.gl_lists.proofs.Bools.{eqb_flip}
use Rattle.std.proofs.lemmas.Option.{same_Some}
pub use Rattle.std.proofs.lemmas.Option.{same_Some as some_is}

-- ---- names of one namespace among placed cards

abbrev pub names_by : {X Y : Type 0} → (X → Option Y) → (Y → List ℕ) → List X → List (List ℕ)
names_by h name ps = map name (filter_map h ps)

names_append : {X Y : Type 0} (h : X → Option Y) (name : Y → List ℕ) (ps qs : List X) → names_by h name (ps ++ qs) ≡ names_by h name ps ++ names_by h name qs
names_append h name ps qs = ap (map name) (filter_map-append h ps qs) ∙ map-append name (filter_map h ps) (filter_map h qs)

pub names_middle : {X Y : Type 0} (h : X → Option Y) (name : Y → List ℕ) (ps : List X) (p : X) (qs : List X) (y : Y) → h p ≡ Some y → has_twice (names_by h name (ps ++ p ∷ qs)) ≡ false → is_in (name y) (names_by h name ps) ≡ false
names_middle h name ps p qs y e t = twice_middle (names_by h name ps) (name y) (names_by h name qs)
    (ap (λ o. has_twice (names_by h name ps ++ map name (cons_option o (filter_map h qs)))) (sym e) ∙ ap has_twice (sym (names_append h name ps (p ∷ qs))) ∙ t)

pub names_more : {X Y : Type 0} (h : X → Option Y) (name : Y → List ℕ) (ps : List X) (p : X) → has_twice (names_by h name ps) ≡ false → ((y : Y) → h p ≡ Some y → is_in (name y) (names_by h name ps) ≡ false) → has_twice (names_by h name (ps ++ p ∷ [])) ≡ false
names_more {X} {Y} h name ps p t i = ap has_twice (names_append h name ps (p ∷ [])) ∙ by (h p) i where
  by : (o : Option Y) → ((y : Y) → o ≡ Some y → is_in (name y) (names_by h name ps) ≡ false) → has_twice (names_by h name ps ++ map name (cons_option o [])) ≡ false
  by None j = ap has_twice (append-nil (names_by h name ps)) ∙ t
  by (Some y) j = twice_more (names_by h name ps) (name y) t (j y refl)

-- ---- the first card of the same name, and names of its namespace

abbrev pub head_of : Placed → Option Head
head_of p = of p.card where
  of : Card → Option Head
  of (subckt h) = Some h
  of _ = None

abbrev pub body_in : ℕ → Placed → Option Body
body_in line p = if p.scope.line == line then body_of p else None

abbrev pub found : Named → List Placed → Bool
found n ps = is_some (find (λ (q : Placed). same_named n (named q)) ps)

-- one card more, which may have the name
hit : (t : Bool) (n : List ℕ) (m : List ℕ) (p : Placed) (F : Option Placed) (R : List (List ℕ)) → same_text n m ≡ t → is_some F ≡ is_in n R → is_some (cond t (Some p) F) ≡ is_in n (m ∷ R)
hit true n m p F R e f = sym (ap (λ b. b || is_in n R) e)
hit false n m p F R e f = f ∙ sym (ap (λ b. b || is_in n R) e)

body_hit : (t : Bool) (L : ℕ) (n : List ℕ) (s : Scope) (b : Body) (p : Placed) (F : Option Placed) (R : List Body) → eqb s.line L ≡ t → is_some F ≡ is_in n (map body_name R)
    → is_some (cond (eqb L s.line && same_text n (body_name b)) (Some p) F) ≡ is_in n (map body_name (cons_option (cond t (Some b) None) R))
body_hit true L n s b p F R e f = ap (λ x. is_some (cond (x && same_text n (body_name b)) (Some p) F)) (eqb_flip L s.line ∙ e) ∙ hit (same_text n (body_name b)) n (body_name b) p F (map body_name R) refl f
body_hit false L n s b p F R e f = ap (λ x. is_some (cond (x && same_text n (body_name b)) (Some p) F)) (eqb_flip L s.line ∙ e) ∙ f

no_body : (t : Bool) (R : List Body) → cons_option (cond t None None) R ≡ R
no_body true R = refl
no_body false R = refl

body_one : (L : ℕ) (n : List ℕ) (s : Scope) (line : ℕ) (c : Card) (F : Option Placed) (R : List Body) → is_some F ≡ is_in n (map body_name R)
    → is_some (cond (same_named (in_scope L n) (named (record { scope = s; line = line; card = c }))) (Some (record { scope = s; line = line; card = c })) F) ≡ is_in n (map body_name (cons_option (body_in L (record { scope = s; line = line; card = c })) R))
body_one L n s line (dev d) F R f = body_hit (eqb s.line L) L n s (dev_at line d) (record { scope = s; line = line; card = dev d }) F R refl f
body_one L n s line (call d) F R f = body_hit (eqb s.line L) L n s (call_at line d) (record { scope = s; line = line; card = call d }) F R refl f
body_one L n s line c F R f = f ∙ ap (λ r. is_in n (map body_name r)) (sym (no_body (eqb s.line L) R))

body_found : (L : ℕ) (n : List ℕ) (ps : List Placed) → found (in_scope L n) ps ≡ is_in n (names_by (body_in L) body_name ps)
body_found L n [] = refl
body_found L n (p ∷ ps) = body_one L n p.scope p.line p.card (find (λ (q : Placed). same_named (in_scope L n) (named q)) ps) (filter_map (body_in L) ps) (body_found L n ps)

abbrev pub model_name : Model → List ℕ
model_name m = m.name

abbrev pub head_name : Head → List ℕ
head_name h = h.name

model_one : (n : List ℕ) (s : Scope) (line : ℕ) (c : Card) (F : Option Placed) (R : List Model) → is_some F ≡ is_in n (map model_name R)
    → is_some (cond (same_named (of_model n) (named (record { scope = s; line = line; card = c }))) (Some (record { scope = s; line = line; card = c })) F) ≡ is_in n (map model_name (cons_option (model_of (record { scope = s; line = line; card = c })) R))
model_one n s line (model d) F R f = hit (same_text n d.name) n d.name (record { scope = s; line = line; card = model d }) F (map model_name R) refl f
model_one n s line c F R f = f

model_found : (n : List ℕ) (ps : List Placed) → found (of_model n) ps ≡ is_in n (names_by model_of model_name ps)
model_found n [] = refl
model_found n (p ∷ ps) = model_one n p.scope p.line p.card (find (λ (q : Placed). same_named (of_model n) (named q)) ps) (filter_map model_of ps) (model_found n ps)

head_one : (n : List ℕ) (s : Scope) (line : ℕ) (c : Card) (F : Option Placed) (R : List Head) → is_some F ≡ is_in n (map head_name R)
    → is_some (cond (same_named (of_sub n) (named (record { scope = s; line = line; card = c }))) (Some (record { scope = s; line = line; card = c })) F) ≡ is_in n (map head_name (cons_option (head_of (record { scope = s; line = line; card = c })) R))
head_one n s line (subckt d) F R f = hit (same_text n d.name) n d.name (record { scope = s; line = line; card = subckt d }) F (map head_name R) refl f
head_one n s line c F R f = f

head_found : (n : List ℕ) (ps : List Placed) → found (of_sub n) ps ≡ is_in n (names_by head_of head_name ps)
head_found n [] = refl
head_found n (p ∷ ps) = head_one n p.scope p.line p.card (find (λ (q : Placed). same_named (of_sub n) (named q)) ps) (filter_map head_of ps) (head_found n ps)

none_found : (ps : List Placed) → found nothing ps ≡ false
none_found [] = refl
none_found (p ∷ ps) = none_found ps

-- ---- all names differ

pub record NamesDiffer (ps : List Placed) : Type 0 where
  pub scopes : (line : ℕ) → has_twice (names_by (body_in line) body_name ps) ≡ false
  pub models : has_twice (names_by model_of model_name ps) ≡ false
  pub subs : has_twice (names_by head_of head_name ps) ≡ false

is_none : (o : Option Placed) → is_some o ≡ false → o ≡ None
is_none None e = refl
is_none (Some p) e = absurd cc

no_duplicate : (ps : List Placed) (p : Placed) → found (named p) ps ≡ false → duplicate ps p ≡ None
no_duplicate ps p e = ap (option_map (λ (q : Placed). duplicate_name p.line q.line)) (is_none (find (λ (q : Placed). same_named (named p) (named q)) ps) e)

not_some : {X : Type 0} (f : X → Fault) (o : Option X) → option_map f o ≡ None → is_some o ≡ false
not_some f None e = refl
not_some f (Some x) e = absurd cc

not_found : (ps : List Placed) (p : Placed) → duplicate ps p ≡ None → found (named p) ps ≡ false
not_found ps p e = not_some (λ (q : Placed). duplicate_name p.line q.line) (find (λ (q : Placed). same_named (named p) (named q)) ps) e

here : (L : ℕ) (s : Scope) (o : Option Body) → L ≡ s.line → cond (eqb s.line L) o None ≡ o
here L s o e = ap (λ t. cond t o None) (eq-eqb s.line L (sym e))

middle_by : (ps : List Placed) (s : Scope) (line : ℕ) (c : Card) (qs : List Placed) → NamesDiffer (ps ++ record { scope = s; line = line; card = c } ∷ qs) → found (named (record { scope = s; line = line; card = c })) ps ≡ false
middle_by ps s line (dev d) qs h = body_found s.line d.name ps ∙ names_middle (body_in s.line) body_name ps (record { scope = s; line = line; card = dev d }) qs (dev_at line d) (here s.line s (Some (dev_at line d)) refl) (h.scopes s.line)
middle_by ps s line (call d) qs h = body_found s.line d.name ps ∙ names_middle (body_in s.line) body_name ps (record { scope = s; line = line; card = call d }) qs (call_at line d) (here s.line s (Some (call_at line d)) refl) (h.scopes s.line)
middle_by ps s line (model d) qs h = model_found d.name ps ∙ names_middle model_of model_name ps (record { scope = s; line = line; card = model d }) qs d refl h.models
middle_by ps s line (subckt d) qs h = head_found d.name ps ∙ names_middle head_of head_name ps (record { scope = s; line = line; card = subckt d }) qs d refl h.subs
middle_by ps s line c qs h = none_found ps

-- where all names differ, no card has an earlier one's
pub no_duplicate_in : (ps : List Placed) (p : Placed) (qs : List Placed) → NamesDiffer (ps ++ p ∷ qs) → duplicate ps p ≡ None
no_duplicate_in ps p qs h = no_duplicate ps p (middle_by ps p.scope p.line p.card qs h)

pub none_is : {X : Type 0} {P : Type 0} (y : X) → None ≡ Some y → P
none_is y e = absurd cc

in_here : (L : ℕ) (ps : List Placed) (s : Scope) (b y : Body) → is_in (body_name b) (names_by (body_in s.line) body_name ps) ≡ false → cond (eqb s.line L) (Some b) None ≡ Some y → is_in (body_name y) (names_by (body_in L) body_name ps) ≡ false
in_here L ps s b y n = by (eqb s.line L) refl where
  by : (t : Bool) → eqb s.line L ≡ t → cond t (Some b) None ≡ Some y → is_in (body_name y) (names_by (body_in L) body_name ps) ≡ false
  by true e f = subst (λ z. is_in (body_name z) (names_by (body_in L) body_name ps) ≡ false) (same_Some b y f) (subst (λ k. is_in (body_name b) (names_by (body_in k) body_name ps) ≡ false) (eqb-true s.line L e) n)
  by false e f = none_is y f

not_here : (t : Bool) (y : Body) → cond t None None ≡ Some y → ⊥
not_here true y e = cc
not_here false y e = cc

scope_by : (ps : List Placed) (L : ℕ) (s : Scope) (line : ℕ) (c : Card) → found (named (record { scope = s; line = line; card = c })) ps ≡ false → (y : Body) → body_in L (record { scope = s; line = line; card = c }) ≡ Some y → is_in (body_name y) (names_by (body_in L) body_name ps) ≡ false
scope_by ps L s line (dev d) n y e = in_here L ps s (dev_at line d) y (sym (body_found s.line d.name ps) ∙ n) e
scope_by ps L s line (call d) n y e = in_here L ps s (call_at line d) y (sym (body_found s.line d.name ps) ∙ n) e
scope_by ps L s line c n y e = absurd (not_here (eqb s.line L) y e)

model_by : (ps : List Placed) (s : Scope) (line : ℕ) (c : Card) → found (named (record { scope = s; line = line; card = c })) ps ≡ false → (y : Model) → model_of (record { scope = s; line = line; card = c }) ≡ Some y → is_in y.name (names_by model_of model_name ps) ≡ false
model_by ps s line (model d) n y e = subst (λ (z : Model). is_in z.name (names_by model_of model_name ps) ≡ false) (same_Some d y e) (sym (model_found d.name ps) ∙ n)
model_by ps s line c n y e = none_is y e

head_by : (ps : List Placed) (s : Scope) (line : ℕ) (c : Card) → found (named (record { scope = s; line = line; card = c })) ps ≡ false → (y : Head) → head_of (record { scope = s; line = line; card = c }) ≡ Some y → is_in y.name (names_by head_of head_name ps) ≡ false
head_by ps s line (subckt d) n y e = subst (λ (z : Head). is_in z.name (names_by head_of head_name ps) ≡ false) (same_Some d y e) (sym (head_found d.name ps) ∙ n)
head_by ps s line c n y e = none_is y e

-- and a card with no earlier one's name leaves them so
pub differ_more : (ps : List Placed) (p : Placed) → NamesDiffer ps → duplicate ps p ≡ None → NamesDiffer (ps ++ p ∷ [])
differ_more ps p h d = let n = not_found ps p d in record {
  scopes = λ line. names_more (body_in line) body_name ps p (h.scopes line) (scope_by ps line p.scope p.line p.card n);
  models = names_more model_of model_name ps p h.models (model_by ps p.scope p.line p.card n);
  subs = names_more head_of head_name ps p h.subs (head_by ps p.scope p.line p.card n);
}

pub differ_none : NamesDiffer []
differ_none = record { scopes = λ line. refl; models = refl; subs = refl }
