-- Items that are looked up by their names.
use Rattle.std.proofs.Common.{◌≡◌, ◌+◌, ◌<◌, ◌≤◌, ℕ, List, [], ◌∷◌, Bool, true, false, cond, Option, None, Some, length, drop, get_or, map, refl, sym, ap, ◌∙◌, Bor}
use Rattle.std.specs.Prelude.{◌||◌, slice_get, is_some, option_map}
use Rattle.std.specs.Option.{option_or, option_copied}
use Rattle.std.proofs.lemmas.List.{drop_more, drop_all}
use Rattle.std.proofs.lemmas.Option.{slice_get-get_or}
use Rattle.gl_text.specs.LogicalLines.{same_text}
use Rattle.gl_text.specs.Decks.{is_in}
use Rattle.gl_text.proofs.Names.{exact, itself}
use Rattle.gl_restore.specs.Places.{item_at, first_named, place_if}

-- the item at the place that is known; else the first of the name behind
abbrev pub settled : {A : Type 0} → (A → List ℕ) → List A → List ℕ → List A → Option ℕ → Option A
settled f items name behind None = first_named f name behind
settled f items name behind (Some place) = slice_get items place

-- one more item is looked at
more : {A : Type 0} (f : A → List ℕ) (items : List A) (i : ℕ) (x : A) (name : List ℕ) (before after : Option ℕ) (whole : Option A)
    → i < length items → x ≡ get_or items i x → after ≡ option_or before (place_if (f x) i name)
    → settled f items name (drop i items) before ≡ whole → settled f items name (drop (i + 1) items) after ≡ whole
more f items i x name (Some place) after whole lt is e h = ap (settled f items name (drop (i + 1) items)) e ∙ h
more {A} f items i x name None after whole lt is e h =
    by (same_text (f x) name) refl
  where
    rest : List A
    rest = drop (i + 1) items

    split : drop i items ≡ x ∷ rest
    split = drop_more items i x lt ∙ ap (λ c. c ∷ rest) (sym is)

    by : (b : Bool) → same_text (f x) name ≡ b → settled f items name rest after ≡ whole
    by true on =
        ap (settled f items name rest) (e ∙ ap (λ b. cond b (Some i) None) on)
        ∙ slice_get-get_or items i x lt ∙ ap (λ c. Some c) (sym is)
        ∙ sym (ap (λ b. cond b (Some x) (first_named f name rest)) on)
        ∙ sym (ap (first_named f name) split) ∙ h
    by false off =
        ap (settled f items name rest) (e ∙ ap (λ b. cond b (Some i) None) off)
        ∙ sym (ap (λ b. cond b (Some x) (first_named f name rest)) off)
        ∙ sym (ap (first_named f name) split) ∙ h

pub settled_more : {A : Type 0} (f : A → List ℕ) (items : List A) (i : ℕ) (x : A) (name own : List ℕ) (place : ℕ) (before after : Option ℕ) (whole : Option A)
    → i < length items → x ≡ get_or items i x → own ≡ f x → place ≡ i → after ≡ option_or before (place_if own place name)
    → settled f items name (drop i items) before ≡ whole → settled f items name (drop (i + 1) items) after ≡ whole
settled_more f items i x name own place before after whole lt is own_is place_is e h =
    more f items i x name before after whole lt is (e ∙ ap (λ n. option_or before (place_if n place name)) own_is ∙ ap (λ p. option_or before (place_if (f x) p name)) place_is) h

-- all were looked at
pub settled_all : {A : Type 0} (f : A → List ℕ) (items : List A) (i : ℕ) (name : List ℕ) (place : Option ℕ) (whole : Option A)
    → length items ≤ i → settled f items name (drop i items) place ≡ whole → item_at items place ≡ whole
settled_all f items i name (Some place) whole past h = h
settled_all f items i name None whole past h = sym (ap (first_named f name) (drop_all i items past)) ∙ h

-- none was looked at
pub settled_none : {A : Type 0} (f : A → List ℕ) (items : List A) (name : List ℕ) (place : Option ℕ)
    → place ≡ None → settled f items name items place ≡ first_named f name items
settled_none f items name place e = ap (settled f items name items) e

-- ---- a name that is there

turned : (m n : List ℕ) (b : Bool) → same_text m n ≡ b → same_text n m ≡ b
turned m n true on = ap (λ k. same_text k m) (sym (exact m n on)) ∙ itself m
turned m n false off = by (same_text n m) refl where
  by : (b : Bool) → same_text n m ≡ b → same_text n m ≡ false
  by true on = let back : same_text m n ≡ true = ap (λ k. same_text k n) (sym (exact n m on)) ∙ itself n in absurd cc
  by false e = e

pub same_turned : (m n : List ℕ) → same_text n m ≡ same_text m n
same_turned m n = turned m n (same_text m n) refl

-- a name is that of an item where the first of this name is one
pub is_there : {A : Type 0} (f : A → List ℕ) (name : List ℕ) (items : List A) → is_some (first_named f name items) ≡ is_in name (map f items)
is_there f name [] = refl
is_there f name (x ∷ xs) =
    by (same_text (f x) name) (same_text name (f x)) (same_turned (f x) name) (is_there f name xs)
  where
    by : (b c : Bool) → c ≡ b → is_some (first_named f name xs) ≡ is_in name (map f xs) → is_some (cond b (Some x) (first_named f name xs)) ≡ (c || is_in name (map f xs))
    by true c e h = sym (ap (λ k. k || is_in name (map f xs)) e)
    by false c e h = h ∙ sym (ap (λ k. k || is_in name (map f xs)) e)

-- there is a reference where there is what it refers to
pub some_seen : {A : Type 0} (o : Option (Bor A)) (p : Option A) → option_copied o ≡ p → is_some o ≡ is_some p
some_seen None p e = ap is_some e
some_seen (Some x) p e = ap is_some e

-- nothing is found where no reference to a part of it is
pub none_seen : {A B : Type 0} (f : A → B) (o : Option (Bor B)) (p : Option A) → o ≡ None → option_copied o ≡ option_map f p → is_some p ≡ false
none_seen f o None e h = refl
none_seen f o (Some x) e h = let gone : option_copied o ≡ None = ap option_copied e in absurd cc

-- and something where there is one
pub one_seen : {A B : Type 0} (f : A → B) (o : Option (Bor B)) (p : Option A) (x : Bor B) → o ≡ Some x → option_copied o ≡ option_map f p → is_some p ≡ true
one_seen f o None x e h = let there : option_copied o ≡ Some x.now = ap option_copied e in absurd cc
one_seen f o (Some y) x e h = refl
