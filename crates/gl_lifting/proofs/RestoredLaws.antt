-- What a restored deck says of the names of its map.
use Rattle.std.proofs.Common.{◌≡◌, ◌≤◌, ◌+◌, ℕ, List, [], ◌∷◌, ◌++◌, length, map, filter, cond, eqb, true, false, Bool, Option, None, Some, refl, sym, ap, ◌∙◌, arith, inl, inr}
use Rattle.std.specs.Prelude.{◌&&◌, not, Contains, Ok, find, option_map, unwrap_or, nat_lt}
use Rattle.std.specs.List.{AllByRecursion, list_all}
use Rattle.std.proofs.lemmas.Bool.{cases_Bool, eq-eqb, le-leb, and_from}
use Rattle.gl_match.proofs.Lists.{Once, in_head, in_tail, in_cons, in_none, in_map}
use Rattle.gl_text.specs.LogicalLines.{NAME, same_text, is_separator, fold_byte}
use Rattle.gl_text.specs.Decks.{is_in, once}
use Rattle.gl_printed.proofs.NameBytes.{IsNameByte, OfName, name_bytes}
use Rattle.gl_base.proofs.OnceLaws.{no_more, length_filter}
use Rattle.gl_base.proofs.TextLaws.{exact, itself, each_once, names_stay, names_fewer}
use Rattle.gl_lifting.specs.MapReading.{is_map_name, is_name_byte}
use Rattle.gl_lifting.specs.Renaming.{RestoreFault, first_line, is_for_none, first_missing, first_fault, new_names, old_name, unless_fault}
use Rattle.gl_text.specs.WayBack.{IsName}

-- ---- names of maps

-- a byte of names is one of a map's names
name_byte : (b : ℕ) → IsNameByte b → is_name_byte b ≡ true
name_byte b h = and_from (not (eqb b 10) && not (is_separator b)) (eqb (fold_byte b) b) (and_from (not (eqb b 10)) (not (is_separator b)) (ap not h.line) (ap not h.plain)) (eq-eqb (fold_byte b) b h.small)

-- all bytes of a name
all_name_bytes : (n : List ℕ) → OfName n → list_all is_name_byte n ≡ true
all_name_bytes [] h = refl
all_name_bytes (b ∷ bs) h = and_from (is_name_byte b) (list_all is_name_byte bs) (name_byte b h.0) (all_name_bytes bs h.1)

-- a name of one line is a name that a map can have
pub part_is_name : (n : List ℕ) → IsName n → is_map_name n ≡ true
part_is_name n h = and_from _ (list_all is_name_byte n) (and_from (nat_lt 0 (length n)) _ h.some (le-leb (length n) NAME h.short)) (all_name_bytes n (name_bytes n h))

-- ---- what no refusal says

-- a value that is not refused
pub not_refused : {A : Type 0} (c : Option RestoreFault) (v w : A) → unless_fault c v ≡ Ok w → (c ≡ None) × (v ≡ w)
not_refused None v w e = (refl, cc)
not_refused (Some f) v w e = absurd cc

-- no fault is no first fault, and none behind it
pub no_fault : (c : Option RestoreFault) (cs : List (Option RestoreFault)) → first_fault (c ∷ cs) ≡ None → (c ≡ None) × (first_fault cs ≡ None)
no_fault None cs e = (refl, e)
no_fault (Some f) cs e = absurd cc

-- nothing comes from nothing
pub nothing : {A B : Type 0} (f : A → B) (o : Option A) → option_map f o ≡ None → o ≡ None
nothing f None e = refl
nothing f (Some x) e = absurd cc

-- each line is for one of the names
pub lines_known : (names : List (List ℕ)) (k : ℕ) (before ns : List (List ℕ × List ℕ)) → first_line (is_for_none names) k before ns ≡ None → AllByRecursion (λ (n : List ℕ × List ℕ). is_in n.0 names ≡ true) ns
lines_known names k before [] e = tt
lines_known names k before (n ∷ ns) e = go (is_in n.0 names) refl e (lines_known names (k + 1) (before ++ n ∷ []) ns) where
  go : (b : Bool) → is_in n.0 names ≡ b → cond (not b) (Some k) (first_line (is_for_none names) (k + 1) (before ++ n ∷ []) ns) ≡ None → (first_line (is_for_none names) (k + 1) (before ++ n ∷ []) ns ≡ None → AllByRecursion (λ (n : List ℕ × List ℕ). is_in n.0 names ≡ true) ns)
      → AllByRecursion (λ (n : List ℕ × List ℕ). is_in n.0 names ≡ true) (n ∷ ns)
  go true on g ih = (on, ih g)
  go false off g ih = absurd cc

-- each name has a line
pub names_known : (lines : List (List ℕ × List ℕ)) (names : List (List ℕ)) → first_missing lines names ≡ None → AllByRecursion (λ name. is_in name (new_names lines) ≡ true) names
names_known lines [] e = tt
names_known lines (n ∷ ns) e = go (is_in n (new_names lines)) refl e (names_known lines ns) where
  go : (b : Bool) → is_in n (new_names lines) ≡ b → cond (not b) (Some n) (first_missing lines ns) ≡ None → (first_missing lines ns ≡ None → AllByRecursion (λ name. is_in name (new_names lines) ≡ true) ns) → AllByRecursion (λ name. is_in name (new_names lines) ≡ true) (n ∷ ns)
  go true on g ih = (on, ih g)
  go false off g ih = absurd cc

-- ---- as many names as there are

-- a filter that takes something out has less
filter_less : (p : List ℕ → Bool) (xs : List (List ℕ)) (y : List ℕ) → Contains xs y → p y ≡ false → length (filter p xs) + 1 ≤ length xs
filter_less p [] y h off = absurd (in_none y h)
filter_less p (x ∷ xs) y h off = elim (in_cons x xs y h) [
  | inl same ↦ let e = ap (λ b. length (cond b (x ∷ filter p xs) (filter p xs))) (ap p same ∙ off) in omega (arith, e, length_filter p xs)
  | inr later ↦ elim (cases_Bool (p x)) [
    | inl on ↦ let e = ap (λ b. length (cond b (x ∷ filter p xs) (filter p xs))) on in omega (arith, e, filter_less p xs y later off)
    | inr out ↦ let e = ap (λ b. length (cond b (x ∷ filter p xs) (filter p xs))) out in omega (arith, e, filter_less p xs y later off)
  ]
]

-- what loses nothing when each is taken once has each once
all_kept : (ys : List (List ℕ)) → length ys ≤ length (once ys) → Once ys
all_kept [] h = tt
all_kept (y ∷ ys) h =
    let keep : List ℕ → Bool = λ m. not (same_text y m) in
    let few = length_filter keep (once ys) in (
      (λ at. let less = filter_less keep (once ys) y (names_stay ys y at) (ap not (itself y)) in omega (arith, h, less, names_fewer ys)),
      all_kept ys (omega (arith, h, few)),
    )

-- names among which as many different ones stand differ
pub pigeons : (xs ys : List (List ℕ)) → Once xs → length ys ≤ length xs → ((x : List ℕ) → Contains xs x → Contains ys x) → Once ys
pigeons xs ys once_xs few h = all_kept ys (omega (arith, few, no_more xs (once ys) once_xs (each_once ys) (λ x at. names_stay ys x (h x at))))

-- ---- lines found by new names

-- an old name that is there comes from a line of the new name
pub old_line : (lines : List (List ℕ × List ℕ)) (y b : List ℕ) → nat_lt 0 (length b) ≡ true → old_name lines y ≡ b → (l : List ℕ × List ℕ) × Contains lines l × (l.0 ≡ y) × (l.1 ≡ b)
old_line [] y b some e = absurd (let f : nat_lt 0 (length b) ≡ false = ap (λ x. nat_lt 0 (length x)) (sym e) in cc)
old_line (n ∷ ns) y b some e = go (same_text n.0 y) refl e (old_line ns y b some) where
  go : (t : Bool) → same_text n.0 y ≡ t → unwrap_or (option_map (λ (x : List ℕ × List ℕ). x.1) (cond t (Some n) (find (λ (x : List ℕ × List ℕ). same_text x.0 y) ns))) [] ≡ b → (old_name ns y ≡ b → (l : List ℕ × List ℕ) × Contains ns l × (l.0 ≡ y) × (l.1 ≡ b))
      → (l : List ℕ × List ℕ) × Contains (n ∷ ns) l × (l.0 ≡ y) × (l.1 ≡ b)
  go true on g ih = (n, in_head n ns, exact n.0 y on, g)
  go false off g ih = let r = ih g in (r.0, in_tail n ns r.0 r.1, r.2, r.3)

-- where images differ, so do the items
pub once_unmap : {X Y : Type 0} (f : X → Y) (xs : List X) → Once (map f xs) → Once xs
once_unmap f [] o = tt
once_unmap f (x ∷ xs) o = ((λ h. o.0 (in_map f xs x h)), once_unmap f xs o.1)
