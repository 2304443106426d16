-- Texts that are the same, and names each once.
use Rattle.std.proofs.Common.{◌≡◌, ◌≤◌, ℕ, List, [], ◌∷◌, length, true, false, refl, sym, ap, ◌∙◌, subst, arith}
use Rattle.std.specs.Prelude.{not, Contains, filter}
use Rattle.std.specs.Cmp.Lexicographic.{bytes_decides, nat_list_eq_equiv}
use Rattle.std.proofs.lemmas.Bool.{or_parts, or_from, false_from_ne_true}
use Rattle.gl_lists.proofs.Once.{Once}
use Rattle.gl_lists.proofs.EachOnce.{once_by, there, found, in_once, from_once, once_once, once_kept, length_once}
use Rattle.gl_text.specs.LogicalLines.{same_text}
use Rattle.gl_text.specs.Decks.{is_in, has_twice, once}

pub exact : (x y : List ℕ) → same_text x y ≡ true → x ≡ y
exact x y = (bytes_decides x y).0

pub itself : (x : List ℕ) → same_text x x ≡ true
itself = nat_list_eq_equiv.refl

pub flipped : (x y : List ℕ) → same_text x y ≡ same_text y x
flipped = nat_list_eq_equiv.symm

-- a name is among names exactly where it stands there
pub stands : (name : List ℕ) (names : List (List ℕ)) → is_in name names ≡ true → Contains names name
stands name names t = there same_text exact itself names name t

pub is_there : (name : List ℕ) (names : List (List ℕ)) → Contains names name → is_in name names ≡ true
is_there name names h = found same_text exact itself names name h

-- ---- each name once

pub once_is : (names : List (List ℕ)) → once names ≡ once_by same_text names
once_is [] = refl
once_is (n ∷ ns) = ap (λ ms. n ∷ filter (λ m. not (same_text n m)) ms) (once_is ns)

-- what has none twice has each once
pub once_from : (names : List (List ℕ)) → has_twice names ≡ false → Once names
once_from [] e = tt
once_from (n ∷ ns) e =
    let parts = or_parts (is_in n ns) (has_twice ns) e in (
      (λ h. let on : is_in n ns ≡ true = found same_text exact itself ns n h in let off : is_in n ns ≡ false = parts.0 in absurd cc),
      once_from ns parts.1,
    )

pub never_twice : (names : List (List ℕ)) → Once names → has_twice names ≡ false
never_twice [] o = refl
never_twice (n ∷ ns) o = or_from (is_in n ns) (has_twice ns) (false_from_ne_true (is_in n ns) (λ t. o.0 (there same_text exact itself ns n t))) (never_twice ns o.1)

pub each_once : (names : List (List ℕ)) → Once (once names)
each_once names = subst Once (sym (once_is names)) (once_once same_text exact itself names)

pub names_differ : (names : List (List ℕ)) → has_twice (once names) ≡ false
names_differ names = never_twice (once names) (each_once names)

pub names_stay : (names : List (List ℕ)) (name : List ℕ) → Contains names name → Contains (once names) name
names_stay names name h = subst (λ ns. Contains ns name) (sym (once_is names)) (in_once same_text exact itself names name h)

pub names_were : (names : List (List ℕ)) (name : List ℕ) → Contains (once names) name → Contains names name
names_were names name h = from_once same_text names name (subst (λ ns. Contains ns name) (once_is names) h)

pub names_fewer : (names : List (List ℕ)) → length (once names) ≤ length names
names_fewer names = let e = ap length (once_is names) in omega (arith, e, length_once same_text names)

-- where no name stands twice, nothing is taken away
pub once_same : (names : List (List ℕ)) → has_twice names ≡ false → once names ≡ names
once_same names e = once_is names ∙ once_kept same_text exact itself names (once_from names e)
