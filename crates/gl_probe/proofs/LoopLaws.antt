-- What a loop appends, turn by turn.
use Rattle.std.proofs.Common.{◌≡◌, ℕ, ◌+◌, ◌<◌, ◌≤◌, List, [], ◌∷◌, ◌++◌, length, take, get_or, min, sym, ap, ◌∙◌, arith}
use Rattle.std.specs.Prelude.{flat_map, zip}
use Rattle.std.specs.List.{enumerate_from}
use Rattle.std.proofs.lemmas.List.{flat_map_more, take_more, take_all}
use Rattle.std.proofs.lemmas.List.FromFn.{length-enumerate_from, get_or-enumerate_from}
use Rattle.std.proofs.lemmas.Slice.Zip.{get_or-zip, length-zip}

module _ {A : Type 0} (f : A → List ℕ) where
  -- a turn appends the text of one more item
  turn_appends : (xs : List A) (i n : ℕ) (x : A) (out before after : List ℕ) → i < length xs → n ≡ i + 1 → x ≡ get_or xs i x → before ≡ out ++ flat_map f (take i xs) → after ≡ before ++ f x → after ≡ out ++ flat_map f (take n xs)
  turn_appends xs i n x out before after lt next is was now =
      let more : take n xs ≡ take i xs ++ x ∷ [] = ap (λ (m : ℕ). take m xs) next ∙ (take_more xs i x lt ∙ ap (λ (y : A). take i xs ++ y ∷ []) (sym is)) in
      now ∙ (ap (λ (t : List ℕ). t ++ f x) was ∙ (flat_map_more f out (take i xs) x ∙ ap (λ (ys : List A). out ++ flat_map f ys) (sym more)))

  -- the last turn has appended them all
  all_appended : (xs : List A) (i : ℕ) (out text : List ℕ) → length xs ≤ i → text ≡ out ++ flat_map f (take i xs) → text ≡ out ++ flat_map f xs
  all_appended xs i out text all is = is ∙ ap (λ (ys : List A). out ++ flat_map f ys) (take_all i xs all)

-- a turn appends the text of one more item, numbered from 0
pub numbered_turn : {A : Type 0} (f : ℕ × A → List ℕ) (xs : List A) (i : ℕ) (x : A) (out before after : List ℕ) → i < length xs → x ≡ get_or xs i x → before ≡ out ++ flat_map f (take i (enumerate_from 0 xs)) → after ≡ before ++ f (i, x) → after ≡ out ++ flat_map f (take (i + 1) (enumerate_from 0 xs))
numbered_turn {A} f xs i x out before after lt is was now =
    let number : i ≡ 0 + i = omega arith in
    let own : (i, x) ≡ get_or (enumerate_from 0 xs) i (i, x) = ap (λ (y : A). (i, y)) is ∙ (ap (λ (n : ℕ). (n, get_or xs i x)) number ∙ sym (get_or-enumerate_from 0 xs i (i, x) lt)) in
    turn_appends f (enumerate_from 0 xs) i (i + 1) (i, x) out before after (omega (arith, length-enumerate_from 0 xs, lt)) (omega arith) own was now

pub numbered_all : {A : Type 0} (f : ℕ × A → List ℕ) (xs : List A) (i : ℕ) (out text : List ℕ) → length xs ≤ i → text ≡ out ++ flat_map f (take i (enumerate_from 0 xs)) → text ≡ out ++ flat_map f (enumerate_from 0 xs)
numbered_all f xs i out text all is = all_appended f (enumerate_from 0 xs) i out text (omega (arith, length-enumerate_from 0 xs, all)) is

-- a turn appends the text of one more pair of two lists side by side
pub pair_turn : {A B : Type 0} (f : A × B → List ℕ) (ks : List A) (vs : List B) (i n : ℕ) (x : A) (y : B) (out before after : List ℕ) → i < length ks → i < length vs → n ≡ i + 1 → x ≡ get_or ks i x → y ≡ get_or vs i y → before ≡ out ++ flat_map f (take i (zip ks vs)) → after ≡ before ++ f (x, y) → after ≡ out ++ flat_map f (take n (zip ks vs))
pair_turn {A} {B} f ks vs i n x y out before after lt lt' next is_x is_y was now =
    let pair : A × B = (x, y) in
    let own : pair ≡ (get_or ks i x, get_or vs i y) = ap (λ (z : A). (z, y)) is_x ∙ ap (λ (z : B). (get_or ks i x, z)) is_y in
    turn_appends f (zip ks vs) i n pair out before after (omega (arith, length-zip ks vs, lt, lt')) next (own ∙ sym (get_or-zip ks vs i pair lt lt')) was now

pub pair_all : {A B : Type 0} (f : A × B → List ℕ) (ks : List A) (vs : List B) (i : ℕ) (out text : List ℕ) → i ≡ min (length ks) (length vs) → text ≡ out ++ flat_map f (take i (zip ks vs)) → text ≡ out ++ flat_map f (zip ks vs)
pair_all f ks vs i out text all is = all_appended f (zip ks vs) i out text (omega (arith, length-zip ks vs, all)) is
