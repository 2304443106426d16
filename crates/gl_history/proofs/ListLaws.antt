-- Lists, element by element.
use Rattle.std.proofs.Common.{◌≡◌, ◌+◌, ◌<◌, ℕ, suc, List, [], ◌∷◌, ◌++◌, length, take, drop, get_or, Option, sym, ap, ◌∙◌, arith, append_assoc}
use Rattle.std.specs.Prelude.{filter_map, flat_map, zip}
use Rattle.std.specs.List.{enumerate_from}
use Rattle.std.proofs.lemmas.List.{take_more, append-nil}
use Rattle.std.proofs.lemmas.List.Elements.{filter_map-append}
use Rattle.std.proofs.lemmas.List.FromFn.{get_or-enumerate_from}
use Rattle.std.proofs.lemmas.Slice.Zip.{get_or-zip}
use Rattle.std.proofs.lemmas.Grind.{flat_map-append}
use Rattle.std.proofs.Math.Seq.{drop-cons, drop-length}

-- behind the end there is nothing
pub none_behind : {X : Type 0} (xs : List X) (k : ℕ) → k ≡ length xs → drop k xs ≡ []
none_behind xs k e = ap (λ n. drop n xs) e ∙ drop-length xs

-- ---- filtered

-- what is kept of a front, one item longer
pub kept_more : {X Y : Type 0} (f : X → Option Y) (before : List Y) (xs : List X) (i : ℕ) (x : X) → i < length xs → x ≡ get_or xs i x → (before ++ filter_map f (take i xs)) ++ filter_map f (x ∷ []) ≡ before ++ filter_map f (take (i + 1) xs)
kept_more f before xs i x lt is =
    append_assoc before (filter_map f (take i xs)) (filter_map f (x ∷ []))
    ∙ ap (λ ys. before ++ ys) (sym (filter_map-append f (take i xs) (x ∷ [])) ∙ ap (λ y. filter_map f (take i xs ++ y ∷ [])) is ∙ ap (filter_map f) (sym (take_more xs i x lt)))

-- what is kept, and then what is left
pub kept_next : {X Y : Type 0} (f : X → Option Y) (xs : List X) (i n : ℕ) (x : X) (before after whole : List Y) → drop i xs ≡ x ∷ drop n xs → after ≡ before ++ filter_map f (x ∷ []) → before ++ filter_map f (drop i xs) ≡ whole → after ++ filter_map f (drop n xs) ≡ whole
kept_next f xs i n x before after whole from now was =
    ap (λ ys. ys ++ filter_map f (drop n xs)) now ∙ append_assoc before (filter_map f (x ∷ [])) (filter_map f (drop n xs))
    ∙ ap (λ ys. before ++ ys) (sym (filter_map-append f (x ∷ []) (drop n xs)) ∙ ap (filter_map f) (sym from)) ∙ was

-- at the end nothing is left
pub kept_end : {X Y : Type 0} (f : X → Option Y) (xs : List X) (n : ℕ) (all whole : List Y) → n ≡ length xs → all ++ filter_map f (drop n xs) ≡ whole → all ≡ whole
kept_end f xs n all whole e was = sym (append-nil all) ∙ sym (ap (λ ys. all ++ filter_map f ys) (none_behind xs n e)) ∙ was

-- ---- places

-- the item at a place, and those behind it
pub from_here : {X : Type 0} (xs : List X) (k n : ℕ) (x : X) → k < length xs → n ≡ k + 1 → x ≡ get_or xs k x → drop k xs ≡ x ∷ drop n xs
from_here xs k n x lt next is =
    let after : suc k ≡ n = omega (arith, next) in
    drop-cons xs k x lt ∙ (ap (λ y. y ∷ drop (suc k) xs) (sym is) ∙ ap (λ m. x ∷ drop m xs) after)

-- a numbered item is that of its place
pub numbered_at : {X : Type 0} (xs : List X) (i : ℕ) (x : X) → i < length xs → x ≡ get_or xs i x → (i, x) ≡ get_or (enumerate_from 0 xs) i (i, x)
numbered_at xs i x lt is = ap (λ y. (i, y)) is ∙ ap (λ n. (n, get_or xs i x)) (omega arith) ∙ sym (get_or-enumerate_from 0 xs i (i, x) lt)

-- and so is a pair
pub paired_at : {X Y : Type 0} (xs : List X) (ys : List Y) (i : ℕ) (x : X) (y : Y) → i < length xs → i < length ys → x ≡ get_or xs i x → y ≡ get_or ys i y → (x, y) ≡ get_or (zip xs ys) i (x, y)
paired_at xs ys i x y lt lu is it = (λ k. (is k, it k)) ∙ sym (get_or-zip xs ys i (x, y) lt lu)

-- ---- flat

-- what a front gives, one item longer
pub flat_more : {X Y : Type 0} (f : X → List Y) (before : List Y) (xs : List X) (i : ℕ) (x : X) → i < length xs → x ≡ get_or xs i x → (before ++ flat_map f (take i xs)) ++ f x ≡ before ++ flat_map f (take (i + 1) xs)
flat_more f before xs i x lt is =
    append_assoc before (flat_map f (take i xs)) (f x)
    ∙ ap (λ ys. before ++ ys) (ap (λ ys. flat_map f (take i xs) ++ ys) (sym (append-nil (f x))) ∙ sym (flat_map-append f (take i xs) (x ∷ [])) ∙ ap (λ y. flat_map f (take i xs ++ y ∷ [])) is ∙ ap (flat_map f) (sym (take_more xs i x lt)))
