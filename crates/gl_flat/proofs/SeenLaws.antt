-- Names that are seen one after the other.
use Rattle.std.proofs.Common.{◌≡◌, ◌<◌, ◌+◌, ℕ, List, [], ◌∷◌, ◌++◌, length, take, drop, get_or, Option, Result, Ok, Err, refl, sym, ap, ◌∙◌, subst, map, flat_map, append-nil}
use Rattle.std.proofs.lemmas.Grind.{flat_map-append}
use Rattle.std.proofs.lemmas.List.{take_more, take-append-drop}
use Rattle.std.proofs.lemmas.List.Concat.{flat_map_single}
use Rattle.gl_fault.proofs.AnswerLaws.{through}
use Rattle.gl_text.specs.LogicalLines.{Fault}
use Rattle.gl_fault.specs.Refusals.{◌>>=◌, IsRefusal}
use Rattle.gl_text.specs.Flattening.{Net, Bearer, net}
use Rattle.gl_flat.specs.SeenNames.{Seen, seen_with, seen_all}

-- ---- names behind names

both_by : (bs ys : List Bearer) (r : Result Seen Fault) → ((t : Seen) → seen_all t (bs ++ ys) ≡ (seen_all t bs >>= λ u. seen_all u ys)) → (r >>= λ t. seen_all t (bs ++ ys)) ≡ ((r >>= λ t. seen_all t bs) >>= λ u. seen_all u ys)
both_by bs ys (Ok t) h = h t
both_by bs ys (Err f) h = refl

pub seen_both : (s : Seen) (xs ys : List Bearer) → seen_all s (xs ++ ys) ≡ (seen_all s xs >>= λ t. seen_all t ys)
seen_both s [] ys = refl
seen_both s (b ∷ bs) ys = both_by bs ys (seen_with s b) (λ t. seen_both t bs ys)

pub seen_more : (s t u : Seen) (xs ys : List Bearer) → seen_all s xs ≡ Ok t → seen_all t ys ≡ Ok u → seen_all s (xs ++ ys) ≡ Ok u
seen_more s t u xs ys e f = seen_both s xs ys ∙ ap (λ r. r >>= λ v. seen_all v ys) e ∙ f

pub refused_more : (o : Option Fault) (s t : Seen) (xs ys : List Bearer) → seen_all s xs ≡ Ok t → IsRefusal o (seen_all t ys) → IsRefusal o (seen_all s (xs ++ ys))
refused_more o s t xs ys e h = subst (λ r. IsRefusal o r) (sym (seen_both s xs ys ∙ ap (λ r. r >>= λ v. seen_all v ys) e)) h

pub refused_before : (o : Option Fault) (s : Seen) (xs ys : List Bearer) → IsRefusal o (seen_all s xs) → IsRefusal o (seen_all s (xs ++ ys))
refused_before o s xs ys h = subst (λ r. IsRefusal o r) (sym (seen_both s xs ys)) (through o (seen_all s xs) (λ v. seen_all v ys) h)

-- ---- at an index

pub flat_more : {X Y : Type 0} (f : X → List Y) (xs : List X) (i : ℕ) (x : X) → i < length xs → x ≡ get_or xs i x → flat_map f (take (i + 1) xs) ≡ flat_map f (take i xs) ++ f x
flat_more f xs i x lt e = ap (flat_map f) (take_more xs i x lt ∙ ap (λ y. take i xs ++ y ∷ []) (sym e)) ∙ flat_map-append f (take i xs) (x ∷ []) ∙ ap (λ t. flat_map f (take i xs) ++ t) (append-nil (f x))

whole : {X : Type 0} (f : X → List Bearer) (xs : List X) (i : ℕ) (x : X) → i < length xs → x ≡ get_or xs i x → flat_map f xs ≡ (flat_map f (take i xs) ++ f x) ++ flat_map f (drop (i + 1) xs)
whole f xs i x lt e = ap (flat_map f) (sym (take-append-drop (i + 1) xs)) ∙ flat_map-append f (take (i + 1) xs) (drop (i + 1) xs) ∙ ap (λ t. t ++ flat_map f (drop (i + 1) xs)) (flat_more f xs i x lt e)

-- the item at an index is added
pub item_added : {X : Type 0} (f : X → List Bearer) (xs : List X) (i : ℕ) (x : X) (s t u : Seen) → i < length xs → x ≡ get_or xs i x → seen_all s (flat_map f (take i xs)) ≡ Ok t → seen_all t (f x) ≡ Ok u
    → seen_all s (flat_map f (take (i + 1) xs)) ≡ Ok u
item_added f xs i x s t u lt e g h = ap (seen_all s) (flat_more f xs i x lt e) ∙ seen_more s t u (flat_map f (take i xs)) (f x) g h

-- or refused
pub item_refused : {X : Type 0} (o : Option Fault) (f : X → List Bearer) (xs : List X) (i : ℕ) (x : X) (s t : Seen) → i < length xs → x ≡ get_or xs i x → seen_all s (flat_map f (take i xs)) ≡ Ok t → IsRefusal o (seen_all t (f x))
    → IsRefusal o (seen_all s (flat_map f xs))
item_refused o f xs i x s t lt e g h =
    subst (λ bs. IsRefusal o (seen_all s bs)) (sym (whole f xs i x lt e))
    (refused_before o s (flat_map f (take i xs) ++ f x) (flat_map f (drop (i + 1) xs)) (refused_more o s t (flat_map f (take i xs)) (f x) g h))

-- the same of nets
abbrev pub as_list : Net → List Bearer
as_list n = net n ∷ []

pub single : (ns : List Net) → flat_map as_list ns ≡ map net ns
single ns = flat_map_single net ns

pub net_added : (ns : List Net) (i : ℕ) (n : Net) (s t u : Seen) → i < length ns → n ≡ get_or ns i n → seen_all s (map net (take i ns)) ≡ Ok t → seen_all t (net n ∷ []) ≡ Ok u → seen_all s (map net (take (i + 1) ns)) ≡ Ok u
net_added ns i n s t u lt e g h = ap (seen_all s) (sym (single (take (i + 1) ns))) ∙ item_added as_list ns i n s t u lt e (ap (seen_all s) (single (take i ns)) ∙ g) h

pub net_refused : (o : Option Fault) (ns : List Net) (i : ℕ) (n : Net) (s t : Seen) → i < length ns → n ≡ get_or ns i n → seen_all s (map net (take i ns)) ≡ Ok t → IsRefusal o (seen_all t (net n ∷ [])) → IsRefusal o (seen_all s (map net ns))
net_refused o ns i n s t lt e g h = subst (λ bs. IsRefusal o (seen_all s bs)) (single ns) (item_refused o as_list ns i n s t lt e (ap (seen_all s) (single (take i ns)) ∙ g) h)
