-- Words joined by spaces are the first word and each other word behind a space.
use Rattle.std.proofs.Common.{◌≡◌, ◌≤◌, List, ℕ, [], ◌∷◌, ◌++◌, length, take, refl, sym, ap, ◌∙◌, append_assoc, arith, length-append}
use Rattle.std.specs.Prelude.{Some, None, option_to_list}
use Rattle.std.specs.List.{join_with_byte}
use Rattle.std.proofs.lemmas.List.{append-nil, take-take, take_at}
use Rattle.gl_text.specs.Cards.{Device, Call, dev, call, printed, spaced}
use Rattle.std.specs.Option.{option_copied}
use Rattle.gl_card.specs.declared.line.Parts.{Parts}
use Rattle.gl_card.specs.Lines.{line_of, spaced_all}

pub joined : (w : List ℕ) (ws : List (List ℕ)) → join_with_byte 32 (w ∷ ws) ≡ w ++ spaced_all ws
joined w [] = sym (append-nil w)
joined w (v ∷ vs) = ap (λ t. w ++ (32 ∷ t)) (joined v vs)

both : (xs ys : List (List ℕ)) → spaced_all (xs ++ ys) ≡ spaced_all xs ++ spaced_all ys
both [] ys = refl
both (x ∷ xs) ys = ap (λ t. (32 ∷ x) ++ t) (both xs ys) ∙ sym (append_assoc (32 ∷ x) (spaced_all xs) (spaced_all ys))

-- a line is put together word by word
pub line_is : (first : List ℕ) (one many last : List (List ℕ)) (tail : List ℕ) → first ++ spaced_all one ++ spaced_all many ++ spaced_all last ++ tail ≡ join_with_byte 32 (first ∷ one ++ many ++ last) ++ tail
line_is first one many last tail =
    let words : spaced_all (one ++ many ++ last) ≡ spaced_all one ++ spaced_all many ++ spaced_all last = both (one ++ many) last ∙ ap (λ t. t ++ spaced_all last) (both one many) in
    let a : first ++ spaced_all one ++ spaced_all many ++ spaced_all last ≡ first ++ (spaced_all one ++ spaced_all many ++ spaced_all last) =
    append_assoc (first ++ spaced_all one) (spaced_all many) (spaced_all last) ∙ append_assoc first (spaced_all one) (spaced_all many ++ spaced_all last)
    ∙ ap (λ t. first ++ t) (sym (append_assoc (spaced_all one) (spaced_all many) (spaced_all last))) in
    ap (λ t. t ++ tail) (a ∙ ap (λ t. first ++ t) (sym words) ∙ sym (joined first (one ++ many ++ last)))

-- the line of a device, by its parts
pub device_line : (p : Parts) (d : Device) → p.one ≡ None → p.first.now ≡ d.name → p.many.now ≡ d.nodes → option_copied p.last ≡ d.model → p.tail.now ≡ d.tail → line_of p ≡ printed (dev d)
device_line p d one first many last tail =
    ap (λ o. join_with_byte 32 (p.first.now ∷ option_to_list (option_copied o) ++ p.many.now ++ option_to_list (option_copied p.last)) ++ spaced p.tail.now) one
    ∙ ap (λ w. join_with_byte 32 (w ∷ p.many.now ++ option_to_list (option_copied p.last)) ++ spaced p.tail.now) first
    ∙ ap (λ ns. join_with_byte 32 (d.name ∷ ns ++ option_to_list (option_copied p.last)) ++ spaced p.tail.now) many
    ∙ ap (λ m. join_with_byte 32 (d.name ∷ d.nodes ++ option_to_list m) ++ spaced p.tail.now) last
    ∙ ap (λ t. join_with_byte 32 (d.name ∷ d.nodes ++ option_to_list d.model) ++ spaced t) tail

-- the line of an X card, by its parts
pub call_line : (p : Parts) (x : Call) → p.one ≡ None → p.first.now ≡ x.name → p.many.now ≡ x.nodes → option_copied p.last ≡ Some x.sub → p.tail.now ≡ [] → line_of p ≡ printed (call x)
call_line p x one first many last tail =
    ap (λ o. join_with_byte 32 (p.first.now ∷ option_to_list (option_copied o) ++ p.many.now ++ option_to_list (option_copied p.last)) ++ spaced p.tail.now) one
    ∙ ap (λ w. join_with_byte 32 (w ∷ p.many.now ++ option_to_list (option_copied p.last)) ++ spaced p.tail.now) first
    ∙ ap (λ ns. join_with_byte 32 (x.name ∷ ns ++ option_to_list (option_copied p.last)) ++ spaced p.tail.now) many
    ∙ ap (λ m. join_with_byte 32 (x.name ∷ x.nodes ++ option_to_list m) ++ spaced p.tail.now) last
    ∙ ap (λ t. join_with_byte 32 (x.name ∷ x.nodes ++ x.sub ∷ []) ++ spaced t) tail
    ∙ append-nil (join_with_byte 32 (x.name ∷ x.nodes ++ x.sub ∷ []))

-- what was appended to what began with the text before still begins with it
pub front_stays : (out middle after more : List ℕ) → middle ≡ out ++ more → take (length middle) after ≡ middle → take (length out) after ≡ out
front_stays out middle after more is stays =
    let short : length out ≤ length middle = omega (arith, ap length is, length-append out more) in
    let cut : take (length out) (take (length middle) after) ≡ take (length out) after = take-take (length out) (length middle) after short in
    sym cut ∙ (ap (take (length out)) (stays ∙ is) ∙ take_at out more (length out) refl)

-- a text begins with what it was appended to
pub front_of : (out after more : List ℕ) → after ≡ out ++ more → take (length out) after ≡ out
front_of out after more is = ap (take (length out)) is ∙ take_at out more (length out) refl
