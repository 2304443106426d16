-- What the tables of kinds say.
use Rattle.std.proofs.Common.{◌≡◌, ◌≤◌, ◌+◌, ℕ, List, [], ◌∷◌, ◌++◌, cond, eqb, true, false, Bool, refl, sym, ap, subst, arith, eqb-true, codes}
use Rattle.std.specs.List.{AllByRecursion}
use Rattle.gl_text.specs.LogicalLines.{same_text, first_field, fold_byte, is_separator}
use Rattle.gl_text.specs.Cards.{Kind, device, caller, modelling, opening, closing, globals, ending, control, other, unknown, word_in, dot_words, by_byte, kinds, kind_of, is_unknown}
use Rattle.gl_lists.proofs.Each.{by_cond}
use Rattle.gl_printed.proofs.Bytes.{IsStart, start_of_folded}
use Rattle.gl_text.proofs.Names.{exact}

-- ---- the words behind a dot

-- the kinds of cards that begin with a dot
abbrev pub is_of_dot : Kind → Bool
is_of_dot (device nodes count) = false
is_of_dot caller = false
is_of_dot unknown = false
is_of_dot _ = true

abbrev pub Wanted : Kind → List ℕ → Type 0
Wanted opening f = f ≡ codes ".subckt"
Wanted closing f = f ≡ codes ".ends"
Wanted modelling f = f ≡ codes ".model"
Wanted globals f = f ≡ codes ".global"
Wanted ending f = f ≡ codes ".end"
Wanted _ f = Unit {0}

word_elim : (P : Kind → List ℕ → Type 0) (ws : List (List ℕ × Kind)) (f : List ℕ) → AllByRecursion (λ w. w.0 ≡ f → P w.1 f) ws → P other f → P (word_in ws f) f
word_elim P [] f h o = o
word_elim P (w ∷ ws) f h o = by_cond (λ k. P k f) (same_text w.0 f) w.1 (word_in ws f) (λ e. h.0 (exact w.0 f e)) (λ e. word_elim P ws f h.1 o)

pub word_is : (f : List ℕ) → Wanted (word_in dot_words f) f
word_is f = word_elim Wanted dot_words f ((λ e. sym e), ((λ e. sym e), ((λ e. sym e), ((λ e. sym e), ((λ e. sym e), ((λ e. tt), tt)))))) tt

pub word_of_dot : (f : List ℕ) → is_of_dot (word_in dot_words f) ≡ true
word_of_dot f = word_elim (λ k g. is_of_dot k ≡ true) dot_words f ((λ e. refl), ((λ e. refl), ((λ e. refl), ((λ e. refl), ((λ e. refl), ((λ e. refl), tt)))))) refl

-- ---- the table by bytes

pub kind_elim : (P : Kind → Type 0) (ws : List (ℕ × Kind)) (b : ℕ) → AllByRecursion (λ w. P w.1) ws → P unknown → P (by_byte ws b)
kind_elim P [] b h u = u
kind_elim P (w ∷ ws) b h u = by_cond P (eqb w.0 b) w.1 (by_byte ws b) (λ e. h.0) (λ e. kind_elim P ws b h.1 u)

key_elim : (P : ℕ → Type 0) (ws : List (ℕ × Kind)) (b : ℕ) → AllByRecursion (λ w. P w.0) ws → is_unknown (by_byte ws b) ≡ false → P b
key_elim P [] b h u = absurd cc
key_elim P (w ∷ ws) b h u = by_cond (λ k. is_unknown k ≡ false → P b) (eqb w.0 b) w.1 (by_byte ws b) (λ e v. subst P (eqb-true w.0 b e) h.0) (λ e v. key_elim P ws b h.1 v) u

start_key : (dot : Kind) (b : ℕ) → is_unknown (by_byte (kinds dot) b) ≡ false → IsStart b
start_key dot b = let s : (x : ℕ) → is_separator x ≡ false → eqb x 42 ≡ false → eqb x 43 ≡ false → IsStart x = λ x p q r. record { plain = p; no_star = q; no_plus = r } in
    key_elim IsStart (kinds dot) b (s 109 refl refl refl, (s 100 refl refl refl, (s 114 refl refl refl, (s 99 refl refl refl, (s 108 refl refl refl, (s 118 refl refl refl, (s 105 refl refl refl, (s 120 refl refl refl, (s 46 refl refl refl, tt)))))))))

-- where there is a card, a byte is first from which one can begin
pub start_is : (b : ℕ) (bs : List ℕ) → is_unknown (kind_of (b ∷ bs)) ≡ false → IsStart b
start_is b bs h = start_of_folded b (start_key (word_in dot_words (first_field (b ∷ bs))) (fold_byte b) h)

-- how many nodes and names a device has
abbrev pub Shaped : Kind → Type 0
Shaped (device nodes count) = (nodes + 1 ≤ count) × (count ≤ nodes + 2) × (count ≤ 6)
Shaped _ = Unit {0}

dot_shaped : (k : Kind) → is_of_dot k ≡ true → Shaped k
dot_shaped (device nodes count) h = absurd cc
dot_shaped caller h = tt
dot_shaped modelling h = tt
dot_shaped opening h = tt
dot_shaped closing h = tt
dot_shaped globals h = tt
dot_shaped ending h = tt
dot_shaped control h = tt
dot_shaped other h = tt
dot_shaped unknown h = tt

shaped : (nodes count : ℕ) → nodes + 1 ≤ count → count ≤ nodes + 2 → count ≤ 6 → Shaped (device nodes count)
shaped nodes count a b c = (a, b, c)

pub letter_shaped : (dot : Kind) (b : ℕ) → Shaped dot → Shaped (by_byte (kinds dot) b)
letter_shaped dot b d =
    let two : Shaped (device 2 3) = shaped 2 3 (omega arith) (omega arith) (omega arith) in
    kind_elim Shaped (kinds dot) b
    (shaped 4 6 (omega arith) (omega arith) (omega arith), (shaped 2 4 (omega arith) (omega arith) (omega arith), (two, (two, (two, (two, (two, (tt, (d, tt))))))))) tt

pub kind_shaped : (b : ℕ) (bs : List ℕ) → Shaped (kind_of (b ∷ bs))
kind_shaped b bs = let dot = word_in dot_words (first_field (b ∷ bs)) in letter_shaped dot (fold_byte b) (dot_shaped dot (word_of_dot (first_field (b ∷ bs))))

-- a kind that no dot gives does not depend on what the dot gives
abbrev behind_dot : Kind → List (ℕ × Kind)
behind_dot dot = (46, dot) ∷ []

any_dot : (ws : List (ℕ × Kind)) (b : ℕ) (d e k : Kind) → (d ≡ k → ⊥) → by_byte (ws ++ behind_dot d) b ≡ k → by_byte (ws ++ behind_dot e) b ≡ k
any_dot [] b d e k n = by (eqb 46 b) where
  by : (t : Bool) → cond t d unknown ≡ k → cond t e unknown ≡ k
  by true h = absurd (n h)
  by false h = h
any_dot (w ∷ ws) b d e k n = by (eqb w.0 b) (any_dot ws b d e k n) where
  by : (t : Bool) → (by_byte (ws ++ behind_dot d) b ≡ k → by_byte (ws ++ behind_dot e) b ≡ k) → cond t w.1 (by_byte (ws ++ behind_dot d) b) ≡ k → cond t w.1 (by_byte (ws ++ behind_dot e) b) ≡ k
  by true f h = h
  by false f h = f h

letters : List (ℕ × Kind)
letters = (109, device 4 6) ∷ (100, device 2 4) ∷ (114, device 2 3) ∷ (99, device 2 3) ∷ (108, device 2 3) ∷ (118, device 2 3) ∷ (105, device 2 3) ∷ (120, caller) ∷ []

no_dot : (d k : Kind) → is_of_dot d ≡ true → is_of_dot k ≡ false → d ≡ k → ⊥
no_dot d k h i e = let f = ap is_of_dot e in cc

pub letter_is : (b : ℕ) (bs : List ℕ) (k : Kind) → is_of_dot k ≡ false → kind_of (b ∷ bs) ≡ k → (dot : Kind) → by_byte (kinds dot) (fold_byte b) ≡ k
unfolding letters
letter_is b bs k i h dot = let d = word_in dot_words (first_field (b ∷ bs)) in any_dot letters (fold_byte b) d dot k (no_dot d k (word_of_dot (first_field (b ∷ bs))) i) h

-- a kind that a dot gives is that of the word
dot_by : (ws : List (ℕ × Kind)) (b : ℕ) (d k : Kind) → AllByRecursion (λ w. is_of_dot w.1 ≡ false) ws → is_of_dot k ≡ true → by_byte (ws ++ behind_dot d) b ≡ k → (b ≡ 46) × (d ≡ k)
dot_by [] b d k h i = by (eqb 46 b) refl where
  by : (t : Bool) → eqb 46 b ≡ t → cond t d unknown ≡ k → (b ≡ 46) × (d ≡ k)
  by true e g = (sym (eqb-true 46 b e), g)
  by false e g = absurd (let f = ap is_of_dot g in cc)
dot_by (w ∷ ws) b d k h i = by (eqb w.0 b) (dot_by ws b d k h.1 i) where
  by : (t : Bool) → (by_byte (ws ++ behind_dot d) b ≡ k → (b ≡ 46) × (d ≡ k)) → cond t w.1 (by_byte (ws ++ behind_dot d) b) ≡ k → (b ≡ 46) × (d ≡ k)
  by true r g = absurd (let f = ap is_of_dot g in let j = h.0 in cc)
  by false r g = r g

pub dot_is : (b : ℕ) (bs : List ℕ) (k : Kind) → is_of_dot k ≡ true → kind_of (b ∷ bs) ≡ k → (fold_byte b ≡ 46) × (word_in dot_words (first_field (b ∷ bs)) ≡ k)
unfolding letters
dot_is b bs k i h = dot_by letters (fold_byte b) (word_in dot_words (first_field (b ∷ bs))) k (refl, (refl, (refl, (refl, (refl, (refl, (refl, (refl, tt)))))))) i h

pub word_wanted : (b : ℕ) (bs : List ℕ) (k : Kind) → is_of_dot k ≡ true → kind_of (b ∷ bs) ≡ k → Wanted k (first_field (b ∷ bs))
word_wanted b bs k i h = let f = first_field (b ∷ bs) in subst (λ x. Wanted x f) (dot_is b bs k i h).1 (word_is f)
