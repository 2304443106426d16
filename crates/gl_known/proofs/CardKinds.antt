-- The kinds of cards: what a device needs.
use Rattle.std.proofs.Common.{◌≤◌, ◌<◌, ◌+◌, ℕ, List, [], ◌∷◌, cond, eqb, Bool, true, false, arith}
use Rattle.std.specs.List.{AllByRecursion}
use Rattle.gl_text.specs.LogicalLines.{same_text}
use Rattle.gl_text.specs.Cards.{Kind, device, other, unknown, word_in, dot_words, by_byte, kinds}

-- a device has a name, its nodes and at most a model before its tail
abbrev pub Right : Kind → Type 0
Right (device nodes count) = (nodes < count) × (count ≤ nodes + 2)
Right _ = Unit {0}

abbrev pub NoDevice : Kind → Type 0
NoDevice (device nodes count) = ⊥
NoDevice _ = Unit {0}

pick : (P : Kind → Type 0) (t : Bool) (x y : Kind) → P x → P y → P (cond t x y)
pick P true x y p q = p
pick P false x y p q = q

of_words : (P : Kind → Type 0) (ws : List (List ℕ × Kind)) (word : List ℕ) → AllByRecursion (λ (w : List ℕ × Kind). P w.1) ws → P other → P (word_in ws word)
of_words P [] word h o = o
of_words P (w ∷ ws) word h o = pick P (same_text w.0 word) w.1 (word_in ws word) h.0 (of_words P ws word h.1 o)

of_bytes : (P : Kind → Type 0) (ws : List (ℕ × Kind)) (b : ℕ) → AllByRecursion (λ (w : ℕ × Kind). P w.1) ws → P unknown → P (by_byte ws b)
of_bytes P [] b h u = u
of_bytes P (w ∷ ws) b h u = pick P (eqb w.0 b) w.1 (by_byte ws b) h.0 (of_bytes P ws b h.1 u)

-- no dot card is a device
pub dot_is_none : (word : List ℕ) → NoDevice (word_in dot_words word)
dot_is_none word = of_words NoDevice dot_words word (tt, (tt, (tt, (tt, (tt, (tt, tt)))))) tt

none_is_right : (k : Kind) → NoDevice k → Right k
none_is_right (device nodes count) h = absurd h
none_is_right _ h = tt

pub kind_is_right : (dot : Kind) (b : ℕ) → NoDevice dot → Right (by_byte (kinds dot) b)
kind_is_right dot b h = of_bytes Right (kinds dot) b ((omega arith, omega arith), ((omega arith, omega arith), ((omega arith, omega arith), ((omega arith, omega arith), ((omega arith, omega arith), ((omega arith, omega arith), ((omega arith, omega arith), (tt, (none_is_right dot h, tt))))))))) tt
