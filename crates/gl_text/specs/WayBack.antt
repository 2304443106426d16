-- Names and devices that were read.
use Rattle.std.specs.Prelude.{◌≡◌, ◌≤◌, ◌==◌, ℕ, List, [], ◌∷◌, ◌++◌, length, Option, nat_lt, true, false, option_to_list, Ok}
use Rattle.std.specs.List.{AllByRecursion}
use Rattle.gl_text.specs.LogicalLines.{NAME, TAIL, is_separator, folded, fold_byte, tail_of}
use Rattle.gl_text.specs.Cards.{Card, Kind, caller, device, kinds, by_byte, read_card, printed}

-- a text holds no newline
abbrev pub IsOneLine : List ℕ → Type 0
IsOneLine text = AllByRecursion (λ b. (b == 10) ≡ false) text

-- a name as it is read: not empty, on one line, without separators, folded, not too long
pub record IsName (bytes : List ℕ) : Type 0 where
  pub some : nat_lt 0 (length bytes) ≡ true
  pub one_line : IsOneLine bytes
  pub plain : AllByRecursion (λ b. is_separator b ≡ false) bytes
  pub small : folded bytes ≡ bytes
  pub short : length bytes ≤ NAME

-- a card that is printed is read again, on this line
abbrev pub IsReadAgain : ℕ → Card → Type 0
IsReadAgain line c = read_card (record { line = line; text = printed c }) ≡ Ok c

-- what a device is that was read
pub record IsDevice (b : ℕ) (bs : List ℕ) (nodes : List (List ℕ)) (model : Option (List ℕ)) (tail : List ℕ) : Type 0 where
  pub letter : (dot : Kind) → by_byte (kinds dot) (fold_byte b) ≡ device (length nodes) (length ((b ∷ bs) ∷ nodes ++ option_to_list model))
  pub names : AllByRecursion IsName ((b ∷ bs) ∷ nodes ++ option_to_list model)
  pub normal : tail_of tail ≡ tail
  pub short : length tail ≤ TAIL

-- what an X card is that was read
pub record IsCall (b : ℕ) (bs : List ℕ) (nodes : List (List ℕ)) (sub : List ℕ) : Type 0 where
  pub letter : (dot : Kind) → by_byte (kinds dot) (fold_byte b) ≡ caller
  pub names : AllByRecursion IsName ((b ∷ bs) ∷ nodes ++ sub ∷ [])
