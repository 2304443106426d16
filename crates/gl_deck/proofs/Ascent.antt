-- The logical lines of bytes: their numbers ascend.
use Rattle.std.proofs.Common.{◌≤◌, ◌+◌, ℕ, suc, List, [], ◌∷◌, Bool, Result, Ok, Err, arith}
use Rattle.std.specs.Prelude.{⊤}
use Rattle.gl_text.specs.LogicalLines.{Line, Fault}
use Rattle.gl_text.specs.Decks.{file_lines}
use Rattle.gl_known.proofs.Ascent.{RisingLines, file_rises as lines_rise}

-- each number is at least n and more than the one before
abbrev pub Ascends : ℕ → List (Result Line Fault) → Type 0
Ascends n [] = ⊤
Ascends n (Err f ∷ ls) = ⊤
Ascends n (Ok l ∷ ls) = (n ≤ l.line) × Ascends (l.line + 1) ls

pub lower_lines : (n m : ℕ) (ls : List (Result Line Fault)) → n ≤ m → Ascends m ls → Ascends n ls
lower_lines n m [] h r = tt
lower_lines n m (Err f ∷ ls) h r = tt
lower_lines n m (Ok l ∷ ls) h r = (omega (arith, h, r.0), r.1)

ascends : (n : ℕ) (ls : List (Result Line Fault)) → RisingLines n ls → Ascends n ls
ascends n [] r = tt
ascends n (Err f ∷ ls) r = tt
ascends n (Ok l ∷ ls) r = (r.0, lower_lines (l.line + 1) (suc l.line) ls (omega arith) (ascends (suc l.line) ls r.1))

-- the numbers of a file's lines begin with 1 or more
pub file_rises : (has_title : Bool) (bytes : List ℕ) → Ascends 1 (file_lines has_title bytes)
file_rises has_title bytes = ascends 1 (file_lines has_title bytes) (lines_rise has_title bytes)
