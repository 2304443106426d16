-- The letters of device cards.
use Rattle.std.specs.Prelude.{ℕ}
use Rattle.gl_card.specs.declared.letter.Letter.{Letter}
use Rattle.gl_card.specs.declared.letter.Letter.TheVariants.{M, D, R, C, L, V, I}

-- the byte with which a card of the letter begins, folded
abbrev pub byte_of : Letter → ℕ
byte_of M = 109
byte_of D = 100
byte_of R = 114
byte_of C = 99
byte_of L = 108
byte_of V = 118
byte_of I = 105
